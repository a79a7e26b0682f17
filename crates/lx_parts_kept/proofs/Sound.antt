-- What the three tests say together.
use Rattle.std.proofs.Common.{◌≡◌, ℕ, zero, suc, ◌+◌, Bool, true, false, ◌||◌, ◌&&◌, not, List, [], ◌∷◌, ◌++◌, Option, Some, None, nat_eq, slice_get, length, refl, sym, ap, subst, ◌∙◌, arith, inl, inr}
use Rattle.std.specs.List.{list_all, list_any}
use Rattle.std.proofs.lemmas.Bool.{and_from, and_parts, eqb-true, or_cases, true≢false}
use Rattle.lx_arena.specs.Lower.{EachLower, all_at}
use Rattle.lx_arena.proofs.Places.{lower_at}
use Rattle.lx_circuit.specs.Circuit.{is_among}
use Rattle.lx_fhdl.specs.Kept.{is_kept, is_signal}
use Rattle.lx_fhdl.specs.declared.design.Design.{Design}
use Rattle.lx_fhdl.specs.declared.design.Domain.{Domain}
use Rattle.lx_fhdl.specs.declared.design.Signal.{Signal}
use Rattle.lx_fhdl.specs.declared.exprs.SigId.{SigId}
use Rattle.lx_fhdl.specs.declared.stmts.Target.{Target}
use Rattle.lx_fhdl.specs.declared.stmts.Target.TheVariants as target
use Rattle.lx_description.specs.Below.{fsm_below}
use Rattle.lx_description.specs.Keeping.{KeepsDescription, have_clock, is_driven, is_generated, is_reserved}
use Rattle.lx_description.specs.Kept.{fsm_stmt_stands, fsms_keep, is_fsm, is_left, is_some_generated, keeps_description}
use Rattle.lx_description.specs.Wires.{bus_signals, resets, some_number}
use Rattle.lx_description.specs.declared.description.Description.{Description}
use Rattle.lx_description.proofs.Kept.{keeps_description-is}
use Rattle.lx_fsm_kept.specs.Stand.{fsms_stand, has_signal, passes, some_left}
use Rattle.lx_fsm_kept.specs.Stand as stand
use Rattle.lx_parts_kept.specs.Laws.{PartsKeep}
use Rattle.lx_parts_kept.specs.Parts.{is_open, names_open, parts_keep}
use Rattle.lx_parts_kept.proofs.Undriven.{not_driven}

-- ---- targets that pass a signal

differs : (d : Description) (x y : ℕ) → is_open d x ≡ false → is_open d y ≡ true → not (nat_eq y x) ≡ true
differs d x y closed opened = by_answer (nat_eq y x) refl
  where
    by_answer : (b : Bool) → nat_eq y x ≡ b → not b ≡ true
    by_answer true e = absurd (true≢false (sym (subst (λ z. is_open d z ≡ true) (eqb-true y x e) opened) ∙ closed))
    by_answer false e = refl

passes_closed : (d : Description) (x : ℕ) → is_open d x ≡ false → (y : Target) → names_open d y ≡ true → passes x y ≡ true
passes_closed d x e (target.Whole y) h = differs d x y.0 e h
passes_closed d x e (target.Part y low len) h = differs d x y.0 e h
passes_closed d x e (target.Cat parts) h = refl
passes_closed d x e (target.Pick items index) h = refl

pass_closed : (d : Description) (x : ℕ) → is_open d x ≡ false → (ts : List Target) → list_all (names_open d) ts ≡ true → list_all (passes x) ts ≡ true
pass_closed d x e [] h = refl
pass_closed d x e (t ∷ ts) h =
    let p = and_parts (names_open d t) (list_all (names_open d) ts) h in
    and_from (passes x t) (list_all (passes x) ts) (passes_closed d x e t p.0) (pass_closed d x e ts p.1)

left_one : (d : Description) (o : Option SigId) (rest : List ℕ) (x : ℕ) → some_left d o ≡ true → (is_among x rest ≡ true → stand.is_left d x ≡ true) → is_among x (some_number o ++ rest) ≡ true → stand.is_left d x ≡ true
left_one d None rest x s h e = h e
left_one d (Some y) rest x s h e =
    elim (or_cases (nat_eq y.0 x) (is_among x rest) e) [
      | inl p ↦ subst (λ (k : ℕ). stand.is_left d k ≡ true) (eqb-true y.0 x p) s
      | inr q ↦ h q
    ]

left_at : (d : Description) (xs : List Domain) (x : ℕ) → list_all (λ (a : Domain). some_left d a.reset) xs ≡ true → is_among x (resets xs) ≡ true → stand.is_left d x ≡ true
left_at d [] x all e = absurd (cc)
left_at d (a ∷ as_) x all e =
    let p = and_parts (some_left d a.reset) (list_all (λ (b : Domain). some_left d b.reset) as_) all in
    left_one d a.reset (resets as_) x p.0 (left_at d as_ x p.1) e

-- a test of signals that are there
some_generated : (o : Option Signal) (s : Signal) → o ≡ Some s → is_generated s ≡ true → is_some_generated o ≡ true
some_generated (Some s) t e h = let same : s ≡ t = cc in subst (λ r. is_generated r ≡ true) (sym same) h
some_generated None t e h = absurd (cc)

generated_closed : (a b : Bool) → a ≡ true → (not a && not b) ≡ false
generated_closed true b e = refl
generated_closed false b e = absurd (cc)

bus_closed : (a b : Bool) → b ≡ true → (not a && not b) ≡ false
bus_closed true true e = refl
bus_closed false true e = refl
bus_closed a false e = absurd (cc)

-- ---- signals that are left

record Passed (d : Description) : Type 0 where
  opened : list_all (names_open d) d.design.targets ≡ true
  resets : list_all (λ (x : Domain). some_left d x.reset) d.design.domains ≡ true

reserved_passed : (d : Description) → Passed d → (x : ℕ) (s : Signal) → slice_get d.design.signals x ≡ Some s → is_reserved d s x ≡ true → list_all (passes x) d.design.targets ≡ true
reserved_passed d h x s at e =
    elim (or_cases (is_generated s) (is_among x (resets d.design.domains) || is_among x (bus_signals d.soc)) e) [
      | inl p ↦ pass_closed d x (generated_closed (is_some_generated (slice_get d.design.signals x)) (is_among x (bus_signals d.soc)) (some_generated (slice_get d.design.signals x) s at p)) d.design.targets h.opened
      | inr q ↦
          elim (or_cases (is_among x (resets d.design.domains)) (is_among x (bus_signals d.soc)) q) [
            | inl r ↦ (and_parts (list_all (passes x) d.design.targets) (not (list_any (has_signal x) d.fsms)) (left_at d d.design.domains x h.resets r)).0
            | inr r ↦ pass_closed d x (bus_closed (is_some_generated (slice_get d.design.signals x)) (is_among x (bus_signals d.soc)) r) d.design.targets h.opened
          ]
    ]

left_from : (a b : Bool) → (a ≡ true → b ≡ false) → (not a || not b) ≡ true
left_from true b h = ap not (h refl)
left_from false b h = refl

signal_left : (d : Description) → Passed d → (x : ℕ) (s : Signal) → slice_get d.design.signals x ≡ Some s → is_left d s x ≡ true
signal_left d h x s at = left_from (is_reserved d s x) (is_driven d x) (λ e. not_driven d x (reserved_passed d h x s at e))

-- ---- tests of all places

all_from : {X : Type 0} (test : X → ℕ → Bool) (xs : List X) (n : ℕ) → ((k : ℕ) (x : X) → slice_get xs k ≡ Some x → test x (n + k) ≡ true) → all_at test n xs ≡ true
all_from test [] n h = refl
all_from test (x ∷ xs) n h =
    let first : n + 0 ≡ n = omega arith in
    and_from (test x n) (all_at test (n + 1) xs) (subst (λ j. test x j ≡ true) first (h zero x refl))
    (all_from test xs (n + 1) (λ k y e. let next : n + suc k ≡ n + 1 + k = omega arith in subst (λ j. test y j ≡ true) next (h (suc k) y e)))

all_pass : {X : Type 0} (test : X → ℕ → Bool) (xs : List X) → ((k : ℕ) (x : X) → slice_get xs k ≡ Some x → test x k ≡ true) → all_at test 0 xs ≡ true
all_pass test xs h = all_from test xs 0 (λ k x e. let same : k ≡ 0 + k = omega arith in subst (λ j. test x j ≡ true) same (h k x e))

-- ---- the whole

fsms_pass : (d : Description) → fsms_stand d ≡ true → EachLower fsm_below d.fsm_stmts → fsms_keep d ≡ true
fsms_pass d h low =
    let n = length d.design.exprs in
    let m = length d.design.targets in
    let p = and_parts (list_all (fsm_stmt_stands n m) d.fsm_stmts) (list_all (is_fsm d) d.fsms && (have_clock d && list_all (λ (a : Domain). some_left d a.reset) d.design.domains)) h in
    let q = and_parts (list_all (is_fsm d) d.fsms) (have_clock d && list_all (λ (a : Domain). some_left d a.reset) d.design.domains) p.1 in
    let r = and_parts (have_clock d) (list_all (λ (a : Domain). some_left d a.reset) d.design.domains) q.1 in
    and_from (all_at fsm_below 0 d.fsm_stmts) (list_all (fsm_stmt_stands n m) d.fsm_stmts && (list_all (is_fsm d) d.fsms && have_clock d)) (all_pass fsm_below d.fsm_stmts (lower_at fsm_below d.fsm_stmts low))
    (and_from (list_all (fsm_stmt_stands n m) d.fsm_stmts) (list_all (is_fsm d) d.fsms && have_clock d) p.0 (and_from (list_all (is_fsm d) d.fsms) (have_clock d) q.0 r.0))

resets_pass : (d : Description) → fsms_stand d ≡ true → list_all (λ (a : Domain). some_left d a.reset) d.design.domains ≡ true
resets_pass d h =
    let n = length d.design.exprs in
    let m = length d.design.targets in
    let p = and_parts (list_all (fsm_stmt_stands n m) d.fsm_stmts) (list_all (is_fsm d) d.fsms && (have_clock d && list_all (λ (a : Domain). some_left d a.reset) d.design.domains)) h in
    let q = and_parts (list_all (is_fsm d) d.fsms) (have_clock d && list_all (λ (a : Domain). some_left d a.reset) d.design.domains) p.1 in
    (and_parts (have_clock d) (list_all (λ (a : Domain). some_left d a.reset) d.design.domains) q.1).1

tests_pass : (d : Description) → is_kept d.design ≡ true → fsms_stand d ≡ true → EachLower fsm_below d.fsm_stmts → parts_keep d ≡ true → keeps_description d ≡ true
unfolding keeps_description
tests_pass d design fsms low h =
    let p = and_parts _ _ h in
    let opened = and_parts _ _ p.0 in
    let q = and_parts _ _ p.1 in
    let declared = and_parts _ _ q.0 in
    let others = and_parts _ _ declared.1 in
    let r = and_parts _ _ q.1 in
    let places = and_parts _ _ r.0 in
    let passed : Passed d = record { opened = opened.1; resets = resets_pass d fsms } in
    and_from _ _ (and_from _ _ design opened.0)
    (and_from _ _ (and_from _ _ declared.0 (and_from _ _ others.0 (fsms_pass d fsms low)))
    (and_from _ _ (and_from _ _ others.1 (and_from _ _ (all_pass (is_left d) d.design.signals (signal_left d passed)) places.1)) r.1))

pub parts_law : PartsKeep
parts_law d design fsms low h = keeps_description-is d (tests_pass d design fsms low h)

-- what a test that answered b says
pub test_tells : (d : Description) (b : Bool) → is_kept d.design ≡ true → fsms_stand d ≡ true → EachLower fsm_below d.fsm_stmts → b ≡ parts_keep d → b ≡ true → KeepsDescription d
test_tells d b design fsms low is holds = parts_law d design fsms low (sym is ∙ holds)

design_signals : (d : Design) → is_kept d ≡ true → list_all is_signal d.signals ≡ true
unfolding is_kept
design_signals d h = let p = and_parts _ _ h in let q = and_parts _ _ p.1 in (and_parts _ _ q.0).0

-- the signals of a design that passes its test
pub are_signals : (d : Description) → is_kept d.design ≡ true → list_all is_signal d.design.signals ≡ true
are_signals d h = design_signals d.design h
