-- Circuits of the same signals, memories and ports whose statements give the same results have the same runs.
use Rattle.std.proofs.Common.{◌≡◌, ℕ, ◌+◌, Bool, true, not, ◌&&◌, ◌||◌, List, [], ◌∷◌, cond, refl, sym, ◌∙◌, ap, subst, zero, suc, inl, inr}
use Rattle.std.proofs.lemmas.Bool.{or_cases, or_left, or_right}
use Rattle.std.proofs.Math.Path.{fun_ext}
use Rattle.std.specs.Prelude.{slice_index_or}
use Rattle.lx_num.specs.Ints.{Fits}
use Rattle.lx_circuit.specs.Places.{Place, Values, At, Word, Kept}
use Rattle.lx_circuit.specs.Statements.{Block, taken_block, result, drives_block}
use Rattle.lx_circuit.specs.Circuit.{Circuit, Domain, Role, Input, Comb, Sync, Read, Undriven, Step, shapes, made, role, sync_role, read_role, idle_role, is_among, is_some_reset, by_role, by_place, IsSettled, no_domain, domain_at, is_reset, next, next_state, first_state, ViewFrom}
use Rattle.lx_circuit.specs.Fitting.{InputsFit, StepsFit, StateFits, KeepsShapes}
use Rattle.lx_circuit.specs.Reads.{HasOrder, reads_block, role_reads, reads_in}
use Rattle.lx_circuit.specs.Runs.{HaveSameRuns}
use Rattle.lx_circuit.proofs.Fitting.{settled_fits, next_state_fits, first_state_fits}

-- ---- circuits that are alike

-- the values of all signals fit their shapes
pub record AllFit (c : Circuit) (v : Values) : Type 0 where
  pub each : (x : ℕ) → Fits (shapes c x) (v (At x))

-- for circuits of the same signals: the same roles and resets, and the same results under values that fit
pub record IsAlike (c e : Circuit) : Type 0 where
  pub roles : (x : ℕ) → role c x ≡ role e x
  pub resets : (d : ℕ) → (domain_at c d).reset ≡ (domain_at e d).reset
  pub comb : (v : Values) → AllFit c v → (x : ℕ) → role c x ≡ Comb → result (shapes c) x (made c x).reset (taken_block (shapes c) v c.comb) ≡ result (shapes c) x (made c x).reset (taken_block (shapes c) v e.comb)
  pub sync : (v : Values) → AllFit c v → (x d : ℕ) → role c x ≡ Sync d → result (shapes c) x (v (At x)) (taken_block (shapes c) v (domain_at c d).stmts) ≡ result (shapes c) x (v (At x)) (taken_block (shapes c) v (domain_at e d).stmts)

-- a circuit with other statements
abbrev pub with_stmts : Circuit → Block → List Domain → List ℕ → Circuit
with_stmts c comb domains ios = record { signals = c.signals; comb = comb; domains = domains; memories = c.memories; ports = c.ports; ios = ios }

-- the same signals, memories and ports from here on are the same lists
abbrev pub beside : Circuit → Circuit → Circuit
beside c e = with_stmts c e.comb e.domains e.ios

back_alike : (c e : Circuit) → IsAlike c (beside c e) → IsAlike (beside c e) c
back_alike c e a = record {
  roles = λ x. sym (a.roles x);
  resets = λ d. sym (a.resets d);
  comb = λ v f x r. sym (a.comb v (record { each = f.each }) x (a.roles x ∙ r));
  sync = λ v f x d r. sym (a.sync v (record { each = f.each }) x d (a.roles x ∙ r));
}

-- ---- values, states and views

value_alike : (c e : Circuit) → IsAlike c (beside c e) → (state inputs v : Values) → AllFit c v → (x : ℕ) (r : Role) → role c x ≡ r → by_role c state inputs v x r ≡ by_role (beside c e) state inputs v x r
value_alike c e a state inputs v f x Input is = refl
value_alike c e a state inputs v f x Comb is = a.comb v f x is
value_alike c e a state inputs v f x (Sync d) is = refl
value_alike c e a state inputs v f x (Read j) is = refl
value_alike c e a state inputs v f x Undriven is = refl

place_alike : (c e : Circuit) → IsAlike c (beside c e) → (state inputs v : Values) → AllFit c v → (p : Place) → by_place c state inputs v p ≡ by_place (beside c e) state inputs v p
place_alike c e a state inputs v f (At x) = value_alike c e a state inputs v f x (role c x) refl ∙ ap (λ r. by_role (beside c e) state inputs v x r) (a.roles x)
place_alike c e a state inputs v f (Word m k) = refl
place_alike c e a state inputs v f (Kept j) = refl

settled_alike : (c e : Circuit) → IsAlike c (beside c e) → (state inputs v : Values) → AllFit c v → IsSettled c state inputs v → IsSettled (beside c e) state inputs v
settled_alike c e a state inputs v f p = record { each = λ y. p.each y ∙ place_alike c e a state inputs v f y }

next_alike : (c e : Circuit) → IsAlike c (beside c e) → (state v : Values) (rises : ℕ → Bool) → AllFit c v → (x : ℕ) (r : Role) → role c x ≡ r → next c state v rises x r ≡ next (beside c e) state v rises x r
next_alike c e a state v rises f x Input is = refl
next_alike c e a state v rises f x Comb is = refl
next_alike c e a state v rises f x (Sync d) is =
    ap (λ z. cond (rises d) z (state (At x)))
    (ap (λ o. cond (is_reset v o && not (made c x).reset_less) (made c x).reset (result (shapes c) x (v (At x)) (taken_block (shapes c) v (domain_at c d).stmts))) (a.resets d)
    ∙ ap (λ z. cond (is_reset v (domain_at (beside c e) d).reset && not (made c x).reset_less) (made c x).reset z) (a.sync v f x d is))
next_alike c e a state v rises f x (Read j) is = refl
next_alike c e a state v rises f x Undriven is = refl

next_place : (c e : Circuit) → IsAlike c (beside c e) → (state v : Values) (rises : ℕ → Bool) → AllFit c v → (p : Place) → next_state c state v rises p ≡ next_state (beside c e) state v rises p
next_place c e a state v rises f (At x) = next_alike c e a state v rises f x (role c x) refl ∙ ap (λ r. next (beside c e) state v rises x r) (a.roles x)
next_place c e a state v rises f (Word m k) = refl
next_place c e a state v rises f (Kept j) = refl

state_alike : (c e : Circuit) → IsAlike c (beside c e) → (state v : Values) (rises : ℕ → Bool) → AllFit c v → next_state c state v rises ≡ next_state (beside c e) state v rises
state_alike c e a state v rises f = fun_ext (next_place c e a state v rises f)

first_alike : (c e : Circuit) (p : Place) → first_state c p ≡ first_state (beside c e) p
first_alike c e (At x) = refl
first_alike c e (Word m k) = refl
first_alike c e (Kept j) = refl

view_alike : (c e : Circuit) → KeepsShapes c → IsAlike c (beside c e) → (state : Values) (steps : List Step) (inputs v : Values) → StateFits c state → StepsFit c steps → InputsFit c inputs → ViewFrom c state steps inputs v → ViewFrom (beside c e) state steps inputs v
view_alike c e k a state [] inputs v fits sf i p =
    settled_alike c e a state inputs v (record { each = (settled_fits c k state inputs v fits i p).signals }) p
view_alike c e k a state (t ∷ ts) inputs v fits sf i p =
    let values = settled_fits c k state t.inputs p.0 fits sf.0 p.1 in
    let all : AllFit c p.0 = record { each = values.signals } in (
      p.0,
      settled_alike c e a state t.inputs p.0 all p.1,
      subst (λ (z : Values). ViewFrom (beside c e) z ts inputs v) (state_alike c e a state p.0 t.rises all)
          (view_alike c e k a (next_state c state p.0 t.rises) ts inputs v (next_state_fits c k state p.0 t.rises fits values) sf.1 i p.2),
    )

-- ---- runs

back_inputs : (c e : Circuit) → IsAlike c (beside c e) → (inputs : Values) → InputsFit c inputs → InputsFit (beside c e) inputs
back_inputs c e a inputs i = record { each = λ x r. i.each x (a.roles x ∙ r) }

back_steps : (c e : Circuit) → IsAlike c (beside c e) → (steps : List Step) → StepsFit c steps → StepsFit (beside c e) steps
back_steps c e a [] f = tt
back_steps c e a (t ∷ ts) f = (back_inputs c e a t.inputs f.0, back_steps c e a ts f.1)

back_keeps : (c e : Circuit) → KeepsShapes c → KeepsShapes (beside c e)
back_keeps c e k = record { each = k.each }

runs_beside : (c e : Circuit) → KeepsShapes c → IsAlike c (beside c e) → HaveSameRuns c (beside c e)
runs_beside c e k a =
    let first : first_state c ≡ first_state (beside c e) = fun_ext (first_alike c e) in
    record {
      there = λ steps inputs sf i v p. subst (λ (z : Values). ViewFrom (beside c e) z steps inputs v) first (view_alike c e k a (first_state c) steps inputs v (first_state_fits c k) sf i p);
      back = λ steps inputs sf i v p.
          subst (λ (z : Values). ViewFrom c z steps inputs v) (sym first)
          (view_alike (beside c e) c (back_keeps c e k) (back_alike c e a) (first_state (beside c e)) steps inputs v (first_state_fits (beside c e) (back_keeps c e k)) (back_steps c e a steps sf) (back_inputs c e a inputs i) p);
    }

-- alike circuits of the same signals, memories and ports have the same runs
pub same_runs : (c : Circuit) (comb : Block) (domains : List Domain) (ios : List ℕ) → KeepsShapes c → IsAlike c (with_stmts c comb domains ios) → HaveSameRuns c (with_stmts c comb domains ios)
same_runs c comb domains ios k a = runs_beside c (with_stmts c comb domains ios) k a

-- ---- roles

-- two domains with the same reset, whose statements drive the same signals
pub record SameDomain (a b : Domain) : Type 0 where
  pub reset : a.reset ≡ b.reset
  pub drives : (x : ℕ) → drives_block x a.stmts ≡ drives_block x b.stmts

abbrev pub SameDomains : List Domain → List Domain → Type 0
SameDomains [] [] = Unit {0}
SameDomains [] (b ∷ bs) = ⊥
SameDomains (a ∷ as_) [] = ⊥
SameDomains (a ∷ as_) (b ∷ bs) = SameDomain a b × SameDomains as_ bs

domain_same : (as_ bs : List Domain) (d : ℕ) → SameDomains as_ bs → SameDomain (slice_index_or as_ d no_domain) (slice_index_or bs d no_domain)
domain_same [] [] d s = record { reset = refl; drives = λ x. refl }
domain_same [] (b ∷ bs) d s = absurd s
domain_same (a ∷ as_) [] d s = absurd s
domain_same (a ∷ as_) (b ∷ bs) zero s = s.0
domain_same (a ∷ as_) (b ∷ bs) (suc d) s = domain_same as_ bs d s.1

-- each domain of the one, and that of the other
pub same_domain : (c e : Circuit) → SameDomains c.domains e.domains → (d : ℕ) → SameDomain (domain_at c d) (domain_at e d)
same_domain c e s d = domain_same c.domains e.domains d s

some_reset_same : (x : ℕ) (as_ bs : List Domain) → SameDomains as_ bs → is_some_reset x as_ ≡ is_some_reset x bs
some_reset_same x [] [] s = refl
some_reset_same x [] (b ∷ bs) s = absurd s
some_reset_same x (a ∷ as_) [] s = absurd s
some_reset_same x (a ∷ as_) (b ∷ bs) s = rw (s.0.reset, some_reset_same x as_ bs s.1) refl

sync_role_same : (x k : ℕ) (as_ bs : List Domain) (other : Role) → SameDomains as_ bs → sync_role x k as_ other ≡ sync_role x k bs other
sync_role_same x k [] [] other s = refl
sync_role_same x k [] (b ∷ bs) other s = absurd s
sync_role_same x k (a ∷ as_) [] other s = absurd s
sync_role_same x k (a ∷ as_) (b ∷ bs) other s = rw (s.0.drives x, sync_role_same x (k + 1) as_ bs other s.1) refl

-- circuits whose statements drive the same signals have the same roles
pub same_roles : (c : Circuit) (comb : Block) (domains : List Domain) → ((x : ℕ) → drives_block x c.comb ≡ drives_block x comb) → SameDomains c.domains domains → (x : ℕ) → role c x ≡ role (with_stmts c comb domains c.ios) x
same_roles c comb domains same s x =
    let e = with_stmts c comb domains c.ios in
    let idle : idle_role c x ≡ idle_role e x = ap (λ b. cond (made c x).given Undriven (cond (is_among x c.ios || b) Input Undriven)) (some_reset_same x c.domains domains s) in
    let read : read_role x 0 c.ports (idle_role c x) ≡ read_role x 0 c.ports (idle_role e x) = ap (λ r. read_role x 0 c.ports r) idle in
    ap (λ b. cond b Comb (sync_role x 0 c.domains (read_role x 0 c.ports (idle_role c x)))) (same x)
    ∙ ap (λ r. cond (drives_block x comb) Comb r) (ap (λ r. sync_role x 0 c.domains r) read ∙ sync_role_same x 0 c.domains domains (read_role x 0 c.ports (idle_role e x)) s)

-- ---- orders

role_reads_beside : (c : Circuit) (comb : Block) (domains : List Domain) (ios : List ℕ) (y : Place) (r : Role) → role_reads (with_stmts c comb domains ios) y r ≡ role_reads c y r
role_reads_beside c comb domains ios y Input = refl
role_reads_beside c comb domains ios y Comb = refl
role_reads_beside c comb domains ios y (Sync d) = refl
role_reads_beside c comb domains ios y (Read j) = refl
role_reads_beside c comb domains ios y Undriven = refl

-- where the statements read no more, and the roles are the same, a signal reads no more
reads_beside : (c : Circuit) (comb : Block) (domains : List Domain) (ios : List ℕ) (x : ℕ) (y : Place) → role c x ≡ role (with_stmts c comb domains ios) x → (reads_block x y comb ≡ true → reads_block x y c.comb ≡ true)
    → reads_in (with_stmts c comb domains ios) x y ≡ true → reads_in c x y ≡ true
reads_beside c comb domains ios x y same less r =
    let e = with_stmts c comb domains ios in
    let own : (reads_block x y comb || role_reads c y (role e x)) ≡ true = sym (ap (λ z. reads_block x y comb || z) (role_reads_beside c comb domains ios y (role e x))) ∙ r in
    elim (or_cases (reads_block x y comb) (role_reads c y (role e x)) own) [
      | inl p ↦ or_left (reads_block x y c.comb) (role_reads c y (role c x)) (less p)
      | inr q ↦ or_right (reads_block x y c.comb) (role_reads c y (role c x)) (ap (λ z. role_reads c y z) same ∙ q)
    ]

-- so an order of the reads stays one
pub order_beside : (c : Circuit) (comb : Block) (domains : List Domain) (ios : List ℕ) → HasOrder c → ((x : ℕ) → role c x ≡ role (with_stmts c comb domains ios) x) → ((x : ℕ) (y : Place) → reads_block x y comb ≡ true → reads_block x y c.comb ≡ true) → HasOrder (with_stmts c comb domains ios)
order_beside c comb domains ios o roles less = record {
  rank = o.rank;
  after = λ x y r. o.after x y (reads_beside c comb domains ios x y (roles x) (less x y) r);
}
