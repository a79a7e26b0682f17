-- A signal's statements among the lists of all signals are its own list, which is none or a constant where it reads nothing.
use Rattle.std.proofs.Common.{◌≡◌, ◌⊎◌, inl, inr, ℕ, ℤ, ◌+◌, ◌<◌, Bool, true, false, ◌&&◌, not, nat_eq, List, [], ◌∷◌, refl, sym, ◌∙◌, ap, subst, arith, eqb-true}
use Rattle.std.proofs.lemmas.Bool.{and_parts, eqb-false, ne_eqb}
use Rattle.lx_circuit.specs.Terms.{Term}
use Rattle.lx_circuit.specs.Shapes.{Shapes}
use Rattle.lx_circuit.specs.Statements.{Target, Whole, Part, CatTarget, PickTarget, Stmt, Assign, If, Case, NoBranch, Branch, Block, Done, Then, is_target}
use Rattle.lx_circuit.specs.Circuit.{Made}
use Rattle.lx_circuit.proofs.Cases.{by_test}
use Rattle.lx_fhdl.specs.Lowered.{is_plain_target, is_done, is_for, are_for}
use Rattle.lx_lowering.specs.Flat.{append, one}
use Rattle.lx_lowering.specs.Split.{lone_if, split, split_block}
use Rattle.lx_lowering.specs.Constants.{block_reads_none, or_constant, folded}
use Rattle.lx_lowering.specs.Lowering.{lists_from, IsOneConstant}
use Rattle.lx_lowering.proofs.FoldFacts.{both_for}
use Rattle.lx_lowering.proofs.ListFacts.{EachFor}
use Rattle.lx_lowering.proofs.Appends.{append_done, append_all}

-- ---- appended statements

-- a signal's statements in two blocks, one after the other
split_append : (x : ℕ) (a b : Block) → split_block x (append a b) ≡ append (split_block x a) (split_block x b)
split_append x Done b = refl
split_append x (Then st ss) b = ap (λ r. append (split x st) r) (split_append x ss b) ∙ sym (append_all (split x st) (split_block x ss) (split_block x b))

-- ---- statements for the signal

own_target : (x : ℕ) (t : Target) → is_plain_target x t ≡ true → is_target x t ≡ true
own_target x (Whole y) f = f
own_target x (Part y low len) f = f
own_target x (CatTarget parts) f = absurd (cc)
own_target x (PickTarget items index) f = absurd (cc)

lone_stays : (c : Term) (b rest : Block) → not (is_done b && is_done rest) ≡ true → lone_if c b rest ≡ one (If (Branch c b NoBranch) rest)
lone_stays c Done Done e = absurd (cc)
lone_stays c Done (Then t ts) e = refl
lone_stays c (Then t ts) rest e = refl

mutual
  stmt_own : (x : ℕ) (st : Stmt) → is_for x st ≡ true → split x st ≡ one st
  stmt_own x (Assign t e) f = rw (own_target x t f) refl
  stmt_own x (If NoBranch rest) f = absurd (cc)
  stmt_own x (If (Branch c b (Branch d a more)) rest) f = absurd (cc)
  stmt_own x (If (Branch c b NoBranch) rest) f =
      let both = both_for x c b rest f in
      rw (split_own x b both.1, split_own x rest both.2) (lone_stays c b rest both.0)
  stmt_own x (Case on arms rest) f = absurd (cc)

  -- statements for the signal are all its own
  split_own : (x : ℕ) (b : Block) → are_for x b ≡ true → split_block x b ≡ b
  split_own x Done f = refl
  split_own x (Then st ss) f =
      let both = and_parts (is_for x st) (are_for x ss) f in
      ap (λ r. append r (split_block x ss)) (stmt_own x st both.0) ∙ ap (λ r. Then st r) (split_own x ss both.1)

-- ---- statements for another signal

other_target : (x y : ℕ) (t : Target) → (x ≡ y → ⊥) → is_plain_target x t ≡ true → is_target y t ≡ false
other_target x y (Whole z) ne f = ne_eqb z y (λ e. ne (sym (eqb-true z x f) ∙ e))
other_target x y (Part z low len) ne f = ne_eqb z y (λ e. ne (sym (eqb-true z x f) ∙ e))
other_target x y (CatTarget parts) ne f = absurd (cc)
other_target x y (PickTarget items index) ne f = absurd (cc)

mutual
  stmt_other : (x y : ℕ) (st : Stmt) → (x ≡ y → ⊥) → is_for x st ≡ true → split y st ≡ Done
  stmt_other x y (Assign t e) ne f = rw (other_target x y t ne f) refl
  stmt_other x y (If NoBranch rest) ne f = absurd (cc)
  stmt_other x y (If (Branch c b (Branch d a more)) rest) ne f = absurd (cc)
  stmt_other x y (If (Branch c b NoBranch) rest) ne f =
      let both = both_for x c b rest f in
      rw (split_other x y b ne both.1, split_other x y rest ne both.2) refl
  stmt_other x y (Case on arms rest) ne f = absurd (cc)

  -- no statement for one signal is another's
  split_other : (x y : ℕ) (b : Block) → (x ≡ y → ⊥) → are_for x b ≡ true → split_block y b ≡ Done
  split_other x y Done ne f = refl
  split_other x y (Then st ss) ne f =
      let both = and_parts (is_for x st) (are_for x ss) f in
      rw (stmt_other x y st ne both.0, split_other x y ss ne both.1) refl

-- ---- among the lists of all signals

-- a signal has no statement in the lists of later ones
none_later : (f : ℕ → Block) → EachFor f → (k y : ℕ) (ms : List Made) → y < k → split_block y (lists_from f k ms) ≡ Done
none_later f own k y [] lt = refl
none_later f own k y (m ∷ ms) lt =
    split_append y (f k) (lists_from f (k + 1) ms)
    ∙ (rw (split_other k y (f k) (λ e. omega arith) (own.each k), none_later f own (k + 1) y ms (omega arith)) refl)

-- none, or its own list
none_or_own : (f : ℕ → Block) → EachFor f → (k y : ℕ) (ms : List Made) → (split_block y (lists_from f k ms) ≡ Done) ⊎ (split_block y (lists_from f k ms) ≡ f y)
none_or_own f own k y [] = inl refl
none_or_own f own k y (m ∷ ms) =
    let both = split_append y (f k) (lists_from f (k + 1) ms) in
    by_test (nat_eq k y)
    (λ e. let same = eqb-true k y e in
    let here : split_block y (f k) ≡ f k = subst (λ (x : ℕ). split_block x (f k) ≡ f k) same (split_own k (f k) (own.each k)) in
    inr (both ∙ (rw (here, none_later f own (k + 1) y ms (omega arith), append_done (f k)) (ap f same))))
    (λ e. let here = split_other k y (f k) (eqb-false k y e) (own.each k) in
    let all : split_block y (append (f k) (lists_from f (k + 1) ms)) ≡ split_block y (lists_from f (k + 1) ms) = both ∙ ap (λ r. append r (split_block y (lists_from f (k + 1) ms))) here in
    elim (none_or_own f own (k + 1) y ms) [ inl none ↦ inl (all ∙ none) | inr mine ↦ inr (all ∙ mine) ])

-- ---- folded lists

constant_or_reads : (s : Shapes) (x : ℕ) (start : ℤ) (b : Block) → block_reads_none (folded s x start b) ≡ true → (folded s x start b ≡ Done) ⊎ IsOneConstant s x (folded s x start b)
constant_or_reads s x start Done r = inl refl
constant_or_reads s x start (Then t ts) r = by_answer (block_reads_none (Then t ts)) refl r
  where
    by_answer : (none : Bool) → block_reads_none (Then t ts) ≡ none → block_reads_none (or_constant s x start (Then t ts) none) ≡ true → (or_constant s x start (Then t ts) none ≡ Done) ⊎ IsOneConstant s x (or_constant s x start (Then t ts) none)
    by_answer true e q = inr (record { value = _; alone = refl })
    by_answer false e q = absurd (cc)

-- where a signal's statements read nothing, there are none or a constant's
pub lists_folded : (s : Shapes) (start : ℕ → ℤ) (g : ℕ → Block) (ms : List Made) → EachFor (λ x. folded s x (start x) (g x)) → (x : ℕ)
    → block_reads_none (split_block x (lists_from (λ y. folded s y (start y) (g y)) 0 ms)) ≡ true
    → (split_block x (lists_from (λ y. folded s y (start y) (g y)) 0 ms) ≡ Done) ⊎ IsOneConstant s x (split_block x (lists_from (λ y. folded s y (start y) (g y)) 0 ms))
lists_folded s start g ms own x r =
    let all = lists_from (λ y. folded s y (start y) (g y)) 0 ms in
    elim (none_or_own (λ y. folded s y (start y) (g y)) own 0 x ms) [
      | inl none ↦ inl none
      | inr mine ↦ (let P : Block → Type 0 = λ b. (b ≡ Done) ⊎ IsOneConstant s x b in
          subst P (sym mine) (constant_or_reads s x (start x) (g x) (ap block_reads_none (sym mine) ∙ r)))
    ]
