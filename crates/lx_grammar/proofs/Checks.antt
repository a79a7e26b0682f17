-- Tests of each number below a bound.
use Rattle.std.proofs.Common.{ℕ, Bool, true, false, ◌≡◌, ◌≢◌, ◌<◌, ◌&&◌, ◌||◌, zero, suc, refl, sym, arith, subst, inl, inr, List, [], ◌∷◌, Some, slice_get, not}
use Rattle.std.proofs.lemmas.Bool.Decides.{eqb_tells}
use Rattle.std.proofs.lemmas.Bool.{and_parts, or_left, or_right}

-- one test in place of the other
abbrev pub imp : Bool → Bool → Bool
imp true q = q
imp false q = true

abbrev pub same : Bool → Bool → Bool
same true q = q
same false q = not q

unfoldable pub every : ℕ → (ℕ → Bool) → Bool
every zero p = true
every (suc n) p = p n && every n p

unfoldable pub some : ℕ → (ℕ → Bool) → Bool
some zero p = false
some (suc n) p = p n || some n p

unfoldable pub each_bool : (Bool → Bool) → Bool
each_bool p = p true && p false

pub modus : (a b : Bool) → imp a b ≡ true → a ≡ true → b ≡ true
modus true b h e = h
modus false b h e = cc

pub same_is : (a b : Bool) → same a b ≡ true → a ≡ b
same_is true b h = sym h
same_is false true h = cc
same_is false false h = refl

pub every_at : (n k : ℕ) (p : ℕ → Bool) → every n p ≡ true → k < n → p k ≡ true
unfolding every
every_at zero k p h lt = absurd (omega arith)
every_at (suc n) k p h lt = elim (eqb_tells k n) [ inl w ↦ subst (λ i. p i ≡ true) (sym w.1) (and_parts (p n) (every n p) h).0 | inr w ↦ every_at n k p (and_parts (p n) (every n p) h).1 (let ne : k ≢ n = w.1 in omega arith) ]

pub some_at : (n k : ℕ) (p : ℕ → Bool) → k < n → p k ≡ true → some n p ≡ true
unfolding some
some_at zero k p lt h = absurd (omega arith)
some_at (suc n) k p lt h = elim (eqb_tells k n) [ inl w ↦ or_left (p n) (some n p) (subst (λ i. p i ≡ true) w.1 h) | inr w ↦ or_right (p n) (some n p) (some_at n k p (let ne : k ≢ n = w.1 in omega arith) h) ]

pub bool_at : (p : Bool → Bool) (b : Bool) → each_bool p ≡ true → p b ≡ true
unfolding each_bool
bool_at p true h = (and_parts (p true) (p false) h).0
bool_at p false h = (and_parts (p true) (p false) h).1

-- a test of each item of a list with its place
unfoldable pub each_row : {X : Type 0} → (ℕ → X → Bool) → List X → Bool
each_row p [] = true
each_row p (x ∷ xs) = p 0 x && each_row (λ i. p (suc i)) xs

pub row_at : {X : Type 0} (p : ℕ → X → Bool) (xs : List X) (i : ℕ) (x : X) → each_row p xs ≡ true → slice_get xs i ≡ Some x → p i x ≡ true
unfolding each_row
row_at p [] i x h e = cc
row_at {X = X} p (y ∷ xs) zero x h e = let is : y ≡ x = cc in subst (λ (z : X). p 0 z ≡ true) is (and_parts (p 0 y) (each_row (λ i. p (suc i)) xs) h).0
row_at p (y ∷ xs) (suc i) x h e = row_at (λ j. p (suc j)) xs i x (and_parts (p 0 y) (each_row (λ j. p (suc j)) xs) h).1 e
