-- Tests, and lists of pieces.
use Rattle.std.proofs.Common.{◌≡◌, ℕ, Bool, true, false, List, [], ◌∷◌, ◌++◌, cond, refl, nat_eq}
use Rattle.lx_circuit.specs.Statements.{Piece, after_pieces, laid_over}

-- by what a test answers
pub by_test : {P : Type 0} (b : Bool) → (b ≡ true → P) → (b ≡ false → P) → P
by_test true f g = f refl
by_test false f g = g refl

pub after_append : (x p : ℕ) (as_ bs : List Piece) → after_pieces x p (as_ ++ bs) ≡ after_pieces x (after_pieces x p as_) bs
after_append x p [] bs = refl
after_append x p (q ∷ qs) bs = after_append x (cond (nat_eq q.signal x) (laid_over p q.low q.len q.number) p) qs bs

-- a choice by one test, of lists that do the same
pub same_choice : {A : Type 0} (f : A → ℕ) (b : Bool) (m m' n n' : A) → f m ≡ f m' → f n ≡ f n' → f (cond b m n) ≡ f (cond b m' n')
same_choice f true m m' n n' e h = e
same_choice f false m m' n n' e h = h

pub same_result : {A : Type 0} (f : A → ℕ) (b : Bool) (m n : A) (p : ℕ) → f m ≡ p → f n ≡ p → f (cond b m n) ≡ p
same_result f true m n p e h = e
same_result f false m n p e h = h
