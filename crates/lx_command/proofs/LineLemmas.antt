-- A line that is said in two pieces.
use Rattle.std.proofs.Common.{◌≡◌, ℕ, ◌+◌, ◌≤◌, List, [], ◌++◌, length, take, Option, Some, None, refl, sym, ap, ◌∙◌, append_assoc, arith, inl, inr}
use Rattle.std.specs.Prelude.{option_map}
use Rattle.std.proofs.lemmas.Bool.{cases_lt}
use Rattle.std.proofs.lemmas.List.{take-append-le, take_all, append-nil}
use Rattle.std.proofs.Math.Seq.{take-append-add}
use Rattle.lx_outside.specs.Calls.{Rose, Gains, SaysPart}
use Rattle.lx_command.specs.World.{SaysLine}

-- what is gained in two steps is gained in one
pub gains_both : {X : Type 0} (old mid new : Option (List X)) (a b : List X) → Gains old mid a → Gains mid new b → Gains old new (a ++ b)
gains_both None mid new a b p q = q ∙ ap (option_map (λ xs. xs ++ b)) p
gains_both (Some xs) mid new a b p q = q ∙ ap (option_map (λ ys. ys ++ b)) p ∙ ap Some (append_assoc xs a b)

pub gains_nothing : {X : Type 0} (old : Option (List X)) → Gains old old []
gains_nothing None = refl
gains_nothing (Some xs) = ap Some (sym (append-nil xs))

-- a prefix of the first piece is one of the line
first_part : (old new : Option (List ℕ)) (a b : List ℕ) → SaysPart old new a → SaysPart old new (a ++ b)
first_part old new a b p =
    elim (cases_lt (length a) p.0) [
      | inl lt ↦
          let all : take p.0 a ≡ a = take_all p.0 a (omega arith) in
          let line : take (length a) (a ++ b) ≡ a = take-append-le (length a) a b (omega arith) ∙ take_all (length a) a (omega arith) in
          (length a, p.1 ∙ ap (λ (x : List ℕ). option_map (λ xs. xs ++ x) old) (all ∙ sym line))
      | inr le ↦ (p.0, p.1 ∙ ap (λ (x : List ℕ). option_map (λ xs. xs ++ x) old) (sym (take-append-le p.0 a b le)))
    ]

-- the first piece and a prefix of the second are a prefix of the line
second_part : (old mid new : Option (List ℕ)) (a b : List ℕ) → Gains old mid a → SaysPart mid new b → SaysPart old new (a ++ b)
second_part old mid new a b p q =
    (length a + q.0, gains_both old mid new a (take q.0 b) p q.1 ∙ ap (λ (x : List ℕ). option_map (λ xs. xs ++ x) old) (sym (take-append-add a b q.0)))

pub rose_later : (a b c : ℕ) → a ≤ b → Rose b c → Rose a c
rose_later a b c le r = omega arith

pub says_second : (old mid new : Option (List ℕ)) (f1 f2 f3 : ℕ) (a b : List ℕ) → f1 ≤ f2 → Gains old mid a → SaysLine mid new f2 f3 b → SaysLine old new f1 f3 (a ++ b)
says_second old mid new f1 f2 f3 a b le p (inl q) = inl (gains_both old mid new a b p q)
says_second old mid new f1 f2 f3 a b le p (inr q) = inr (rose_later f1 f2 f3 le q.0, second_part old mid new a b p q.1)

pub says_first : (old new : Option (List ℕ)) (f1 f2 : ℕ) (a b : List ℕ) → Rose f1 f2 → SaysPart old new a → SaysLine old new f1 f2 (a ++ b)
says_first old new f1 f2 a b r p = inr (r, first_part old new a b p)
