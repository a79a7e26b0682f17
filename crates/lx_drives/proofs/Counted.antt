-- The numbers of nodes, counted from the lowest on.
use Rattle.std.proofs.Common.{◌≡◌, ℕ, zero, suc, ◌+◌, ◌<◌, ◌≤◌, Bool, true, false, List, [], ◌∷◌, ◌++◌, length, refl, sym, ap, ◌∙◌, arith, add-one, length-append}
use Rattle.std.specs.Prelude.{Some, slice_get, slice_index_or, if◌then◌else◌}
use Rattle.lx_fhdl.specs.declared.exprs.Expr.{Expr}
use Rattle.lx_width.proofs.Ends.{one_more}
use Rattle.lx_emission.specs.Naming.{has_net, nets_before}

pub none_before : (xs : List Expr) → nets_before xs 0 ≡ 0
unfolding nets_before
none_before [] = refl
none_before (x ∷ xs) = refl

abbrev added : Bool → ℕ → ℕ
added b n = if b then suc n else n

swapped : (a b : Bool) (n : ℕ) → added a (added b n) ≡ added b (added a n)
swapped true true n = refl
swapped true false n = refl
swapped false true n = refl
swapped false false n = refl

next_suc : (xs : List Expr) (k : ℕ) (x : Expr) → slice_get xs k ≡ Some x → nets_before xs (suc k) ≡ added (has_net x) (nets_before xs k)
unfolding nets_before
next_suc [] k x e = absurd (cc)
next_suc (y ∷ ys) zero x e = let p : y ≡ x = cc in ap (added (has_net y)) (none_before ys) ∙ ap (λ (z : Expr). added (has_net z) 0) p
next_suc (y ∷ ys) (suc k) x e = ap (added (has_net y)) (next_suc ys k x e) ∙ swapped (has_net y) (has_net x) (nets_before ys k)

pub next_net : (xs : List Expr) (k : ℕ) (x : Expr) → slice_get xs k ≡ Some x → nets_before xs (k + 1) ≡ added (has_net x) (nets_before xs k)
next_net xs k x e = ap (nets_before xs) (add-one k) ∙ next_suc xs k x e

-- the numbers of the first n nodes, and the next one
pub record NumbersTo (xs : List Expr) (n : ℕ) (ns : List ℕ) (next : ℕ) : Type 0 where
  pub long : length ns ≡ n
  pub each : (k : ℕ) → k < n → slice_index_or ns k 0 ≡ nets_before xs k
  pub reached : next ≡ nets_before xs n
  pub least : next ≤ n

added_least : (b : Bool) (m n : ℕ) → m ≤ n → added b m ≤ n + 1
added_least true m n h = omega arith
added_least false m n h = omega arith

pub numbers_none : (xs : List Expr) → NumbersTo xs 0 [] 0
numbers_none xs = record { long = refl; each = λ k h. absurd (omega arith); reached = sym (none_before xs); least = omega arith }

pub numbers_more : (xs : List Expr) (n : ℕ) (ns : List ℕ) (next : ℕ) (x : Expr) → NumbersTo xs n ns next → slice_get xs n ≡ Some x → NumbersTo xs (n + 1) (ns ++ next ∷ []) (added (has_net x) next)
numbers_more xs n ns next x h e = record {
  long = omega (arith, length-append ns (next ∷ []), h.long);
  each = one_more ns next 0 (nets_before xs) n h.long h.each h.reached;
  reached = ap (added (has_net x)) h.reached ∙ sym (next_net xs n x e);
  least = added_least (has_net x) next n h.least;
}
