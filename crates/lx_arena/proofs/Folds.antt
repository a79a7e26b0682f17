-- The trees at the places of arenas: each is made of those of its node's children, and stays while the arena grows.
use Rattle.std.proofs.Common.{◌≡◌, ℕ, zero, suc, ◌<◌, Bool, true, List, [], ◌∷◌, ◌++◌, length, Option, Some, None, IfSome, IsTrue, slice_get, refl, ap, ◌∙◌, arith}
use Rattle.std.proofs.lemmas.List.{length_push}
use Rattle.lx_arena.specs.Lower.{EachLower}
use Rattle.lx_arena.specs.Folds.{level, fold_within, fold_at, Same, IsLocal, Grows, Hangs, Added}
use Rattle.lx_arena.proofs.Places.{get_front, get_last, lower_at}

level_same : {N T : Type 0} (below : N → ℕ → Bool) (none : T) (node other : (ℕ → T) → N → T) (f g : ℕ → T) (k : ℕ) (o : Option N)
    → IsLocal below other → ((x : N) → o ≡ Some x → node f x ≡ other f x) → IfSome o (λ x. IsTrue (below x k)) → Same f g k → level none node f o ≡ level none other g o
level_same below none node other f g k (Some x) local h low s = h x refl ∙ local.same f g k x s low
level_same below none node other f g k None local h low s = refl

-- arenas with the same nodes below a bound have the same trees there, however much deeper one looks
within_same : {N T : Type 0} (below : N → ℕ → Bool) (none : T) (node other : (ℕ → T) → N → T) (xs ys : List N) (bound n m k : ℕ)
    → IsLocal below other → EachLower below xs → ((j : ℕ) → j < bound → slice_get xs j ≡ slice_get ys j)
    → ((f : ℕ → T) (j : ℕ) (x : N) → j < bound → slice_get xs j ≡ Some x → node f x ≡ other f x)
    → k < bound → k < n → k < m → fold_within none node xs n k ≡ fold_within none other ys m k
within_same below none node other xs ys bound zero m k local low e h l p q = absurd (omega arith)
within_same below none node other xs ys bound (suc n) zero k local low e h l p q = absurd (omega arith)
within_same below none node other xs ys bound (suc n) (suc m) k local low e h l p q =
    level_same below none node other (fold_within none node xs n) (fold_within none other ys m) k (slice_get xs k) local (λ x at. h (fold_within none node xs n) k x l at) (low k)
    (λ j i. within_same below none node other xs ys bound n m j local low e h (omega arith) (omega arith) (omega arith))
    ∙ ap (level none other (fold_within none other ys m)) (e k l)

-- The tree at a place is what one level gives from the trees below it.
pub fold_at-is : {N T : Type 0} (below : N → ℕ → Bool) (none : T) (node : (ℕ → T) → N → T) → IsLocal below node → (xs : List N) → EachLower below xs → (k : ℕ) (x : N) → slice_get xs k ≡ Some x
    → fold_at none node xs k ≡ node (fold_at none node xs) x
unfolding fold_at
fold_at-is below none node local xs low k x e =
    ap (level none node (fold_within none node xs k)) e
    ∙ local.same (fold_within none node xs k) (λ j. fold_within none node xs (suc j) j) k x
    (λ j i. within_same below none node node xs xs k k (suc j) j local low (λ a b. refl) (λ f a y b c. refl) i i (omega arith)) (lower_at below xs low k x e)

-- two ways to make a node's tree that agree on the nodes of an arena give the same trees at its places
pub fold_at-same : {N T : Type 0} (below : N → ℕ → Bool) (none : T) (node other : (ℕ → T) → N → T) → IsLocal below other → (xs : List N) → EachLower below xs
    → ((f : ℕ → T) (k : ℕ) (x : N) → slice_get xs k ≡ Some x → node f x ≡ other f x) → (k : ℕ) → fold_at none node xs k ≡ fold_at none other xs k
unfolding fold_at
fold_at-same below none node other local xs low h k =
    within_same below none node other xs xs (suc k) (suc k) (suc k) k local low (λ a b. refl) (λ f a y b c. h f a y c) (omega arith) (omega arith) (omega arith)

-- the trees of an arena that has more nodes at its end
pub fold_at-front : {N T : Type 0} (below : N → ℕ → Bool) (none : T) (node : (ℕ → T) → N → T) → IsLocal below node → (old new : List N) → EachLower below new
    → ((k : ℕ) → k < length old → slice_get new k ≡ slice_get old k) → (k : ℕ) → k < length old → fold_at none node new k ≡ fold_at none node old k
unfolding fold_at
fold_at-front below none node local old new low e k l =
    within_same below none node node new old (length old) (suc k) (suc k) k local low e (λ f a y b c. refl) l (omega arith) (omega arith)

-- ---- growth

pub grows_not : {N T : Type 0} (tree : List N → ℕ → T) (xs : List N) → Grows tree xs xs
grows_not tree xs = record { longer = omega arith; nodes = λ k l. refl; trees = λ k l. refl }

pub grows_then : {N T : Type 0} (tree : List N → ℕ → T) (a b c : List N) → Grows tree a b → Grows tree b c → Grows tree a c
grows_then tree a b c g h = record {
  longer = omega (arith, g.longer, h.longer);
  nodes = λ k l. h.nodes k (omega (arith, g.longer)) ∙ g.nodes k l;
  trees = λ k l. h.trees k (omega (arith, g.longer)) ∙ g.trees k l;
}

-- a node at the end leaves what was there
pub grows_by : {N T : Type 0} (below : N → ℕ → Bool) (none : T) (node : (ℕ → T) → N → T) → IsLocal below node → (old : List N) (x : N) → EachLower below (old ++ x ∷ []) → Grows (fold_at none node) old (old ++ x ∷ [])
grows_by below none node local old x low = record {
  longer = omega (arith, length_push old x);
  nodes = λ k l. get_front old (x ∷ []) k l;
  trees = λ k l. fold_at-front below none node local old (old ++ x ∷ []) low (λ j i. get_front old (x ∷ []) j i) k l;
}

-- a node that is pushed hangs at the end, over the trees that were there
pub added_by : {N T : Type 0} (below : N → ℕ → Bool) (none : T) (node : (ℕ → T) → N → T) → IsLocal below node → (old : List N) (x : N) → EachLower below (old ++ x ∷ []) → below x (length old) ≡ true
    → Added (fold_at none node) node old (old ++ x ∷ []) (length old) x
added_by below none node local old x low h =
    let grows = grows_by below none node local old x low in
    record {
      grows = grows;
      within = omega (arith, length_push old x);
      is = fold_at-is below none node local (old ++ x ∷ []) low (length old) x (get_last old x) ∙ local.same (fold_at none node (old ++ x ∷ [])) (fold_at none node old) (length old) x grows.trees h;
    }

-- a tree that hangs still hangs there after more growth
pub hangs_then : {N T : Type 0} (tree : List N → ℕ → T) (a b c : List N) (place : ℕ) (t : T) → Hangs tree a b place t → Grows tree b c → Hangs tree a c place t
hangs_then tree a b c place t h g = record {
  grows = grows_then tree a b c h.grows g;
  within = omega (arith, h.within, g.longer);
  is = g.trees place h.within ∙ h.is;
}
