-- Lists by place, as they are and with an item more.
use Rattle.std.proofs.Common.{◌≡◌, ℕ, zero, suc, ◌+◌, ◌<◌, ◌≤◌, Bool, true, List, [], ◌∷◌, ◌++◌, length, Option, Some, None, IfSome, IsTrue, slice_get, refl, sym, subst, ◌∙◌, arith, inl, inr, length-append}
use Rattle.std.proofs.lemmas.Bool.{cases_lt, and_parts}
use Rattle.std.proofs.lemmas.Option.{slice_get_within}
use Rattle.std.proofs.lemmas.List.{length_push}
use Rattle.lx_arena.specs.Lower.{EachLower, all_at}

-- the node at a place
pub node_there : {X : Type 0} (xs : List X) (k : ℕ) → k < length xs → (x : X) × (slice_get xs k ≡ Some x)
node_there [] k l = absurd (omega arith)
node_there (x ∷ xs) zero l = (x, refl)
node_there (x ∷ xs) (suc k) l = node_there xs k (omega arith)

pub get_front : {X : Type 0} (xs ys : List X) (k : ℕ) → k < length xs → slice_get (xs ++ ys) k ≡ slice_get xs k
get_front [] ys k l = absurd (omega arith)
get_front (x ∷ xs) ys zero l = refl
get_front (x ∷ xs) ys (suc k) l = get_front xs ys k (omega arith)

pub get_last : {X : Type 0} (xs : List X) (y : X) → slice_get (xs ++ y ∷ []) (length xs) ≡ Some y
get_last [] y = refl
get_last (x ∷ xs) y = get_last xs y

-- a fact of each item, with an item more
pub each_more : {X : Type 0} (P : X → Type 0) (xs : List X) (y : X) → ((k : ℕ) (x : X) → slice_get xs k ≡ Some x → P x) → P y → (k : ℕ) (x : X) → slice_get (xs ++ y ∷ []) k ≡ Some x → P x
each_more P [] y f h zero x e = let p : y ≡ x = cc in subst P p h
each_more P [] y f h (suc k) x e = absurd (cc)
each_more P (z ∷ zs) y f h zero x e = f zero x e
each_more P (z ∷ zs) y f h (suc k) x e = each_more P zs y (λ j. f (suc j)) h k x e

-- a fact of each place below n, with a place more
pub places_more : (P : ℕ → Type 0) (n m : ℕ) → m ≡ n + 1 → ((k : ℕ) → k < n → P k) → P n → (k : ℕ) → k < m → P k
places_more P n m e f h k l =
    elim (cases_lt k n) [
      | inl p ↦ f k p
      | inr p ↦ let q : n ≡ k = omega arith in subst P q h
    ]

-- ---- children

-- the children of the node at a place are lower
pub lower_at : {X : Type 0} (below : X → ℕ → Bool) (xs : List X) → EachLower below xs → (k : ℕ) (x : X) → slice_get xs k ≡ Some x → below x k ≡ true
lower_at below xs low k x e = subst (λ o. IfSome o (λ y. IsTrue (below y k))) e (low k)

-- the converse
pub each_lower : {X : Type 0} (below : X → ℕ → Bool) (xs : List X) → ((k : ℕ) (x : X) → slice_get xs k ≡ Some x → below x k ≡ true) → EachLower below xs
each_lower {X} below xs h k = by_option (slice_get xs k) (λ x e. h k x e)
  where
    by_option : (o : Option X) → ((x : X) → o ≡ Some x → below x k ≡ true) → IfSome o (λ y. IsTrue (below y k))
    by_option (Some x) f = f x refl
    by_option None f = tt

at_place : {X : Type 0} (below : X → ℕ → Bool) (xs : List X) (y : X) (k : ℕ) (x : X) → EachLower below xs → below y (length xs) ≡ true → slice_get (xs ++ y ∷ []) k ≡ Some x → below x k ≡ true
at_place below xs y k x low h e =
    elim (cases_lt k (length xs)) [
      | inl p ↦ lower_at below xs low k x (sym (get_front xs (y ∷ []) k p) ∙ e)
      | inr p ↦
          let within = slice_get_within (xs ++ y ∷ []) k x e in
          let one = length_push xs y in
          let q : length xs ≡ k = omega arith in
          let last : slice_get (xs ++ y ∷ []) k ≡ Some y = subst (λ (j : ℕ). slice_get (xs ++ y ∷ []) j ≡ Some y) q (get_last xs y) in
          let is : y ≡ x = cc in
          subst (λ z. below z k ≡ true) is (subst (λ (j : ℕ). below y j ≡ true) q h)
    ]

-- a node that is added after its children
pub lower_more : {X : Type 0} (below : X → ℕ → Bool) (xs : List X) (y : X) → EachLower below xs → below y (length xs) ≡ true → EachLower below (xs ++ y ∷ [])
lower_more below xs y low h = each_lower below (xs ++ y ∷ []) (λ k x e. at_place below xs y k x low h e)

-- ---- tests of all items

all_from : {X : Type 0} (test : X → ℕ → Bool) (xs : List X) (n k j : ℕ) (x : X) → all_at test n xs ≡ true → slice_get xs k ≡ Some x → j ≡ n + k → test x j ≡ true
all_from test [] n k j x t e i = absurd (cc)
all_from test (y ∷ ys) n zero j x t e i =
    let h = and_parts (test y n) (all_at test (n + 1) ys) t in
    let p : y ≡ x = cc in
    let q : n ≡ j = omega arith in
    subst (λ z. test z j ≡ true) p (subst (λ (m : ℕ). test y m ≡ true) q h.0)
all_from test (y ∷ ys) n (suc k) j x t e i =
    let h = and_parts (test y n) (all_at test (n + 1) ys) t in
    let q : j ≡ n + 1 + k = omega arith in
    all_from test ys (n + 1) k j x h.1 e q

-- what a test of all items says of the item at a place
pub all_at-is : {X : Type 0} (test : X → ℕ → Bool) (xs : List X) → all_at test 0 xs ≡ true → (k : ℕ) (x : X) → slice_get xs k ≡ Some x → test x k ≡ true
all_at-is test xs t k x e = all_from test xs 0 k k x t e (omega arith)

-- so it says that children are lower
pub all_at-lower : {X : Type 0} (below : X → ℕ → Bool) (xs : List X) → all_at below 0 xs ≡ true → EachLower below xs
all_at-lower below xs t = each_lower below xs (all_at-is below xs t)

-- ---- induction over places

by_places_below : {X : Type 0} (P : ℕ → Type 0) (xs : List X) → ((k : ℕ) (x : X) → slice_get xs k ≡ Some x → ((j : ℕ) → j < k → P j) → P k) → (n : ℕ) → n ≤ length xs → (k : ℕ) → k < n → P k
by_places_below P xs step zero h k l = absurd (omega arith)
by_places_below P xs step (suc n) h k l =
    let within : n < length xs = omega arith in
    let (x, e) = node_there xs n within in
    places_more P n (suc n) (omega arith) (by_places_below P xs step n (omega arith)) (step n x e (by_places_below P xs step n (omega arith))) k l

-- a fact of each place, which holds at a node where it holds at all lower places
pub by_places : {X : Type 0} (P : ℕ → Type 0) (xs : List X) → ((k : ℕ) (x : X) → slice_get xs k ≡ Some x → ((j : ℕ) → j < k → P j) → P k) → (k : ℕ) → k < length xs → P k
by_places P xs step k l = by_places_below P xs step (length xs) (omega arith) k l
