-- What rows name.
use Rattle.std.proofs.Common.{◌≡◌, ℕ, ◌+◌, ◌-◌, ◌<◌, Bool, true, false, ◌||◌, List, [], ◌∷◌, ◌++◌, length, Some, refl, sym, ap, ◌∙◌, arith, nat_lt, nat_eq}
use Rattle.std.specs.Prelude.{slice_get, if◌then◌else◌}
use Rattle.std.proofs.Math.Bool.{or-false, or_assoc}
use Rattle.std.proofs.lemmas.Bool.{and_from, and_parts, le-ltb, ltb-false, ltb-true, lt-ltb}
use Rattle.lx_arena.specs.Folds.{Same, IsLocal}
use Rattle.lx_arena.specs.Lower.{EachLower}
use Rattle.lx_arena.proofs.Folds.{fold_at-front, fold_at-is}
use Rattle.lx_arena.proofs.Places.{get_front, get_last}
use Rattle.lx_reads.specs.Net.{hits, link_hits, reaches, row_below, row_hits}

link_same : (n y : ℕ) (f g : ℕ → Bool) (m j : ℕ) → Same f g m → j < n + m → link_hits n y f j ≡ link_hits n y g j
link_same n y f g m j s l = by_answer (nat_lt j n) refl
  where
    by_answer : (b : Bool) → nat_lt j n ≡ b → (if b then nat_eq j y else f (j - n)) ≡ (if b then nat_eq j y else g (j - n))
    by_answer true e = refl
    by_answer false e = let h = ltb-false j n e in s (j - n) (omega arith)

pub row_same : (n y : ℕ) (f g : ℕ → Bool) (m : ℕ) (row : List ℕ) → Same f g m → row_below n row m ≡ true → row_hits n y f row ≡ row_hits n y g row
row_same n y f g m [] s h = refl
row_same n y f g m (j ∷ js) s h =
    let p = and_parts (nat_lt j (n + m)) (row_below n js m) h in
    ap (λ (b : Bool). b || row_hits n y f js) (link_same n y f g m j s (ltb-true j (n + m) p.0))
    ∙ ap (λ (b : Bool). link_hits n y g j || b) (row_same n y f g m js s p.1)

row_local : (n y : ℕ) → IsLocal (row_below n) (row_hits n y)
row_local n y = record { same = λ f g m row s h. row_same n y f g m row s h }

-- a row names what the numbers in it name
pub hits_is : (n : ℕ) (rows : List (List ℕ)) (y k : ℕ) (row : List ℕ) → EachLower (row_below n) rows → slice_get rows k ≡ Some row → hits n rows y k ≡ row_hits n y (hits n rows y) row
unfolding hits
hits_is n rows y k row low e = fold_at-is (row_below n) false (row_hits n y) (row_local n y) rows low k row e

-- a row more leaves what the others name
pub hits_front : (n : ℕ) (rows : List (List ℕ)) (row : List ℕ) (y k : ℕ) → EachLower (row_below n) (rows ++ row ∷ []) → k < length rows → hits n (rows ++ row ∷ []) y k ≡ hits n rows y k
unfolding hits
hits_front n rows row y k low l =
    fold_at-front (row_below n) false (row_hits n y) (row_local n y) rows (rows ++ row ∷ []) low (λ j i. get_front rows (row ∷ []) j i) k l

-- and names what the numbers in it do
pub hits_last : (n : ℕ) (rows : List (List ℕ)) (row : List ℕ) (y : ℕ) → EachLower (row_below n) (rows ++ row ∷ []) → row_below n row (length rows) ≡ true
    → hits n (rows ++ row ∷ []) y (length rows) ≡ row_hits n y (hits n rows y) row
hits_last n rows row y low h =
    hits_is n (rows ++ row ∷ []) y (length rows) row low (get_last rows row)
    ∙ row_same n y (hits n (rows ++ row ∷ []) y) (hits n rows y) (length rows) row (λ k l. hits_front n rows row y k low l) h

pub reaches_front : (n : ℕ) (rows : List (List ℕ)) (row : List ℕ) (y j : ℕ) → EachLower (row_below n) (rows ++ row ∷ []) → j < n + length rows → reaches n (rows ++ row ∷ []) y j ≡ reaches n rows y j
reaches_front n rows row y j low l = link_same n y (hits n (rows ++ row ∷ []) y) (hits n rows y) (length rows) j (λ k i. hits_front n rows row y k low i) l

-- the number of a row
pub link_inner : (n y : ℕ) (f : ℕ → Bool) (k : ℕ) → link_hits n y f (n + k) ≡ f k
link_inner n y f k =
    ap (λ (b : Bool). if b then nat_eq (n + k) y else f (n + k - n)) (le-ltb (n + k) n (omega arith))
    ∙ (let e : n + k - n ≡ k = omega arith in ap f e)

-- the number of a signal
pub link_signal : (n y : ℕ) (f : ℕ → Bool) (x : ℕ) → x < n → link_hits n y f x ≡ nat_eq x y
link_signal n y f x l = ap (λ (b : Bool). if b then nat_eq x y else f (x - n)) (lt-ltb x n l)

pub row_append : (n y : ℕ) (f : ℕ → Bool) (xs ys : List ℕ) → row_hits n y f (xs ++ ys) ≡ (row_hits n y f xs || row_hits n y f ys)
row_append n y f [] ys = refl
row_append n y f (x ∷ xs) ys = ap (λ (b : Bool). link_hits n y f x || b) (row_append n y f xs ys) ∙ sym (or_assoc (link_hits n y f x) (row_hits n y f xs) (row_hits n y f ys))

pub row_one : (n y : ℕ) (f : ℕ → Bool) (j : ℕ) → row_hits n y f (j ∷ []) ≡ link_hits n y f j
row_one n y f j = or-false (link_hits n y f j)

pub below_append : (n : ℕ) (xs ys : List ℕ) (k : ℕ) → row_below n xs k ≡ true → row_below n ys k ≡ true → row_below n (xs ++ ys) k ≡ true
below_append n [] ys k h g = g
below_append n (x ∷ xs) ys k h g = let p = and_parts (nat_lt x (n + k)) (row_below n xs k) h in and_from (nat_lt x (n + k)) (row_below n (xs ++ ys) k) p.0 (below_append n xs ys k p.1 g)

pub below_one : (n j k : ℕ) → j < n + k → row_below n (j ∷ []) k ≡ true
below_one n j k l = and_from (nat_lt j (n + k)) true (lt-ltb j (n + k) l) refl
