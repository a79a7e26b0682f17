-- Lists that are made item by item.
use Rattle.std.proofs.Common.{◌≡◌, ℕ, zero, suc, ◌+◌, ◌<◌, ◌≤◌, Bool, true, List, [], ◌∷◌, ◌++◌, length, take, drop, map, flat_map, refl, sym, ap, ◌∙◌, arith, add-one, append_assoc}
use Rattle.std.specs.Prelude.{Some, slice_get}
use Rattle.std.specs.List.{list_all}
use Rattle.std.proofs.lemmas.List.{append-nil, map-append}
use Rattle.std.proofs.lemmas.List.Folds.{list_all-append}
use Rattle.lx_vtree.proofs.Exprs.{both}
use Rattle.std.proofs.lemmas.Grind.{flat_map-append}
use Rattle.lx_emission.specs.Emission.{places_from}

drop_suc : {T : Type 0} (xs : List T) (k : ℕ) (x : T) → slice_get xs k ≡ Some x → drop k xs ≡ x ∷ drop (suc k) xs
drop_suc [] k x e = absurd (cc)
drop_suc (y ∷ ys) zero x e = let same : y ≡ x = cc in ap (λ z. z ∷ ys) same
drop_suc (y ∷ ys) (suc k) x e = drop_suc ys k x e

pub drop_at : {T : Type 0} (xs : List T) (k : ℕ) (x : T) → slice_get xs k ≡ Some x → drop k xs ≡ x ∷ drop (k + 1) xs
drop_at xs k x e = rw add-one (drop_suc xs k x e)

-- one piece more of what is left
pub next_piece : {B : Type 0} (before now piece left left_now all : List B) → before ++ left ≡ all → left ≡ piece ++ left_now → now ≡ before ++ piece → now ++ left_now ≡ all
next_piece before now piece left left_now all h e f = ap (λ (l : List _). l ++ left_now) f ∙ append_assoc before piece left_now ∙ ap (λ (l : List _). before ++ l) (sym e) ∙ h

-- ---- items that name places

-- what hangs at the places of a list's items stays
pub list_stays : {A T : Type 0} (f g : A → T) (p : A → Bool) (xs : List A) → ((x : A) → p x ≡ true → g x ≡ f x) → list_all p xs ≡ true → map g xs ≡ map f xs
list_stays f g p [] s h = refl
list_stays f g p (x ∷ xs) s h = let q = both (p x) (list_all p xs) h in rw (s x q.0, list_stays f g p xs s q.1) refl

pub list_wider : {A : Type 0} (p q : A → Bool) (xs : List A) → ((x : A) → p x ≡ true → q x ≡ true) → list_all p xs ≡ true → list_all q xs ≡ true
list_wider p q [] w h = refl
list_wider p q (x ∷ xs) w h = let r = both (p x) (list_all p xs) h in rw (w x r.0, list_wider p q xs w r.1) refl

-- an item more
pub list_more : {A : Type 0} (p q : A → Bool) (xs : List A) (x : A) → ((y : A) → p y ≡ true → q y ≡ true) → list_all p xs ≡ true → q x ≡ true → list_all q (xs ++ x ∷ []) ≡ true
list_more p q xs x w h e = list_all-append q xs (x ∷ []) ∙ (rw (list_wider p q xs w h, e) refl)

pub trees_more : {A T : Type 0} (f g : A → T) (p : A → Bool) (xs : List A) (x : A) (t : T) → ((y : A) → p y ≡ true → g y ≡ f y) → list_all p xs ≡ true → g x ≡ t → map g (xs ++ x ∷ []) ≡ map f xs ++ t ∷ []
trees_more f g p xs x t s h e = map-append g xs (x ∷ []) ∙ ap (λ (ts : List _). ts ++ g x ∷ []) (list_stays f g p xs s h) ∙ ap (λ (u : _). map f xs ++ u ∷ []) e

-- ---- pieces for the places of a list

-- those of the first n places
abbrev pub pieces : {T B : Type 0} → (ℕ → List B) → List T → ℕ → List B
pieces f xs n = flat_map f (take n (places_from 0 xs))

take_place : {T : Type 0} (xs : List T) (j k : ℕ) → k < length xs → take (suc k) (places_from j xs) ≡ take k (places_from j xs) ++ (j + k) ∷ []
take_place [] j k l = absurd (omega arith)
take_place (y ∷ ys) j zero l = let e : j ≡ j + 0 = omega arith in ap (λ (i : ℕ). i ∷ []) e
take_place (y ∷ ys) j (suc k) l =
    let e : j + 1 + k ≡ j + suc k = omega arith in
    ap (λ (l : List ℕ). j ∷ l) (take_place ys (j + 1) k (omega arith) ∙ ap (λ (i : ℕ). take k (places_from (j + 1) ys) ++ i ∷ []) e)

pub pieces_more : {T B : Type 0} (f : ℕ → List B) (xs : List T) (k : ℕ) → k < length xs → pieces f xs (k + 1) ≡ pieces f xs k ++ f k
pieces_more f xs k l =
    let e : 0 + k ≡ k = omega arith in
    rw add-one
    (ap (flat_map f) (take_place xs 0 k l) ∙ flat_map-append f (take k (places_from 0 xs)) ((0 + k) ∷ []) ∙ ap (λ (i : ℕ). pieces f xs k ++ flat_map f (i ∷ [])) e ∙ ap (λ (bs : List _). pieces f xs k ++ bs) (append-nil (f k)))

taken_places : {T : Type 0} (xs : List T) (j k : ℕ) → length xs ≤ k → take k (places_from j xs) ≡ places_from j xs
taken_places [] j zero l = refl
taken_places [] j (suc k) l = refl
taken_places (y ∷ ys) j zero l = absurd (omega arith)
taken_places (y ∷ ys) j (suc k) l = ap (λ (l : List ℕ). j ∷ l) (taken_places ys (j + 1) k (omega arith))

pub pieces_all : {T B : Type 0} (f : ℕ → List B) (xs : List T) (k : ℕ) → length xs ≤ k → pieces f xs k ≡ flat_map f (places_from 0 xs)
pieces_all f xs k l = ap (flat_map f) (taken_places xs 0 k l)

pub pieces_next : {T B : Type 0} (f : ℕ → List B) (xs : List T) (k : ℕ) (before now next : List B) → k < length xs → now ≡ before ++ pieces f xs k → next ≡ now ++ f k → next ≡ before ++ pieces f xs (k + 1)
pieces_next f xs k before now next l h e = e ∙ ap (λ (bs : List _). bs ++ f k) h ∙ append_assoc before (pieces f xs k) (f k) ∙ ap (λ (bs : List _). before ++ bs) (sym (pieces_more f xs k l))

pub pieces_end : {T B : Type 0} (f : ℕ → List B) (xs : List T) (k : ℕ) (before now : List B) → length xs ≤ k → now ≡ before ++ pieces f xs k → now ≡ before ++ flat_map f (places_from 0 xs)
pieces_end f xs k before now l h = h ∙ ap (λ (bs : List _). before ++ bs) (pieces_all f xs k l)

-- ---- one item for each place of a list

pub lines_next : {T B : Type 0} (f : ℕ → B) (xs : List T) (k : ℕ) (before now next : List B) → k < length xs → now ≡ before ++ map f (take k (places_from 0 xs)) → next ≡ now ++ f k ∷ [] → next ≡ before ++ map f (take (k + 1) (places_from 0 xs))
lines_next f xs k before now next l h e =
    let one : 0 + k ≡ k = omega arith in
    let more : map f (take (k + 1) (places_from 0 xs)) ≡ map f (take k (places_from 0 xs)) ++ f k ∷ [] =
    rw add-one (ap (map f) (take_place xs 0 k l) ∙ map-append f (take k (places_from 0 xs)) ((0 + k) ∷ []) ∙ ap (λ (i : ℕ). map f (take k (places_from 0 xs)) ++ f i ∷ []) one) in
    e ∙ ap (λ (bs : List _). bs ++ f k ∷ []) h ∙ append_assoc before (map f (take k (places_from 0 xs))) (f k ∷ []) ∙ ap (λ (bs : List _). before ++ bs) (sym more)

pub lines_end : {T B : Type 0} (f : ℕ → B) (xs : List T) (k : ℕ) (before now : List B) → length xs ≤ k → now ≡ before ++ map f (take k (places_from 0 xs)) → now ≡ before ++ map f (places_from 0 xs)
lines_end f xs k before now l h = h ∙ ap (λ (is : List ℕ). before ++ map f is) (taken_places xs 0 k l)

-- an item at the end of a list
pub line_more : {A B : Type 0} (g : A → B) (xs : List A) (x : A) (t : B) → g x ≡ t → map g (xs ++ x ∷ []) ≡ map g xs ++ t ∷ []
line_more g xs x t e = map-append g xs (x ∷ []) ∙ ap (λ (u : _). map g xs ++ u ∷ []) e
