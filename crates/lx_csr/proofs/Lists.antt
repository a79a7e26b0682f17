-- Lists, and what holds of each of their items.
use Rattle.std.proofs.Common.{◌≡◌, ℕ, zero, suc, ◌+◌, ◌<◌, ◌≤◌, List, [], ◌∷◌, ◌++◌, Some, length, take, drop, get_or, refl, ap, sym, arith, subst, add-one}
use Rattle.std.specs.Prelude.{slice_get}
use Rattle.lx_fhdl.specs.Keeping.{EachOf}

-- ---- each item

pub each_left : {T : Type 0} (P : T → Type 0) (xs ys : List T) → EachOf P (xs ++ ys) → EachOf P xs
each_left P [] ys h = tt
each_left P (x ∷ xs) ys h = (h.0, each_left P xs ys h.1)

pub each_right : {T : Type 0} (P : T → Type 0) (xs ys : List T) → EachOf P (xs ++ ys) → EachOf P ys
each_right P [] ys h = h
each_right P (x ∷ xs) ys h = each_right P xs ys h.1

pub each_both : {T : Type 0} (P : T → Type 0) (xs ys : List T) → EachOf P xs → EachOf P ys → EachOf P (xs ++ ys)
each_both P [] ys h k = k
each_both P (x ∷ xs) ys h k = (h.0, each_both P xs ys h.1 k)

pub each_weaker : {T : Type 0} (P Q : T → Type 0) (xs : List T) → ((x : T) → P x → Q x) → EachOf P xs → EachOf Q xs
each_weaker P Q [] f h = tt
each_weaker P Q (x ∷ xs) f h = (f x h.0, each_weaker P Q xs f h.1)

pub each_read : {T : Type 0} (P : T → Type 0) (xs : List T) (i : ℕ) (x : T) → EachOf P xs → i < length xs → x ≡ get_or xs i x → P x
each_read P [] i x h l same = absurd (omega arith)
each_read P (y ∷ xs) zero x h l same = subst P (sym same) h.0
each_read P (y ∷ xs) (suc i) x h l same = each_read P xs i x h.1 (omega arith) same

-- ---- places

drop_suc : {T : Type 0} (xs : List T) (k : ℕ) (x : T) → slice_get xs k ≡ Some x → drop k xs ≡ x ∷ drop (suc k) xs
drop_suc [] k x e = absurd (cc)
drop_suc (y ∷ ys) zero x e = let same : y ≡ x = cc in ap (λ z. z ∷ ys) same
drop_suc (y ∷ ys) (suc k) x e = drop_suc ys k x e

pub drop_at : {T : Type 0} (xs : List T) (k : ℕ) (x : T) → slice_get xs k ≡ Some x → drop k xs ≡ x ∷ drop (k + 1) xs
drop_at xs k x e = rw add-one (drop_suc xs k x e)

pub drop_past : {T : Type 0} (xs : List T) (k : ℕ) → length xs ≤ k → drop k xs ≡ []
drop_past [] zero l = refl
drop_past [] (suc k) l = refl
drop_past (x ∷ xs) zero l = absurd (omega arith)
drop_past (x ∷ xs) (suc k) l = drop_past xs k (omega arith)

-- a list at the place of an item that was read
pub split_at : {T : Type 0} (xs : List T) (i : ℕ) (x : T) → i < length xs → x ≡ get_or xs i x → xs ≡ take i xs ++ x ∷ drop (suc i) xs
split_at [] i x l same = absurd (omega arith)
split_at (y ∷ xs) zero x l same = ap (λ z. z ∷ xs) (sym same)
split_at (y ∷ xs) (suc i) x l same = ap (λ ys. y ∷ ys) (split_at xs i x (omega arith) same)

pub take_at : {T : Type 0} (xs : List T) (i : ℕ) (x : T) → i < length xs → x ≡ get_or xs i x → take (suc i) xs ≡ take i xs ++ x ∷ []
take_at [] i x l same = absurd (omega arith)
take_at (y ∷ xs) zero x l same = ap (λ z. z ∷ []) (sym same)
take_at (y ∷ xs) (suc i) x l same = ap (λ ys. y ∷ ys) (take_at xs i x (omega arith) same)

pub read_is : {T : Type 0} (xs : List T) (i : ℕ) (x : T) → i < length xs → x ≡ get_or xs i x → slice_get xs i ≡ Some x
read_is [] i x l same = absurd (omega arith)
read_is (y ∷ xs) zero x l same = ap Some (sym same)
read_is (y ∷ xs) (suc i) x l same = read_is xs i x (omega arith) same
