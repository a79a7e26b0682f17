-- How the text of an expression begins, which tells the forms apart.
use Rattle.std.proofs.Common.{◌≡◌, ℕ, zero, suc, ◌+◌, ◌≤◌, Bool, true, false, ◌&&◌, ◌==◌, ◌⊎◌, inl, inr, List, [], ◌∷◌, ◌++◌, None, IsTrue, nat_le, codes, refl, sym, ap, ◌∙◌, append_assoc, arith, eqb-true, leb-true}
use Rattle.std.proofs.lemmas.Bool.{or_cases}
use Rattle.lx_vtext.specs.Names.{is_digit, is_name_start, is_spelled, is_name}
use Rattle.lx_vtext.specs.Tree.{Name, VExpr, Net, Literal, PartSelect, Word, Unary, Binary, Conditional, Concatenation, Replication, ToSigned, ToUnsigned}
use Rattle.lx_vtext.specs.Fits.{IsExpr}
use Rattle.lx_vtext.specs.Printed.{number_text, base_text, literal_text, range_text, expr_text}
use Rattle.lx_vtext.specs.Reading.{after, number_at, range_at, count_at, unary_of, start_of, Letter, Digit}
use Rattle.lx_vtext.proofs.Pieces.{both, spelled, number_again, number_starts, stops}

-- a byte that passes the test is not one that fails it
pub differs : (p : ℕ → Bool) (b c : ℕ) → p b ≡ true → p c ≡ false → (b == c) ≡ false
differs p b c h k = by (b == c) refl
  where
    by : (t : Bool) → (b == c) ≡ t → t ≡ false
    by true e = let f : p b ≡ p c = ap p (eqb-true b c e) in sym h ∙ f ∙ k
    by false e = refl

between_apart : (b l u m v : ℕ) → (nat_le l b && nat_le b u) ≡ true → (nat_le m b && nat_le b v) ≡ true → (u + 1 ≤ m) ⊎ (v + 1 ≤ l) → ⊥
between_apart b l u m v h k d =
    let x = both (nat_le l b) (nat_le b u) h in
    let y = both (nat_le m b) (nat_le b v) k in
    let p = leb-true l b x.0 in
    let q = leb-true b u x.1 in
    let r = leb-true m b y.0 in
    let s = leb-true b v y.1 in
    elim d [ inl a ↦ omega arith | inr a ↦ omega arith ]

pub start_no_digit : (b : ℕ) → is_name_start b ≡ true → is_digit b ≡ false
start_no_digit b h = by (is_digit b) refl
  where
    last : is_digit b ≡ true → (b == 95) ≡ true → ⊥
    last e k = let x = both (nat_le 48 b) (nat_le b 57) e in let q = leb-true b 57 x.1 in let r = eqb-true b 95 k in omega arith

    by : (t : Bool) → is_digit b ≡ t → t ≡ false
    by false e = refl
    by true e =
        absurd (elim (or_cases _ (b == 95) h) [
          | inl k ↦ elim (or_cases _ _ k) [ inl x ↦ between_apart b 48 57 97 122 e x (inl (omega arith)) | inr y ↦ between_apart b 48 57 65 90 e y (inl (omega arith)) ]
          | inr z ↦ last e z
        ])

pub digit_no_start : (b : ℕ) → is_digit b ≡ true → is_name_start b ≡ false
digit_no_start b h = by (is_name_start b) refl
  where
    by : (t : Bool) → is_name_start b ≡ t → t ≡ false
    by false e = refl
    by true e = sym h ∙ start_no_digit b e

pub name_starts : (n : Name) → IsTrue (is_name n) → (b : ℕ) × (bs : List ℕ) × (n ≡ b ∷ bs) × (is_name_start b ≡ true)
name_starts n h = by n (spelled n h)
  where
    by : (m : Name) → is_spelled m ≡ true → (b : ℕ) × (bs : List ℕ) × (m ≡ b ∷ bs) × (is_name_start b ≡ true)
    by [] k = absurd cc
    by (b ∷ bs) k = (b, bs, refl, (both _ _ k).0)

pub name_start_of : (n r : List ℕ) → IsTrue (is_name n) → start_of (n ++ r) ≡ Letter
name_start_of n r h = let k = name_starts n h in rw (k.2, k.3) refl

pub number_start_of : (n : ℕ) (r : List ℕ) → start_of (number_text n ++ r) ≡ Digit
number_start_of n r = let k = number_starts n in rw (k.2, digit_no_start k.0 k.3, k.3) refl

-- the bytes begin neither with a unary operator, nor with a number that counts or bounds
pub record Plain (bytes : List ℕ) : Type 0 where
  pub unary : unary_of bytes ≡ None
  pub count : count_at bytes ≡ None
  pub range : range_at bytes ≡ None

pub no_number : (b : ℕ) (bs : List ℕ) → is_digit b ≡ false → number_at (b ∷ bs) ≡ None
unfolding number_at number_text
no_number b bs d = rw d refl

no_unary : (b : ℕ) (bs : List ℕ) → (b == 45) ≡ false → (b == 126) ≡ false → unary_of (b ∷ bs) ≡ None
unfolding unary_of after
no_unary b bs m t = rw (m, t) refl

plain_byte : (b : ℕ) (bs : List ℕ) → is_digit b ≡ false → (b == 45) ≡ false → (b == 126) ≡ false → Plain (b ∷ bs)
unfolding count_at range_at
plain_byte b bs d m t = record { unary = no_unary b bs m t; count = rw (no_number b bs d) refl; range = rw (no_number b bs d) refl }

pub plain_name : (n r : List ℕ) → IsTrue (is_name n) → Plain (n ++ r)
plain_name n r h =
    let k = name_starts n h in
    rw k.2 (plain_byte k.0 (k.1 ++ r) (start_no_digit k.0 k.3) (differs is_name_start k.0 45 k.3 refl) (differs is_name_start k.0 126 k.3 refl))

sign_is_no_mark : (signed : Bool) (r : List ℕ) → (stops is_digit (base_text signed ++ r) ≡ true) × (after (codes "{") (base_text signed ++ r) ≡ None) × (after (codes ":") (base_text signed ++ r) ≡ None)
unfolding after
sign_is_no_mark true r = (refl, refl, refl)
sign_is_no_mark false r = (refl, refl, refl)

plain_literal : (bits : ℕ) (signed : Bool) (r : List ℕ) → Plain (number_text bits ++ (base_text signed ++ r))
unfolding count_at range_at
plain_literal bits signed r =
    let k = number_starts bits in
    let m = sign_is_no_mark signed r in
    let again = number_again bits (base_text signed ++ r) m.0 in
    record { unary = rw k.2 (no_unary k.0 (k.1 ++ (base_text signed ++ r)) (differs is_digit k.0 45 k.3 refl) (differs is_digit k.0 126 k.3 refl)); count = rw (again, m.1) refl; range = rw (again, m.2) refl }

pub plain : (d : ℕ) (e : VExpr) (r : List ℕ) → IsExpr d e → Plain (expr_text e ++ r)
unfolding literal_text
plain d (Net n) r h = plain_name n r h
plain d (Literal bits signed value) r h = simp append_assoc (plain_literal bits signed (number_text value ++ r))
plain zero (PartSelect n hi lo) r h = absurd h
plain (suc d) (PartSelect n hi lo) r h = rw append_assoc (plain_name n (range_text hi lo ++ r) h)
plain zero (Word n e) r h = absurd h
plain (suc d) (Word n e) r h = simp append_assoc (plain_name n (codes "[" ++ (expr_text e ++ (codes "]" ++ r))) h.0)
plain d (Unary op e) r h = plain_byte 40 _ refl refl refl
plain d (Binary a op b) r h = plain_byte 40 _ refl refl refl
plain d (Conditional c a b) r h = plain_byte 40 _ refl refl refl
plain d (Concatenation e es) r h = plain_byte 123 _ refl refl refl
plain d (Replication k e) r h = plain_byte 123 _ refl refl refl
plain d (ToSigned e) r h = plain_byte 36 _ refl refl refl
plain d (ToUnsigned e) r h = plain_byte 36 _ refl refl refl
