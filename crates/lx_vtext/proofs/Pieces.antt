-- Words, names, numbers and literals are read again where they were printed.
use Rattle.std.proofs.Common.{◌≡◌, ℕ, ◌+◌, ◌-◌, ◌<◌, ◌≤◌, Bool, true, false, cond, not, ◌&&◌, ◌||◌, ◌==◌, List, [], ◌∷◌, ◌++◌, map, length, Some, None, IsTrue, codes, refl, sym, ap, ◌∙◌, append_assoc, arith, eq-eqb, le-leb, eqb-true, length-append}
use Rattle.std.specs.List.{list_all, AllByRecursion}
use Rattle.std.specs.Int.Digits.{digits_of}
use Rattle.std.proofs.lemmas.Option.{same_Some}
use Rattle.std.proofs.lemmas.Int.Digits.{number_digits_of, all_below_base_digits_of}
use Rattle.std.proofs.lemmas.Slice.Eq.{bytes_eq-Decides}
use Rattle.lx_vtext.specs.Names.{is_digit, is_name_start, is_name_byte, is_spelled, is_name}
use Rattle.lx_vtext.specs.Tree.{Name, Literal, VLiteral}
use Rattle.lx_vtext.specs.Fits.{is_literal, IsValue}
use Rattle.lx_vtext.specs.Printed.{number_text, base_text, literal_text, value_text}
use Rattle.lx_vtext.specs.Reading.{after, front, behind, name_at, number_value, number_at, range_at, sign_at, value_at, literal_at}
pub use Rattle.std.proofs.lemmas.Bool.{and_parts as both}

-- ---- words

pub after_again : (w rest : List ℕ) → after w (w ++ rest) ≡ Some rest
unfolding after
after_again [] rest = refl
after_again (x ∷ ws) rest = rw (eq-eqb x x refl) (after_again ws rest)

-- ---- runs of bytes

-- the text goes on with no such byte
abbrev pub stops : (ℕ → Bool) → List ℕ → Bool
stops p [] = true
stops p (b ∷ bs) = not (p b)

-- what follows an expression: no byte of a name, and no `[`
abbrev pub closes : List ℕ → Bool
closes [] = true
closes (b ∷ bs) = not (is_name_byte b) && not (b == 91)

pub closes_name : (rest : List ℕ) → closes rest ≡ true → stops is_name_byte rest ≡ true
closes_name [] c = refl
closes_name (b ∷ bs) c = (both _ _ c).0

stops_digit : (b : ℕ) → not (is_name_byte b) ≡ true → not (is_digit b) ≡ true
stops_digit b h = by (is_name_start b) (is_digit b) (b == 36) h
  where
    by : (s d o : Bool) → not (s || d || o) ≡ true → not d ≡ true
    by true d o e = absurd cc
    by false true o e = absurd cc
    by false false o e = refl

pub closes_digit : (rest : List ℕ) → closes rest ≡ true → stops is_digit rest ≡ true
closes_digit [] c = refl
closes_digit (b ∷ bs) c = stops_digit b (both _ _ c).0

pub closes_bracket : (rest : List ℕ) → closes rest ≡ true → after (codes "[") rest ≡ None
unfolding after
closes_bracket [] c = refl
closes_bracket (b ∷ bs) c = by (b == 91) (both _ _ c).1
  where
    by : (t : Bool) → not t ≡ true → cond t (Some bs) None ≡ None
    by true e = absurd cc
    by false e = refl

pub front_is : (p : ℕ → Bool) (xs rest : List ℕ) → list_all p xs ≡ true → stops p rest ≡ true → (front p (xs ++ rest) ≡ xs) × (behind p (xs ++ rest) ≡ rest)
front_is p [] [] a s = (refl, refl)
front_is p [] (b ∷ bs) a s = by (p b) s
  where
    by : (t : Bool) → not t ≡ true → (cond t (b ∷ front p bs) [] ≡ []) × (cond t (behind p bs) (b ∷ bs) ≡ b ∷ bs)
    by true e = absurd cc
    by false e = (refl, refl)
front_is p (x ∷ xs) rest a s =
    let h = both (p x) (list_all p xs) a in
    let k = front_is p xs rest h.1 s in
    (rw h.0 (ap (λ ys. x ∷ ys) k.0), rw h.0 k.1)

pub front_behind : (p : ℕ → Bool) (bytes : List ℕ) → bytes ≡ front p bytes ++ behind p bytes
front_behind p [] = refl
front_behind p (b ∷ bs) = by (p b) (front_behind p bs)
  where
    by : (t : Bool) → bs ≡ front p bs ++ behind p bs → b ∷ bs ≡ cond t (b ∷ front p bs) [] ++ cond t (behind p bs) (b ∷ bs)
    by true e = ap (λ ys. b ∷ ys) e
    by false e = refl

-- ---- names

name_bytes : (n : Name) → is_spelled n ≡ true → list_all is_name_byte n ≡ true
name_bytes [] h = absurd cc
name_bytes (b ∷ bs) h = let k = both (is_name_start b) (list_all is_name_byte bs) h in rw (k.0, k.1) refl

pub spelled : (n : Name) → IsTrue (is_name n) → is_spelled n ≡ true
unfolding is_name
spelled n h = (both _ _ h).0

pub name_again : (n : Name) (rest : List ℕ) → IsTrue (is_name n) → stops is_name_byte rest ≡ true → name_at (n ++ rest) ≡ Some (n, rest)
unfolding name_at
name_again n rest h s = let k = front_is is_name_byte n rest (name_bytes n (spelled n h)) s in rw (k.0, k.1, h) refl

-- ---- numbers

digit_back : (ds : List ℕ) → map (λ b. b - 48) (map (λ d. 48 + d) ds) ≡ ds
digit_back [] = refl
digit_back (d ∷ ds) = ap (λ x. x ∷ map (λ b. b - 48) (map (λ d. 48 + d) ds)) (omega arith) ∙ ap (λ xs. d ∷ xs) (digit_back ds)

are_digits : (ds : List ℕ) → AllByRecursion (λ d. d < 10) ds → list_all is_digit (map (λ d. 48 + d) ds) ≡ true
are_digits [] h = refl
are_digits (d ∷ ds) h = rw (le-leb 48 (48 + d) (omega arith), le-leb (48 + d) 57 (omega (arith, h.0))) (are_digits ds h.1)

number_cases : (n : ℕ) (t : Bool) → (n == 0) ≡ t → (number_value (cond t (codes "0") (map (λ d. 48 + d) (digits_of 10 n))) ≡ n) × (list_all is_digit (cond t (codes "0") (map (λ d. 48 + d) (digits_of 10 n))) ≡ true)
number_cases n true e = (sym (eqb-true n 0 e), refl)
number_cases n false e = (rw (digit_back (digits_of 10 n)) (number_digits_of 10 n (omega arith)), are_digits (digits_of 10 n) (all_below_base_digits_of 10 n (omega arith)))

pub number_back : (n : ℕ) → (number_value (number_text n) ≡ n) × (list_all is_digit (number_text n) ≡ true)
unfolding number_text
number_back n = number_cases n (n == 0) refl

pub number_again : (n : ℕ) (rest : List ℕ) → stops is_digit rest ≡ true → number_at (number_text n ++ rest) ≡ Some (n, rest)
unfolding number_at
number_again n rest s =
    let k = front_is is_digit (number_text n) rest (number_back n).1 s in
    rw (k.0, k.1, (number_back n).0, (bytes_eq-Decides (number_text n) (number_text n)).1 refl) refl

zero_text : number_text 0 ≡ 48 ∷ []
unfolding number_text
zero_text = refl

not_empty : (m : ℕ) → number_text m ≡ [] → ⊥
not_empty m e =
    let z : 0 ≡ m = ap number_value (sym e) ∙ (number_back m).0 in
    omega (arith, ap length (sym zero_text ∙ ap number_text z ∙ e))

-- a number's text begins with a digit
pub number_starts : (n : ℕ) → (b : ℕ) × (bs : List ℕ) × (number_text n ≡ b ∷ bs) × (is_digit b ≡ true)
number_starts n = by (number_text n) (number_back n).1 (not_empty n)
  where
    by : (text : List ℕ) → list_all is_digit text ≡ true → (text ≡ [] → ⊥) → (b : ℕ) × (bs : List ℕ) × (text ≡ b ∷ bs) × (is_digit b ≡ true)
    by [] a f = absurd (f refl)
    by (b ∷ bs) a f = (b, bs, refl, (both _ _ a).0)

pub range_again : (hi lo : ℕ) (rest : List ℕ) → range_at (number_text hi ++ (codes ":" ++ (number_text lo ++ (codes "]" ++ rest)))) ≡ Some ((hi, lo), rest)
unfolding range_at
range_again hi lo rest =
    rw (number_again hi (codes ":" ++ (number_text lo ++ (codes "]" ++ rest))) refl, after_again (codes ":") (number_text lo ++ (codes "]" ++ rest)), number_again lo (codes "]" ++ rest) refl, after_again (codes "]") rest) refl

-- ---- literals

pub sign_again : (signed : Bool) (rest : List ℕ) → sign_at (base_text signed ++ rest) ≡ Some (signed, rest)
unfolding sign_at after
sign_again true rest = refl
sign_again false rest = refl

stops_sign : (signed : Bool) (rest : List ℕ) → stops is_digit (base_text signed ++ rest) ≡ true
stops_sign true rest = refl
stops_sign false rest = refl

pub value_again : (v : VLiteral) (rest : List ℕ) → IsValue v → stops is_digit rest ≡ true → value_at (value_text v ++ rest) ≡ Some (v, rest)
unfolding value_at literal_text
value_again v rest h s =
    let third = number_text v.value ++ rest in
    simp append_assoc (rw (number_again v.bits (base_text v.signed ++ third) (stops_sign v.signed third), sign_again v.signed third, number_again v.value rest s, h) refl)

pub literal_again : (bits : ℕ) (signed : Bool) (value : ℕ) (rest : List ℕ) → IsTrue (is_literal bits value) → stops is_digit rest ≡ true → literal_at (literal_text bits signed value ++ rest) ≡ Some (Literal bits signed value, rest)
unfolding literal_at
literal_again bits signed value rest h s = rw (value_again (record { bits = bits; signed = signed; value = value }) rest h s) refl

-- ---- lengths, which bound the lists of parts

pub first_len : (w rest : List ℕ) → length w ≤ length (w ++ rest)
first_len w rest = omega (arith, length-append w rest)

after_cases : (w b : ℕ) (ws bs rest : List ℕ) (t : Bool) → (b == w) ≡ t → (after ws bs ≡ Some rest → bs ≡ ws ++ rest) → cond t (after ws bs) None ≡ Some rest → b ∷ bs ≡ w ∷ (ws ++ rest)
after_cases w b ws bs rest true e f h = ap (λ x. x ∷ bs) (eqb-true b w e) ∙ ap (λ xs. w ∷ xs) (f h)
after_cases w b ws bs rest false e f h = absurd cc

-- where a word is read, it stands there
pub after_is : (w bytes rest : List ℕ) → after w bytes ≡ Some rest → bytes ≡ w ++ rest
unfolding after
after_is [] bytes rest h = same_Some bytes rest h
after_is (w ∷ ws) [] rest h = absurd cc
after_is (w ∷ ws) (b ∷ bs) rest h = after_cases w b ws bs rest (b == w) refl (after_is ws bs rest) h
