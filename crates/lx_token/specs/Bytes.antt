-- Classes of bytes.
use Rattle.std.specs.Prelude.{ℕ, Bool, false, List, [], ◌∷◌, ◌&&◌, ◌||◌, ◌==◌, ◌-◌, nat_le, nat_lt, codes, if◌then◌else◌}
use Rattle.std.specs.List.{list_any}
use Rattle.std.specs.Str.{bytes_eq}

unfoldable pub is_digit : ℕ → Bool
is_digit c = nat_le 48 c && nat_le c 57

-- a letter or `_`
unfoldable pub is_letter : ℕ → Bool
is_letter c = (nat_le 97 c && nat_le c 122) || ((nat_le 65 c && nat_le c 90) || c == 95)

unfoldable pub is_name_byte : ℕ → Bool
is_name_byte c = is_letter c || is_digit c

-- what the byte is worth as a digit; 16 where it is a digit of no base
unfoldable pub digit_value : ℕ → ℕ
digit_value c = if is_digit c then c - 48 else (if nat_le 97 c && nat_le c 102 then c - 87 else (if nat_le 65 c && nat_le c 70 then c - 55 else 16))

unfoldable pub is_digit_in : ℕ → ℕ → Bool
is_digit_in base c = nat_lt (digit_value c) base

unfoldable pub is_opening : ℕ → Bool
is_opening c = list_any (λ bracket. bracket == c) (codes "([{")

unfoldable pub is_closing : ℕ → Bool
is_closing c = list_any (λ bracket. bracket == c) (codes ")]}")

-- the operators of one byte
unfoldable pub is_operator : ℕ → Bool
is_operator c = list_any (λ operator. operator == c) (codes "+-*%&|^~<>=,:.")

-- the operators of two bytes
unfoldable pub operator_pairs : List (List ℕ)
operator_pairs = codes "//" ∷ codes "**" ∷ codes "<<" ∷ codes ">>" ∷ codes "<=" ∷ codes "==" ∷ codes "!=" ∷ codes ">=" ∷ codes "+=" ∷ []

unfoldable pub is_operator_pair : ℕ → ℕ → Bool
is_operator_pair c d = list_any (λ operator. bytes_eq operator (c ∷ d ∷ [])) operator_pairs

-- the list begins with such a byte
abbrev pub begins : (ℕ → Bool) → List ℕ → Bool
begins test [] = false
begins test (c ∷ cs) = test c

abbrev pub is_line_end : ℕ → Bool
is_line_end c = c == 10

-- it begins with LF, or with CR and LF
abbrev pub begins_line_end : List ℕ → Bool
begins_line_end [] = false
begins_line_end (c ∷ cs) = c == 10 || (c == 13 && begins is_line_end cs)
