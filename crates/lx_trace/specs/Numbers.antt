-- Numbers as a trace writes them.
use Rattle.std.specs.Prelude.{ℕ, ℤ, pos, Bool, List, [], ◌∷◌, ◌+◌, ◌-◌, ◌*◌, ◌&&◌, Option, Some, None, nat_eq, nat_le, nat_lt, option_map, if◌then◌else◌}
use Rattle.std.proofs.Common.{neg_ℤ}
use Rattle.std.specs.List.{list_all}

abbrev pub is_between : ℕ → ℕ → ℕ → Bool
is_between low high b = nat_le low b && nat_le b high

-- what a byte stands for as a digit: 0 to 9, a to f or A to F; 16 where it is none
abbrev pub digit : ℕ → ℕ
digit b =
    if is_between 48 57 b then b - 48
    else (if is_between 97 102 b then b - 87 else (if is_between 65 70 b then b - 55 else 16))

abbrev pub are_digits : ℕ → List ℕ → Bool
are_digits base bytes = list_all (λ b. nat_lt (digit b) base) bytes

-- the number of these digits behind a number
unfoldable pub digits_value : ℕ → ℕ → List ℕ → ℕ
digits_value base n [] = n
digits_value base n (b ∷ bs) = digits_value base (base * n + digit b) bs

-- digits, at least one
abbrev pub number_in : ℕ → List ℕ → Option ℕ
number_in base [] = None
number_in base (b ∷ bs) = if are_digits base (b ∷ bs) then Some (digits_value base 0 (b ∷ bs)) else None

-- a decimal number from 1 on, without a leading zero
unfoldable pub counting : List ℕ → Option ℕ
counting [] = None
counting (b ∷ bs) = if nat_eq b 48 then None else number_in 10 (b ∷ bs)

-- behind a first 0: nothing, or `x` and hexadecimal digits
abbrev pub behind_zero : List ℕ → Option ℕ
behind_zero [] = Some 0
behind_zero (b ∷ bs) = if nat_eq b 120 then number_in 16 bs else None

-- `0`, or `0x` and hexadecimal digits, or a decimal number without a leading zero
abbrev pub magnitude : List ℕ → Option ℕ
magnitude [] = None
magnitude (b ∷ bs) = if nat_eq b 48 then behind_zero bs else number_in 10 (b ∷ bs)

-- The number that a word is, with or without `-` before it.
unfoldable pub number : List ℕ → Option ℤ
number [] = None
number (b ∷ bs) = if nat_eq b 45 then option_map (λ n. neg_ℤ (pos n)) (magnitude bs) else option_map (λ n. pos n) (magnitude (b ∷ bs))
