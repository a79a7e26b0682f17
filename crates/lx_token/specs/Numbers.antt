-- Numbers as they are written: digits of a base, with single `_` between them.
use Rattle.std.specs.Prelude.{ℕ, ℤ, pos, nat_le, List, [], ◌∷◌, ◌==◌, ◌+◌, ◌*◌, ◌-◌, ◌^◌, nat_lt, take, drop, fold, Option, Some, None, if◌then◌else◌}
use Rattle.lx_token.specs.Bytes.{is_digit_in, digit_value}
use Rattle.lx_token.specs.declared.numbers.Number.{Number}

-- the bytes of the digits that go on behind a digit
unfoldable mutual
  pub more_digits : ℕ → List ℕ → ℕ
  more_digits base [] = 0
  more_digits base (c ∷ cs) = if is_digit_in base c then 1 + more_digits base cs else (if c == 95 then digits_behind base cs else 0)

  -- the same behind a `_`, with it
  pub digits_behind : ℕ → List ℕ → ℕ
  digits_behind base [] = 0
  digits_behind base (c ∷ cs) = if is_digit_in base c then 2 + more_digits base cs else 0

-- the bytes of the digits at the front
unfoldable pub digits_len : ℕ → List ℕ → ℕ
digits_len base [] = 0
digits_len base (c ∷ cs) = if is_digit_in base c then 1 + more_digits base cs else 0

-- the base that a letter behind a 0 names
unfoldable pub named_base : List ℕ → Option ℕ
named_base [] = None
named_base (c ∷ cs) = if c == 120 then Some 16 else (if c == 111 then Some 8 else (if c == 98 then Some 2 else None))

-- a 0, which may be repeated
unfoldable pub zeros : List ℕ → Number
zeros cs = record { base = 1; prefix = 0; digits = digits_len 1 (48 ∷ cs) }

-- behind a 0: digits of the named base, or else zeros
unfoldable pub zero_number : Option ℕ → List ℕ → Number
zero_number None cs = zeros cs
zero_number (Some base) cs =
    let digits = digits_len base (drop 1 cs) in
    if nat_lt 0 digits then record { base = base; prefix = 2; digits = digits } else zeros cs

-- the longest number at the front, where it begins with a digit
unfoldable pub number : List ℕ → Number
number [] = record { base = 10; prefix = 0; digits = 0 }
number (c ∷ cs) = if c == 48 then zero_number (named_base cs) cs else record { base = 10; prefix = 0; digits = digits_len 10 (c ∷ cs) }

-- one more digit; `_` says nothing
abbrev pub with_digit : ℕ → ℕ → ℕ → ℕ
with_digit base value c = if c == 95 then value else value * base + digit_value c

-- what the digits stand for
unfoldable pub digits_value : ℕ → List ℕ → ℕ
digits_value base digits = fold (with_digit base) 0 digits

abbrev pub number_len : Number → ℕ
number_len n = n.prefix + n.digits

-- the digits of a number that stands at the front
abbrev pub digits_of : Number → List ℕ → List ℕ
digits_of n bytes = take n.digits (drop n.prefix bytes)

-- what the number stands for whose bytes these are
unfoldable pub number_value : List ℕ → ℕ
number_value bytes = digits_value (number bytes).base (digits_of (number bytes) bytes)

-- the greatest number that may be written
abbrev pub greatest_number : ℕ
greatest_number = 2 ^ 127 - 1

-- the same as a whole number, where it may be written
unfoldable pub whole_number : List ℕ → Option ℤ
whole_number bytes = if nat_le (number_value bytes) greatest_number then Some (pos (number_value bytes)) else None
