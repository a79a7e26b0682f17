-- Places: what has a value at each moment.
use Rattle.std.specs.Prelude.{ℕ, ℤ, Bool, false, nat_eq}

-- a signal, a word of a memory, or what a port keeps: an address, or data
pub data Place : Type 0 where
  At : (signal : ℕ) → Place
  Word : (memory address : ℕ) → Place
  Kept : (port : ℕ) → Place

-- the values of all places
abbrev pub Values : Type 0
Values = Place → ℤ

-- the place is the signal, some word of the memory, what the port keeps
abbrev pub is_at : ℕ → Place → Bool
is_at x (At z) = nat_eq x z
is_at x _ = false

abbrev pub is_word : ℕ → Place → Bool
is_word m (Word n k) = nat_eq m n
is_word m _ = false

abbrev pub is_kept : ℕ → Place → Bool
is_kept j (Kept i) = nat_eq j i
is_kept j _ = false
