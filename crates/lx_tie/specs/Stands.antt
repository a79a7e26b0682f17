-- How an expression of Verilog stands for a number.
use Rattle.std.specs.Prelude.{◌≡◌, ℕ, ℤ, Bool, ◌≤◌, ◌^◌}
use Rattle.lx_num.specs.Ints.{modulo, FitsBits}
use Rattle.lx_vmeaning.specs.Meaning.{Valuation, Meaning}

-- It has exactly n bits and this sign, and every wider context of its sign has the number's bits.
pub record Exact (u : Valuation) (n : ℕ) (s : Bool) (z : ℤ) (e : Meaning) : Type 0 where
  pub some : 1 ≤ n
  pub fit : FitsBits n s z
  pub width : e.width ≡ n
  pub sign : e.signed ≡ s
  pub bits : (w : ℕ) → n ≤ w → e.bits u w s ≡ modulo z (2 ^ w)

-- A net of n bits takes the number's bits from it.
pub record Drives (u : Valuation) (n : ℕ) (z : ℤ) (e : Meaning) : Type 0 where
  pub width : e.width ≤ n
  pub bits : e.bits u n e.signed ≡ modulo z (2 ^ n)

-- A net of n or more bits does.
pub record Spreads (u : Valuation) (n : ℕ) (z : ℤ) (e : Meaning) : Type 0 where
  pub width : e.width ≤ n
  pub bits : (w : ℕ) → n ≤ w → e.bits u w e.signed ≡ modulo z (2 ^ w)
