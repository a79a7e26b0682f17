-- Division by nothing.
use Rattle.std.specs.Prelude.{◌≡◌, ℕ, ◌/◌}
use Rattle.std.proofs.Math.Nat.{div-zero}

-- nothing has no parts
pub no_parts : (n : ℕ) → n / 0 ≡ 0
no_parts n = div-zero n
