-- Bad bytes among so many.
use Rattle.std.proofs.Common.{ℕ, ◌+◌, Option, Some, None, arith}
use Rattle.lx_token.specs.Turns.{IsAtMost}

pub at_most : (n m : ℕ) (bad : Option ℕ) → IsAtMost n bad → IsAtMost (n + m) bad
at_most n m None h = tt
at_most n m (Some k) h = omega arith
