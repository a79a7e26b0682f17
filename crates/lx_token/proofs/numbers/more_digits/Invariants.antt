use Rattle.std.proofs.Common.{◌≡◌, ◌+◌, ◌≤◌, length}
use Rattle.lx_token.specs.Numbers.{more_digits}
use Rattle.lx_token.proofs.numbers.more_digits.Given as goal

abbrev pub invariant-digits : goal.invariant-digits
invariant-digits l =
    (more_digits l.base l.bytes + length l.rest ≡ length l.bytes + more_digits l.base l.rest) × (length l.rest ≤ length l.bytes)

abbrev pub decreases-digits : goal.decreases-digits
decreases-digits l = length l.rest
