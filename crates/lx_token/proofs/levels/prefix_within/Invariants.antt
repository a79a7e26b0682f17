use Rattle.std.proofs.Common.{◌≡◌, ◌+◌, drop, nat_le}
use Rattle.std.specs.List.{prefix_len}
use Rattle.lx_token.proofs.levels.prefix_within.Given as goal

abbrev pub invariant-loop-i : goal.invariant-loop-i
invariant-loop-i l = l.i + prefix_len (λ level. nat_le level l.width) (drop l.i l.levels) ≡ prefix_len (λ level. nat_le level l.width) l.levels
