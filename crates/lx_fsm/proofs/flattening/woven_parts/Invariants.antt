use Rattle.std.proofs.Common.{◌≡◌, ◌++◌, drop}
use Rattle.lx_fsm.specs.Laid.{woven_parts}
use Rattle.lx_fsm.proofs.flattening.woven_parts.Given as goal

abbrev pub invariant-loop-number : goal.invariant-loop-number
invariant-loop-number l = l.list ++ woven_parts l.domain (drop l.number l.lists) (drop l.number l.parts) ≡ woven_parts l.domain l.lists l.parts
