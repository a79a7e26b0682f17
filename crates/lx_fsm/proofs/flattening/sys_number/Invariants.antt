use Rattle.std.proofs.Common.{◌≡◌, ◌+◌, drop}
use Rattle.lx_fsm.specs.Flattened.{sys_number}
use Rattle.lx_fsm.proofs.flattening.sys_number.Given as goal

abbrev pub invariant-loop-number : goal.invariant-loop-number
invariant-loop-number l = sys_number l.domains ≡ sys_number (drop l.number l.domains) + l.number
