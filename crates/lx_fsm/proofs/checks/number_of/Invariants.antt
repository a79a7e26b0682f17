use Rattle.std.proofs.Common.{◌≡◌, drop}
use Rattle.lx_fsm.specs.Decls.{names_of}
use Rattle.lx_fsm.specs.Machine.{number_from}
use Rattle.lx_fsm.proofs.checks.number_of.Given as goal

abbrev pub invariant-loop-number : goal.invariant-loop-number
invariant-loop-number l = number_from 0 (names_of l.states) l.name ≡ number_from l.number (names_of (drop l.number l.states)) l.name
