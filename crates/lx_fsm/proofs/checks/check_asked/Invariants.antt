use Rattle.std.proofs.Common.{◌≡◌, [], take}
use Rattle.lx_fsm.specs.Decls.{asked_names}
use Rattle.lx_fsm.specs.Lowers.{unknown_in}
use Rattle.lx_fsm.proofs.checks.check_asked.Given as goal

abbrev pub invariant-loop-asked : goal.invariant-loop-asked
invariant-loop-asked l = unknown_in l.fsm (asked_names (take l.asked-index l.all)) ≡ []
