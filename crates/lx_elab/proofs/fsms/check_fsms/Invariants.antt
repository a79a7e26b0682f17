use Rattle.std.proofs.Common.{◌≡◌, [], take}
use Rattle.std.specs.Prelude.{flat_map}
use Rattle.lx_elab.proofs.Checked.{own_faults}
use Rattle.lx_elab.proofs.fsms.check_fsms.Given as goal

abbrev pub invariant-loop-fsm : goal.invariant-loop-fsm
invariant-loop-fsm l = flat_map (own_faults l.description) (take l.fsm-index l.all) ≡ []
