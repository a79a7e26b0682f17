use Rattle.std.proofs.Common.{◌≡◌, drop}
use Rattle.lx_description.specs.Below.{all_fsm_below}
use Rattle.lx_elab.proofs.fsms.all_below.Given as goal

abbrev pub invariant-loop-id : goal.invariant-loop-id
invariant-loop-id l = all_fsm_below l.count (drop l.id-index l.ids) ≡ all_fsm_below l.count l.ids
