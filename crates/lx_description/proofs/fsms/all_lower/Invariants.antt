use Rattle.std.proofs.Common.{◌≡◌, drop}
use Rattle.lx_description.specs.Below.{all_fsm_below}
use Rattle.lx_description.proofs.fsms.all_lower.Given as goal

abbrev pub invariant-loop-id : goal.invariant-loop-id
invariant-loop-id l = all_fsm_below l.n l.places ≡ all_fsm_below l.n (drop l.id-index l.places)
