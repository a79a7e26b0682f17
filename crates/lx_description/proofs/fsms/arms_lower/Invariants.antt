use Rattle.std.proofs.Common.{◌≡◌, drop}
use Rattle.lx_description.specs.Below.{all_fsm_arms_below}
use Rattle.lx_description.proofs.fsms.arms_lower.Given as goal

abbrev pub invariant-loop-arm : goal.invariant-loop-arm
invariant-loop-arm l = all_fsm_arms_below l.n l.arms ≡ all_fsm_arms_below l.n (drop l.arm-index l.arms)
