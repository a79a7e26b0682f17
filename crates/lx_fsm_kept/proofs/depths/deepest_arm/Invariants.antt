use Rattle.std.proofs.Common.{◌≡◌, drop, length, max, IsTrue}
use Rattle.lx_description.specs.Below.{all_fsm_arms_below}
use Rattle.lx_fsm_kept.specs.Depths.{deepest_arm}
use Rattle.lx_fsm_kept.proofs.depths.deepest_arm.Given as goal

abbrev pub invariant-loop-arm : goal.invariant-loop-arm
invariant-loop-arm l = record { rest : max l.deep (deepest_arm l.depths (drop l.arm-index l.arms)) ≡ deepest_arm l.depths l.arms; lower : IsTrue (all_fsm_arms_below (length l.depths) (drop l.arm-index l.arms)) }
