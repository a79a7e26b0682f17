use Rattle.std.proofs.Common.{◌≡◌, drop, length, IsTrue}
use Rattle.lx_fhdl.specs.Below.{all_arms_below}
use Rattle.lx_kept.specs.Drivers.{some_arm_marked}
use Rattle.lx_kept.proofs.drivers.some_arm_marked.Given as goal

abbrev pub invariant-loop-arm : goal.invariant-loop-arm
invariant-loop-arm l = record { rest : some_arm_marked l.marks (drop l.arm-index l.arms) ≡ some_arm_marked l.marks l.arms; lower : IsTrue (all_arms_below (length l.marks) (drop l.arm-index l.arms)) }
