use Rattle.std.proofs.Common.{◌≡◌, map, take}
use Rattle.lx_check.specs.Faults.{signal_name}
use Rattle.lx_check.proofs.order.names.Given as goal

abbrev pub invariant-loop-x : goal.invariant-loop-x
invariant-loop-x l = l.names ≡ map (signal_name l.design) (take l.x-index l.cycle)
