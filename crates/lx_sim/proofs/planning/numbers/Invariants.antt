use Rattle.std.proofs.Common.{◌≡◌, take}
use Rattle.lx_check.specs.Loops.{numbers_of}
use Rattle.lx_sim.proofs.planning.numbers.Given as goal

abbrev pub invariant-loop-x : goal.invariant-loop-x
invariant-loop-x l = l.list ≡ numbers_of (take l.x-index l.order)
