use Rattle.std.proofs.Common.{◌≡◌, take}
use Rattle.lx_check.specs.Loops.{numbers_of}
use Rattle.lx_check.specs.Orders.{signals_among}
use Rattle.lx_check.proofs.order.signals_among.Given as goal

abbrev pub invariant-loop-node : goal.invariant-loop-node
invariant-loop-node l = numbers_of l.order ≡ signals_among l.count (take l.node-index l.nodes)
