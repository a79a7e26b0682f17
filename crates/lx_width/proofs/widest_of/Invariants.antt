use Rattle.std.proofs.Common.{◌≡◌, drop, max}
use Rattle.lx_circuit.specs.Shapes.{widest}
use Rattle.lx_fhdl.specs.Nodes.{shapes_at}
use Rattle.lx_width.proofs.widest_of.Given as goal

abbrev pub invariant-loop-item : goal.invariant-loop-item
invariant-loop-item l = max l.bits (widest l.some_signed (shapes_at l.shapes (drop l.item-index l.items))) ≡ widest l.some_signed (shapes_at l.shapes l.items)
