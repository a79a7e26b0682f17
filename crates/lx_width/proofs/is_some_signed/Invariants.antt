use Rattle.std.proofs.Common.{◌≡◌, drop}
use Rattle.lx_circuit.specs.Shapes.{some_signed}
use Rattle.lx_fhdl.specs.Nodes.{shapes_at}
use Rattle.lx_width.proofs.is_some_signed.Given as goal

abbrev pub invariant-loop-part : goal.invariant-loop-part
invariant-loop-part l = some_signed (shapes_at l.shapes l.parts) ≡ some_signed (shapes_at l.shapes (drop l.part-index l.parts))
