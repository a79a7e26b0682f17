use Rattle.std.proofs.Common.{◌≡◌, ◌+◌, ◌*◌, ◌≤◌, drop}
use Rattle.lx_circuit.specs.Shapes.{bits_sum}
use Rattle.lx_fhdl.specs.Nodes.{shapes_at}
use Rattle.lx_width.proofs.sum_of_bits.Given as goal

abbrev pub invariant-loop-part : goal.invariant-loop-part
invariant-loop-part l = record {
  sum : l.bits + bits_sum (shapes_at l.shapes (drop l.part-index l.parts)) ≡ bits_sum (shapes_at l.shapes l.parts);
  bound : l.bits ≤ 255 * l.part-index;
}
