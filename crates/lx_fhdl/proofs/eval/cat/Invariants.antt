use Rattle.std.proofs.Common.{◌≡◌, ◌+◌, ◌*◌, ◌^◌, ◌<◌, drop}
use Rattle.lx_circuit.specs.Shapes.{bits_sum}
use Rattle.lx_circuit.specs.Values.{cat_pattern}
use Rattle.lx_fhdl.specs.Nodes.{shapes_at, values_at}
use Rattle.lx_fhdl.proofs.eval.cat.Given as goal

abbrev pub invariant-loop-part : goal.invariant-loop-part
invariant-loop-part l = record {
  bits : l.low + bits_sum (shapes_at l.shapes (drop l.part-index l.parts)) ≡ bits_sum (shapes_at l.shapes l.parts);
  value : l.pattern + 2 ^ l.low * cat_pattern (shapes_at l.shapes (drop l.part-index l.parts)) (values_at l.known (drop l.part-index l.parts)) ≡ cat_pattern (shapes_at l.shapes l.parts) (values_at l.known l.parts);
  below : l.pattern < 2 ^ l.low;
}
