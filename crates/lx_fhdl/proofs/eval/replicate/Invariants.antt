use Rattle.std.proofs.Common.{◌≡◌, ◌*◌, ◌^◌, ◌<◌}
use Rattle.lx_circuit.specs.Values.{copies}
use Rattle.lx_fhdl.proofs.eval.replicate.Given as goal

abbrev pub invariant-loop-made : goal.invariant-loop-made
invariant-loop-made l = record {
  width : l.width ≡ l.made * l.a.bits;
  value : l.pattern ≡ copies l.made l.a.bits l.copy;
  below : l.pattern < 2 ^ l.width;
}
