use Rattle.std.proofs.Common.{◌≡◌, ◌+◌, ◌*◌, ◌≤◌, drop}
use Rattle.lx_shaped.specs.Sizes.{sum_at}
use Rattle.lx_shaped.proofs.sizes.sum_of_bits.Given as goal

abbrev pub invariant-loop-part : goal.invariant-loop-part
invariant-loop-part l = record {
  sum : l.sum + sum_at l.bits (drop l.part-index l.parts) ≡ sum_at l.bits l.parts;
  bound : l.sum ≤ 255 * l.part-index;
}
