use Rattle.std.proofs.Common.{◌≡◌, ◌+◌, ◌*◌, max, drop}
use Rattle.lx_circuit.specs.Statements.{sum_bits, most_bits}
use Rattle.lx_fhdl.specs.Designs.{shapes, target}
use Rattle.lx_fhdl.specs.Stmts.{targets_at}
use Rattle.lx_flat.proofs.bits.+bits.Given as goal

abbrev pub decreases-target_bits : goal.decreases-target_bits
decreases-target_bits l = 2 * l.target.id.place + 1

abbrev pub decreases-sum_of_bits : goal.decreases-sum_of_bits
decreases-sum_of_bits l = 2 * l.parts.bound

abbrev pub decreases-most_of_bits : goal.decreases-most_of_bits
decreases-most_of_bits l = 2 * l.items.bound

abbrev pub invariant-sum_of_bits-loop-part : goal.invariant-sum_of_bits-loop-part
invariant-sum_of_bits-loop-part l = l.bits + sum_bits (shapes l.parts.source.now.design) (targets_at (target l.parts.source.now.design) (drop l.part-index l.parts.ids.now)) ≡ sum_bits (shapes l.parts.source.now.design) (targets_at (target l.parts.source.now.design) l.parts.ids.now)

abbrev pub invariant-most_of_bits-loop-item : goal.invariant-most_of_bits-loop-item
invariant-most_of_bits-loop-item l = max l.bits (most_bits (shapes l.items.source.now.design) (targets_at (target l.items.source.now.design) (drop l.item-index l.items.ids.now))) ≡ most_bits (shapes l.items.source.now.design) (targets_at (target l.items.source.now.design) l.items.ids.now)
