use Rattle.std.proofs.Common.{sym, ap, ◌∙◌, arith}
use Rattle.lx_circuit.specs.Statements.{target_bits}
use Rattle.lx_flat.proofs.Pieces.{node_as, target_below_at, whole_stands}
use Rattle.lx_flat.proofs.bits.+bits.Goals as goal

pub most_of_bits-invariant_of-target_bits : goal.most_of_bits-invariant_of-target_bits
most_of_bits-invariant_of-target_bits t c =
    let l = target_below_at c.args.items.bound c.args.items.ids.now c.loop-item.item-index (record { place = 0; of = record {} }) c.args.items.lower.below c.loop-item-test.true in
    record { there = omega (arith, l, c.args.items.lower.within) }

pub most_of_bits-target_bits-requires : goal.most_of_bits-target_bits-requires
most_of_bits-target_bits-requires t c =
    let l = target_below_at c.args.items.bound c.args.items.ids.now c.loop-item.item-index (record { place = 0; of = record {} }) c.args.items.lower.below c.loop-item-test.true in
    (omega (arith, l), tt)

pub sum_of_bits-invariant_of-target_bits : goal.sum_of_bits-invariant_of-target_bits
sum_of_bits-invariant_of-target_bits t c =
    let l = target_below_at c.args.parts.bound c.args.parts.ids.now c.loop-part.part-index (record { place = 0; of = record {} }) c.args.parts.lower.below c.loop-part-test.true in
    record { there = omega (arith, l, c.args.parts.lower.within) }

pub sum_of_bits-target_bits-bits-requires : goal.sum_of_bits-target_bits-bits-requires
sum_of_bits-target_bits-bits-requires t c =
    let l = target_below_at c.args.parts.bound c.args.parts.ids.now c.loop-part.part-index (record { place = 0; of = record {} }) c.args.parts.lower.below c.loop-part-test.true in
    (omega (arith, l), tt)

pub target_bits-signal_bits-requires : goal.target_bits-signal_bits-requires
target_bits-signal_bits-requires t c = whole_stands _ _ _ _ _ c.target.ensures.stands c.in-Whole.is

pub target_bits-returns-in-Whole : goal.target_bits-returns-in-Whole
target_bits-returns-in-Whole t c = c.signal_bits.ensures ∙ sym (ap (target_bits _) (node_as _ _ _ _ _ c.target.ensures.tree c.in-Whole.is))

pub target_bits-returns-in-Part : goal.target_bits-returns-in-Part
target_bits-returns-in-Part t c = sym (ap (target_bits _) (node_as _ _ _ _ _ c.target.ensures.tree c.in-Part.is))

pub target_bits-returns-in-Cat : goal.target_bits-returns-in-Cat
target_bits-returns-in-Cat t c = c.sum_of_bits.ensures ∙ rw c.as_slice.ensures (sym (ap (target_bits _) (node_as _ _ _ _ _ c.target.ensures.tree c.in-Cat.is)))

pub target_bits-returns-in-Pick : goal.target_bits-returns-in-Pick
target_bits-returns-in-Pick t c = c.most_of_bits.ensures ∙ rw c.as_slice-in-Pick.ensures (sym (ap (target_bits _) (node_as _ _ _ _ _ c.target.ensures.tree c.in-Pick.is)))
