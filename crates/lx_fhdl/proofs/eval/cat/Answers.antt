use Rattle.std.proofs.Common.{◌<◌, ◌≤◌, arith}
use Rattle.std.proofs.Math.Nat.{pow-le-pow_right}
use Rattle.lx_fhdl.specs.Nodes.{IsKnown}
use Rattle.lx_fhdl.proofs.Parts.{each_at, part_step}
use Rattle.lx_fhdl.proofs.eval.cat.Goals as goal

pub shape_of-bits-requires-in-loop-part : goal.shape_of-bits-requires-in-loop-part
shape_of-bits-requires-in-loop-part c = (each_at (IsKnown c.args.shapes.now c.args.known.now) c.args.parts.now c.loop-part.part-index _ c.requires.known c.loop-part-test.true).has_shape

pub value_of-requires : goal.value_of-requires
value_of-requires c = (each_at (IsKnown c.args.shapes.now c.args.known.now) c.args.parts.now c.loop-part.part-index _ c.requires.known c.loop-part-test.true).has_value

pub low_bits-own-requires-clause-some : goal.low_bits-own-requires-clause-some
low_bits-own-requires-clause-some c =
    rw c.shape_of-bits.ensures (each_at (IsKnown c.args.shapes.now c.args.known.now) c.args.parts.now c.loop-part.part-index _ c.requires.known c.loop-part-test.true).small.some

pub low_bits-own-requires-clause-most : goal.low_bits-own-requires-clause-most
low_bits-own-requires-clause-most c =
    rw c.shape_of-bits.ensures (each_at (IsKnown c.args.shapes.now c.args.known.now) c.args.parts.now c.loop-part.part-index _ c.requires.known c.loop-part-test.true).small.most

pub loop-part-preserved : goal.loop-part-preserved
loop-part-preserved c =
    let e = part_step c.args.shapes.now c.args.known.now c.args.parts.now c.loop-part.part-index _ c.loop-part.low c.loop-part.pattern c.low_bits-own.result c.beside-pattern.result _ _ c.shape_of-bits.result c.value_of.result
    c.loop-part-test.true c.shape_of-bits.ensures c.value_of.ensures (record { sfits = c.value_of.type_inv }) c.low_bits-own.ensures.value c.beside-pattern.ensures.value c.loop-part.invariant.bits c.loop-part.invariant.value in
    record { bits = e.0; value = e.1; below = c.beside-pattern.ensures.below }

pub number-requires : goal.number-requires
number-requires c =
    let two : 0 < 2 = omega arith in
    let h : c.loop-part.low ≤ 127 = omega arith in
    omega (arith, pow-le-pow_right two h, c.loop-part.invariant.below)
