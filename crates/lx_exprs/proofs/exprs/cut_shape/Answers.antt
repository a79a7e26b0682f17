use Rattle.std.proofs.Common.{arith, rules}
use Rattle.std.specs.Prelude.{FitsSigned}
use Rattle.std.specs.Int.{w128}
use Rattle.lx_num.specs.Ints.{shape}
use Rattle.lx_exprs.proofs.Moved.{constant_there, other_stays, counted, below_stays, past_cut}
use Rattle.lx_exprs.proofs.exprs.cut_shape.Goals as goal

pub overflow_cast-shape : goal.overflow_cast-shape
overflow_cast-shape c = let p = constant_there _ _ _ _ _ _ c.draft-arena.ensures.keeps c.requires (rw c.draft-arena.ensures.is at c.expr.ensures.item) c.in-Const.is in search (arith, p.most)

pub wrap-requires-clause-some : goal.wrap-requires-clause-some
wrap-requires-clause-some c = (constant_there _ _ _ _ _ _ c.draft-arena.ensures.keeps c.requires (rw c.draft-arena.ensures.is at c.expr.ensures.item) c.in-Const.is).some

pub wrap-requires-clause-most : goal.wrap-requires-clause-most
wrap-requires-clause-most c = (constant_there _ _ _ _ _ _ c.draft-arena.ensures.keeps c.requires (rw c.draft-arena.ensures.is at c.expr.ensures.item) c.in-Const.is).most

pub returns-then-count-bits : goal.returns-then-count-bits
returns-then-count-bits c =
    let f : FitsSigned w128 c.in-Const.value = search rules in
    let number_is = counted c.count.result c.wrap.result c.in-Const.value (shape c.in-Const.own c.in-Const.signed) c.count.ensures c.wrap.ensures (record { sfits = c.wrap.type_inv }) f in
    below_stays _ _ _ _ _ _ _ c.draft-arena.ensures.keeps (rw c.draft-arena.ensures.is at c.expr.ensures.item) c.in-Const.is (rw (← number_is) c.if-count-bits.true)

pub returns-else-count-bits : goal.returns-else-count-bits
returns-else-count-bits c =
    let f : FitsSigned w128 c.in-Const.value = search rules in
    let number_is = counted c.count.result c.wrap.result c.in-Const.value (shape c.in-Const.own c.in-Const.signed) c.count.ensures c.wrap.ensures (record { sfits = c.wrap.type_inv }) f in (
      constant_there _ _ _ _ _ _ c.draft-arena.ensures.keeps c.requires (rw c.draft-arena.ensures.is at c.expr.ensures.item) c.in-Const.is,
      past_cut _ _ _ _ _ _ _ c.draft-arena.ensures.keeps (rw c.draft-arena.ensures.is at c.expr.ensures.item) c.in-Const.is (rw (← number_is) c.if-count-bits.false),
    )

pub returns-in_default : goal.returns-in_default
returns-in_default c = other_stays _ _ _ _ c.draft-arena.ensures.keeps (rw c.draft-arena.ensures.is at c.expr.ensures.item) c.in_default.not-Const
