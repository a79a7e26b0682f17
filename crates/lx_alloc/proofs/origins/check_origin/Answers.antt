use Rattle.std.proofs.Common.{arith, sym}
use Rattle.lx_regions.proofs.Doubling.{rounded_power}
use Rattle.lx_alloc.proofs.Stated.{wrong_window, origin_legal}
use Rattle.lx_alloc.proofs.origins.check_origin.Goals as goal

pub overflow_sub-rounded : goal.overflow_sub-rounded
overflow_sub-rounded c = rw c.rounded_size-rounded.ensures (rounded_power c.args.wish.now.size).1

pub nonzero_rem-origin : goal.nonzero_rem-origin
nonzero_rem-origin c = let p = (rounded_power c.args.wish.now.size).2 in omega (arith, c.rounded_size-rounded.ensures, p)

pub is_inside-requires : goal.is_inside-requires
is_inside-requires c =
    let p = (rounded_power c.args.wish.now.size).1 in omega (arith, c.rounded_size-rounded.ensures, p, c.if-origin-rounded.false)

pub returns-then-not-is_inside : goal.returns-then-not-is_inside
returns-then-not-is_inside c =
    let p = (rounded_power c.args.wish.now.size).1 in
    rw c.refusal-then-not-is_inside.ensures
    (wrong_window c.args.wish.now c.in-Some.origin c.rounded_size-rounded.result _ c.in-Some.is c.rounded_size-rounded.ensures c.in_ok-name-3.ensures
    (omega (arith, c.rounded_size-rounded.ensures, p, c.if-origin-rounded.false)) c.if-origin-rounded-ne0.false (sym c.if-not-is_inside.ensures))

pub returns : goal.returns
returns c =
    let p = (rounded_power c.args.wish.now.size).1 in
    origin_legal c.args.wish.now c.in-Some.origin c.rounded_size-rounded.result c.in-Some.is c.rounded_size-rounded.ensures
    (omega (arith, c.rounded_size-rounded.ensures, p, c.if-origin-rounded.false)) c.if-origin-rounded-ne0.false (sym c.if-not-is_inside.ensures)
