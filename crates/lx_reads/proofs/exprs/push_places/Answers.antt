use Rattle.std.proofs.Common.{◌<◌, length, arith}
use Rattle.lx_fhdl.specs.Below.{ExprId}
use Rattle.lx_reads.proofs.Items.{expr_below_at}
use Rattle.lx_reads.proofs.exprs.push_places.Goals as goal

pub overflow_add-signals : goal.overflow_add-signals
overflow_add-signals c =
    let z : ExprId = record { place = 0; of = record {} } in
    let h : c.loop-id.id-index < length c.args.places.now = omega arith in
    let l = expr_below_at c.args.bound c.args.places.now c.loop-id.id-index z c.requires.below h in
    omega (arith, l, c.requires.fits)
