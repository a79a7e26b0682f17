use Rattle.std.proofs.Common.{arith}
use Rattle.std.proofs.lemmas.Result.{err_from_is_err_and}
use Rattle.lx_alloc.specs.Places.{overlap_faults}
use Rattle.lx_alloc.proofs.Judging.{flat_exit_at, pairs_exit_at, pairs_more_at}
use Rattle.lx_alloc.proofs.origins.check_overlaps.Goals as goal

pub returns-in_err-check_earlier : goal.returns-in_err-check_earlier
returns-in_err-check_earlier c =
    let p = err_from_is_err_and c.from_residual.result c.from_residual.ensures.1 in
    rw (p.1, p.2) (pairs_exit_at overlap_faults c.args.wishes.now c.loop-i.i c.index-wishes-i.result _ (omega arith) c.index-wishes-i.is c.loop-i.invariant c.in_err-check_earlier.ensures)

pub loop-i-preserved : goal.loop-i-preserved
loop-i-preserved c =
    pairs_more_at overlap_faults c.args.wishes.now c.loop-i.i c.index-wishes-i.result (omega arith) c.index-wishes-i.is c.loop-i.invariant c.in_ok-check_earlier.ensures
