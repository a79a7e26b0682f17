use Rattle.std.proofs.Common.{arith}
use Rattle.std.proofs.lemmas.Result.{err_from_is_err_and}
use Rattle.lx_alloc.specs.Places.{overlap_faults}
use Rattle.lx_alloc.proofs.Judging.{flat_exit_at, pairs_exit_at, pairs_more_at}
use Rattle.lx_alloc.proofs.origins.check_earlier.Goals as goal

pub returns-in_err-check_overlap : goal.returns-in_err-check_overlap
returns-in_err-check_overlap c =
    let p = err_from_is_err_and c.from_residual.result c.from_residual.ensures.1 in
    rw (p.1, p.2) (flat_exit_at (overlap_faults c.args.later.now) c.args.before.now c.loop-earlier.earlier-index c.earlier-item.result _ (omega arith) c.earlier-item.is c.loop-earlier.invariant c.in_err-check_overlap.ensures)
