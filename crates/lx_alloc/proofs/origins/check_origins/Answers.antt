use Rattle.std.proofs.Common.{arith}
use Rattle.std.proofs.lemmas.Result.{err_from_is_err_and}
use Rattle.lx_alloc.specs.Places.{place_faults}
use Rattle.lx_alloc.proofs.Judging.{flat_exit_at, pairs_exit_at, pairs_more_at}
use Rattle.lx_alloc.proofs.origins.check_origins.Goals as goal

pub returns-in_err-check_origin : goal.returns-in_err-check_origin
returns-in_err-check_origin c =
    let p = err_from_is_err_and c.from_residual.result c.from_residual.ensures.1 in
    rw (p.1, p.2) (flat_exit_at place_faults c.args.wishes.now c.loop-wish.wish-index c.wish-item.result _ (omega arith) c.wish-item.is c.loop-wish.invariant c.in_err-check_origin.ensures)
