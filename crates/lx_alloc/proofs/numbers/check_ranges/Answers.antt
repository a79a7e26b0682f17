use Rattle.std.proofs.Common.{arith}
use Rattle.std.proofs.lemmas.Result.{err_from_is_err_and}
use Rattle.lx_alloc.specs.Numbers.{range_faults}
use Rattle.lx_alloc.proofs.Judging.{flat_exit_at, pairs_exit_at, pairs_more_at}
use Rattle.lx_alloc.proofs.numbers.check_ranges.Goals as goal

pub returns-in_err-check_range : goal.returns-in_err-check_range
returns-in_err-check_range c =
    let p = err_from_is_err_and c.from_residual.result c.from_residual.ensures.1 in
    rw (p.1, p.2) (flat_exit_at (range_faults c.args.counted) c.args.fixes.now c.loop-fix.fix-index c.fix-item.result _ (omega arith) c.fix-item.is c.loop-fix.invariant c.in_err-check_range.ensures)
