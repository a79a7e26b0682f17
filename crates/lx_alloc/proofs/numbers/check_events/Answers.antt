use Rattle.std.proofs.Common.{arith}
use Rattle.std.proofs.lemmas.Result.{err_from_is_err_and}
use Rattle.lx_alloc.specs.Numbers.{event_faults}
use Rattle.lx_alloc.proofs.Judging.{flat_exit_at}
use Rattle.lx_alloc.proofs.numbers.check_events.Goals as goal

pub returns-in_err-check_event : goal.returns-in_err-check_event
returns-in_err-check_event c =
    let p = err_from_is_err_and c.from_residual.result c.from_residual.ensures.1 in
    rw (p.1, p.2) (flat_exit_at (event_faults c.args.managers.now) c.args.fixes.now c.loop-fix.fix-index c.fix-item.result _ (omega arith) c.fix-item.is c.loop-fix.invariant c.in_err-check_event.ensures)
