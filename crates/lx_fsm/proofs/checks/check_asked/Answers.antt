use Rattle.std.proofs.Common.{arith}
use Rattle.std.proofs.lemmas.Result.{err_from_is_err_and}
use Rattle.lx_fsm.proofs.Naming.{asked_end, asked_exit, asked_more}
use Rattle.lx_fsm.proofs.checks.check_asked.Goals as goal

pub loop-asked-preserved : goal.loop-asked-preserved
loop-asked-preserved c = asked_more c.args.fsm.now c.as_slice-all.result.now c.loop-asked.asked-index c.asked-item.result (omega arith) c.asked-item.is c.loop-asked.invariant c.in_ok-check_name.ensures

pub returns : goal.returns
returns c = rw (← c.as_slice-all.ensures) (asked_end c.args.fsm.now c.as_slice-all.result.now c.loop-asked.asked-index (omega arith) c.loop-asked.invariant)

pub returns-in_err-check_name : goal.returns-in_err-check_name
returns-in_err-check_name c =
    let p = err_from_is_err_and c.from_residual.result c.from_residual.ensures.1 in
    rw (p.1, p.2, ← c.as_slice-all.ensures)
    (asked_exit c.args.fsm.now c.as_slice-all.result.now c.loop-asked.asked-index c.asked-item.result _ (omega arith) c.asked-item.is c.loop-asked.invariant c.in_err-check_name.ensures)
