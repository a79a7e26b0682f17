use Rattle.std.proofs.Common.{refl, arith}
use Rattle.std.proofs.lemmas.Result.{err_from_is_err_and}
use Rattle.lx_alloc.proofs.Judging.{flat_more_at}
use Rattle.lx_elab.proofs.Checked.{bodies_at, own_faults, seen_all, seen_exit}
use Rattle.lx_elab.proofs.fsms.check_fsms.Goals as goal

pub check_fsm-requires : goal.check_fsm-requires
check_fsm-requires c = bodies_at _ c.as_slice-all.result.now c.loop-fsm.fsm-index c.fsm-item.result (rw (← c.as_slice-all.ensures) at c.requires) (omega arith) c.fsm-item.is

pub loop-fsm-preserved : goal.loop-fsm-preserved
loop-fsm-preserved c =
    flat_more_at (own_faults c.args.description.now) c.as_slice-all.result.now c.loop-fsm.fsm-index c.fsm-item.result (omega arith) c.fsm-item.is c.loop-fsm.invariant
    (c.in_ok-check_fsm.ensures c.args.description.now.design)

pub returns : goal.returns
returns c = seen_all c.args.description.now c.as_slice-all.result.now c.loop-fsm.fsm-index c.as_slice-all.ensures (omega arith) c.loop-fsm.invariant

pub returns-in_err-check_fsm : goal.returns-in_err-check_fsm
returns-in_err-check_fsm c =
    let p = err_from_is_err_and c.from_residual.result c.from_residual.ensures.1 in
    rw (p.1, p.2)
    (seen_exit c.args.description.now c.as_slice-all.result.now c.loop-fsm.fsm-index c.fsm-item.result _ c.as_slice-all.ensures (omega arith) c.fsm-item.is c.loop-fsm.invariant
    (c.in_err-check_fsm.ensures c.args.description.now.design))
