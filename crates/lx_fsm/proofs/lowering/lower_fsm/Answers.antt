use Rattle.std.proofs.lemmas.Result.{err_from_is_err_and}
use Rattle.lx_fsm.proofs.Naming.{refuses, states_there}
use Rattle.lx_fsm.proofs.lowering.lower_fsm.Goals as goal

pub check_fsm-requires : goal.check_fsm-requires
check_fsm-requires c = c.requires.bodies

pub put_lists-requires : goal.put_lists-requires
put_lists-requires c = record { can = c.requires; some = states_there c.args.into.now c.args.fsm.now c.args.stmts.now (c.in_ok-check_fsm.ensures c.args.into.now) }

pub returns : goal.returns
returns c = (c.in_ok-check_fsm.ensures c.args.into.now, c.in_ok-lists.ensures)

pub returns-in_err-check_fsm : goal.returns-in_err-check_fsm
returns-in_err-check_fsm c =
    let p = err_from_is_err_and c.from_residual.result c.from_residual.ensures.1 in
    rw (p.1, p.2) (refuses c.args.into.now c.args.fsm.now c.args.stmts.now _ (c.in_err-check_fsm.ensures c.args.into.now))
