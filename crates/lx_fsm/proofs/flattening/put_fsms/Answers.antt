use Rattle.std.proofs.Common.{arith}
use Rattle.std.proofs.lemmas.Result.{err_from_is_err_and}
use Rattle.lx_fsm.specs.Laid.{CanPut}
use Rattle.lx_fsm.proofs.PutAll.{at_item, can_stays, put_exit, put_next, refused_of}
use Rattle.std.specs.Prelude.{length}
use Rattle.lx_fsm.proofs.flattening.put_fsms.Goals as goal

pub lower_fsm-requires : goal.lower_fsm-requires
lower_fsm-requires c =
    let can = at_item (CanPut c.args.growing.now c.args.stmts.now (length c.args.comb.now) (length c.args.sync.now)) c.args.fsms.now c.loop-fsm.fsm-index c.fsm-item.result c.requires.can (omega arith) c.fsm-item.is in
    can_stays c.loop-fsm.invariant.grows can.lower

pub returns-in_err-lists : goal.returns-in_err-lists
returns-in_err-lists c =
    let p = err_from_is_err_and c.from_residual.result c.from_residual.ensures.1 in
    let can = at_item (CanPut c.args.growing.now c.args.stmts.now (length c.args.comb.now) (length c.args.sync.now)) c.args.fsms.now c.loop-fsm.fsm-index c.fsm-item.result c.requires.can (omega arith) c.fsm-item.is in
    rw (p.1, p.2)
    (put_exit c.args.fsms.now c.loop-fsm.fsm-index c.fsm-item.result _ (omega arith) c.fsm-item.is c.lower.ensures can c.loop-fsm.invariant (refused_of c.loop-fsm.growing c.lower_fsm.new.into c.args.stmts.now c.fsm-item.result _ c.in_err-lists.ensures))

pub loop-fsm-preserved : goal.loop-fsm-preserved
loop-fsm-preserved c =
    let can = at_item (CanPut c.args.growing.now c.args.stmts.now (length c.args.comb.now) (length c.args.sync.now)) c.args.fsms.now c.loop-fsm.fsm-index c.fsm-item.result c.requires.can (omega arith) c.fsm-item.is in
    rw (c.in_ok-put_lists_at.ensures.comb, c.in_ok-put_lists_at.ensures.sync)
    (put_next c.args.fsms.now c.loop-fsm.fsm-index c.fsm-item.result c.in_ok-lists.lists (omega arith) c.fsm-item.is c.lower.ensures can c.loop-fsm.invariant c.in_ok-lists.ensures)
