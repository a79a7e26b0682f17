use Rattle.lx_fhdl.proofs.Resets.{each_of_at}
use Rattle.lx_description.specs.Keeping.{FsmStmtStands}
use Rattle.std.proofs.Common.{length}
use Rattle.lx_fsm_kept.proofs.Deeper.{stmt_next, target_there}
use Rattle.lx_fsm_kept.proofs.Tables.{table_none}
use Rattle.lx_fsm_kept.proofs.depths.stmt_depths.Goals as goal

pub loop-place-init : goal.loop-place-init
loop-place-init c = table_none _ _ _ c.new-depths.ensures

pub stmt_deep-depth-requires-clause-target : goal.stmt_deep-depth-requires-clause-target
stmt_deep-depth-requires-clause-target c = rw c.requires.targets.long (target_there _ _ _ (each_of_at (FsmStmtStands (length c.args.design.now.exprs) (length c.args.design.now.targets)) c.args.stmts.now c.requires.stand _ _ c.get.ensures.item))

pub loop-place-preserved : goal.loop-place-preserved
loop-place-preserved c =
    rw c.in_ok-push.ensures.ok (stmt_next c.args.design.now c.args.stmts.now _ _ _ _ _ c.lower.ensures (each_of_at (FsmStmtStands (length c.args.design.now.exprs) (length c.args.design.now.targets)) c.args.stmts.now c.requires.stand _ _ c.get.ensures.item)
    c.requires.targets c.loop-place.invariant c.get.ensures.item (rw c.as_slice.ensures at c.stmt_deep-depth.ensures))
