use Rattle.lx_kept.proofs.Deeper.{target_there}
use Rattle.lx_kept.proofs.Marked.{stmt_marked}
use Rattle.lx_kept.proofs.Tables.{table_none}
use Rattle.lx_kept.proofs.drivers.stmt_marks.Goals as goal

pub loop-place-init : goal.loop-place-init
loop-place-init c = table_none _ _ _ c.new-marks.ensures

pub stmt_assigns-mark-requires-clause-target : goal.stmt_assigns-mark-requires-clause-target
stmt_assigns-mark-requires-clause-target c = rw c.requires.targets.long (target_there _ _ _ (c.requires.arenas.stmts _ _ c.get.ensures.item))

pub loop-place-preserved : goal.loop-place-preserved
loop-place-preserved c =
    rw c.in_ok-push.ensures.ok (stmt_marked c.args.design.now _ _ _ _ _ _ c.requires.arenas c.requires.targets c.loop-place.invariant c.get.ensures.item (rw c.as_slice.ensures at c.stmt_assigns-mark.ensures))
