use Rattle.lx_blocks.proofs.Grown.{stmts_more}
use Rattle.lx_blocks.proofs.Writing.{parts_next, stmts_none}
use Rattle.lx_blocks.proofs.writes.put_parts.Goals as goal

pub loop-i-init : goal.loop-i-init
loop-i-init c = stmts_none _ _ c.requires

pub loop-i-preserved : goal.loop-i-preserved
loop-i-preserved c =
    rw (c.in_ok-push.ensures.ok, parts_next c.args.write c.loop-i.i) (stmts_more _ _ _ _ _ _ _ _ c.loop-i.invariant c.in_ok-part.ensures)
