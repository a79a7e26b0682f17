use Rattle.std.proofs.lemmas.Result.{IfOk-weaker}
use Rattle.lx_blocks.proofs.Grown.{lone_below}
use Rattle.lx_blocks.proofs.Resets.{reset_stmt_put}
use Rattle.lx_blocks.proofs.blocks.put_reset_stmt.Goals as goal

pub add_stmt-requires-clause-below : goal.add_stmt-requires-clause-below
add_stmt-requires-clause-below c = lone_below _ _ _ _ _ _ c.in_ok-assign.ensures c.in_ok-so.ensures c.in_ok-cond.ensures.grows

pub returns : goal.returns
returns c = IfOk-weaker c.add_stmt.result _ _ (λ i p. reset_stmt_put _ _ _ _ _ _ _ _ c.args.x.sheet.now c.args.x.id.0 c.args.reset c.in_ok-assign.ensures c.in_ok-so.ensures c.in_ok-cond.ensures p) c.add_stmt.ensures.ok
