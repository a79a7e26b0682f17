use Rattle.std.proofs.lemmas.Result.{IfOk-weaker}
use Rattle.lx_blocks.proofs.Resets.{combined_put}
use Rattle.lx_blocks.proofs.blocks.put_combined.Goals as goal

pub returns : goal.returns
returns c = IfOk-weaker c.put_stmts.result _ _ (λ list p. combined_put _ _ _ _ _ _ _ _ _ c.in_ok-first.ensures c.in_ok-list.ensures p) c.put_stmts.ensures
