use Rattle.std.proofs.lemmas.Result.{IfOk-weaker}
use Rattle.lx_blocks.proofs.Grown.{assign_put}
use Rattle.lx_blocks.proofs.Resets.{whole_is}
use Rattle.lx_blocks.proofs.blocks.put_reset_assign.Goals as goal

pub returns : goal.returns
returns c = IfOk-weaker c.add_stmt.result _ _ (λ i p. assign_put _ _ _ _ _ _ _ _ _ c.in_ok-value.ensures (whole_is _ _ c.in_ok-name.ensures) p) c.add_stmt.ensures.ok
