use Rattle.std.proofs.lemmas.Result.{IfOk-weaker}
use Rattle.lx_blocks.proofs.Grown.{assign_put}
use Rattle.lx_blocks.proofs.stmts.put_assign.Goals as goal

pub returns : goal.returns
returns c = IfOk-weaker c.add_stmt.result _ _ (λ i p. assign_put _ _ _ _ _ _ _ _ _ c.in_ok-value.ensures c.in_ok-target.ensures p) c.add_stmt.ensures.ok

pub make_target-requires-clause-place : goal.make_target-requires-clause-place
make_target-requires-clause-place c = c.requires.target

pub make_target-requires-clause-plain : goal.make_target-requires-clause-plain
make_target-requires-clause-plain c = c.requires.plain

pub put_operand-requires : goal.put_operand-requires
put_operand-requires c = c.requires.value
