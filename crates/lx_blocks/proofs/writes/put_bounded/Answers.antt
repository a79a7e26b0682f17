use Rattle.std.proofs.Common.{ap}
use Rattle.std.proofs.lemmas.Result.{IfOk-weaker}
use Rattle.lx_blocks.proofs.Grown.{so_below}
use Rattle.lx_blocks.proofs.Writing.{bounded_put}
use Rattle.lx_blocks.proofs.writes.put_bounded.Goals as goal

pub add_stmt-requires-clause-below : goal.add_stmt-requires-clause-below
add_stmt-requires-clause-below c = so_below _ _ _ c.in_ok-so.ensures.within c.in_ok-cond.ensures.grows

pub returns : goal.returns
returns c =
    IfOk-weaker c.add_stmt.result _ _
    (λ i p. bounded_put _ _ _ _ _ _ _ _ c.args.write _ _ _ c.new-empty.ensures c.in_ok-so.ensures c.in_ok-adr.ensures (ap (λ a. a.bits) c.shape-bits.ensures.is) c.in_ok-cond.ensures p)
    c.add_stmt.ensures.ok
