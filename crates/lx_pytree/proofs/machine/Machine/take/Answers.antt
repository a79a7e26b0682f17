use Rattle.std.proofs.Common.{sym, ◌∙◌}
use Rattle.std.proofs.Math.ListN.{drop_of_length-le}
use Rattle.lx_pytree.proofs.Moves.{take_none, take_stuck_at, take_moves_at}
use Rattle.lx_pytree.proofs.machine.Machine.take.Goals as goal

pub returns-then-self-items : goal.returns-then-self-items
returns-then-self-items c = λ t. take_none _ _ _ _ t (drop_of_length-le _ c.if-self-items.true)

pub returns-then-not-stands_for : goal.returns-then-not-stands_for
returns-then-not-stands_for c = λ t. take_stuck_at _ _ _ _ _ t c.if-self-items.false (sym c.stands_for.ensures ∙ c.if-not-stands_for.true)

pub returns : goal.returns
returns c = take_moves_at _ c.args.self.now _ _ _ c.if-self-items.false (sym c.stands_for.ensures ∙ c.if-not-stands_for.false) c.in-Ok.ensures.ok c.requires
