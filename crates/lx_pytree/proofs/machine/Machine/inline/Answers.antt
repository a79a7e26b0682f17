use Rattle.lx_pytree.proofs.Moves.{one_moves, one_stuck}
use Rattle.lx_pytree.proofs.machine.Machine.inline.Goals as goal

pub returns-in_default : goal.returns-in_default
returns-in_default c = λ t. one_stuck _ _ _ _ t c.in_default.ensures

pub returns : goal.returns
returns c = one_moves _ c.args.self.now c.push_row.new.pending _ _ _ c.in-Some.ensures c.in-Ok.ensures c.requires
