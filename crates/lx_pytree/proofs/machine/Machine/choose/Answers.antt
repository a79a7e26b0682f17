use Rattle.lx_pytree.proofs.Moves.{maybe_moves, skip_moves}
use Rattle.lx_pytree.proofs.machine.Machine.choose.Goals as goal

pub returns-in_default : goal.returns-in_default
returns-in_default c = skip_moves _ _ _ c.in_default.ensures c.requires

pub returns : goal.returns
returns c = maybe_moves _ c.args.self.now c.push_row.new.pending _ _ _ c.in-Some.ensures c.in-Ok.ensures c.requires
