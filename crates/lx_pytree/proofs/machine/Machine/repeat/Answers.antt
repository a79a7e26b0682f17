use Rattle.lx_pytree.proofs.Moves.{many_pushed, stop_moves}
use Rattle.lx_pytree.proofs.machine.Machine.repeat.Goals as goal

pub returns-in_default : goal.returns-in_default
returns-in_default c = stop_moves _ _ _ c.in_default.ensures c.requires

pub returns : goal.returns
returns c = many_pushed _ c.args.self.now c.push_row.new.pending c.push.new.self _ _ c.in-Some.ensures c.in-Ok.ensures.items c.in-Ok-push_row.ensures c.requires
