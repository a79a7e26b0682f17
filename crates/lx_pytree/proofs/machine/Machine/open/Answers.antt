use Rattle.lx_pytree.proofs.Moves.{open_pushed, open_stuck}
use Rattle.lx_pytree.proofs.machine.Machine.open.Goals as goal

pub returns-in_default : goal.returns-in_default
returns-in_default c = λ t. open_stuck _ _ _ _ t c.in_default.ensures

pub returns : goal.returns
returns c = open_pushed _ c.args.self.now c.push_row.new.pending c.push-2.new.self c.push.new.self _ _ _ _ _ c.replace-outer.ensures.after c.new.ensures c.replace-outer.ensures.value c.in-Some.ensures c.in-Ok-push.ensures.items c.in-Ok-push_row.ensures c.in-Ok.ensures.items c.requires
