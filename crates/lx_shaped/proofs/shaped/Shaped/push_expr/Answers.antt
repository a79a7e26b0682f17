use Rattle.lx_shaped.proofs.Growing.{sizes_expr}
use Rattle.lx_shaped.proofs.shaped.Shaped.push_expr.Goals as goal

pub invariant_of-self-in-Ok : goal.invariant_of-self-in-Ok
invariant_of-self-in-Ok c =
    sizes_expr c.self.inside.draft c.push_expr.new.self c.args.node c.in-Ok.id.place c.self.inside.shapes c.push.new.self c.self.inside.bits c.args.shape
    c.self.invariant c.in-Ok.ensures.ok c.in_ok-push.ensures.ok (rw (← c.self.view_is) at c.requires.shape)
