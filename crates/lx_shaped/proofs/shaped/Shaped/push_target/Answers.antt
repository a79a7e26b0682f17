use Rattle.lx_shaped.proofs.Growing.{sizes_target}
use Rattle.lx_shaped.proofs.shaped.Shaped.push_target.Goals as goal

pub invariant_of-self-in-Ok : goal.invariant_of-self-in-Ok
invariant_of-self-in-Ok c =
    sizes_target c.self.inside.draft c.push_target.new.self c.args.node c.in-Ok.id.place c.self.inside.shapes c.self.inside.bits c.push.new.self c.args.bits
    c.self.invariant c.in-Ok.ensures.ok c.in_ok-push.ensures.ok (rw (← c.self.view_is) at c.requires.bits)
