use Rattle.lx_memory.proofs.Standing.{target_growing}
use Rattle.lx_memory.proofs.growing.Growing.push_target.Goals as goal

pub invariant_of-self-2 : goal.invariant_of-self-2
invariant_of-self-2 c =
    rw c.in_ok-id.ensures.ok.1 (target_growing c.self.inside.design c.args.node c.self.invariant (rw (← c.self.view_is) at c.requires) (rw c.in_ok-id.ensures.ok.1 at c.in_ok-id.ensures.new))
