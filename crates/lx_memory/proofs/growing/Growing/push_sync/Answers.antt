use Rattle.lx_memory.proofs.Standing.{sync_growing}
use Rattle.lx_memory.proofs.growing.Growing.push_sync.Goals as goal

pub invariant_of-self-2 : goal.invariant_of-self-2
invariant_of-self-2 c = rw c.in_ok-push.ensures.ok (sync_growing c.self.inside.design c.args.part c.self.invariant (rw (← c.self.view_is) at c.requires))
