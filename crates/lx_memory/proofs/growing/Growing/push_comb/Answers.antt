use Rattle.lx_memory.proofs.Standing.{comb_growing}
use Rattle.lx_memory.proofs.growing.Growing.push_comb.Goals as goal

pub invariant_of-self-2 : goal.invariant_of-self-2
invariant_of-self-2 c = rw c.in_ok-push.ensures.ok (comb_growing c.self.inside.design c.args.id c.self.invariant (rw (← c.self.view_is) at c.requires))
