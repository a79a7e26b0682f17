use Rattle.lx_memory.proofs.Standing.{stmt_growing}
use Rattle.lx_memory.proofs.growing.Growing.push_stmt.Goals as goal

pub invariant_of-self-2 : goal.invariant_of-self-2
invariant_of-self-2 c =
    rw c.in_ok-id.ensures.ok.1 (stmt_growing c.self.inside.design c.args.node c.self.invariant (rw (← c.self.view_is) at c.requires) (rw c.in_ok-id.ensures.ok.1 at c.in_ok-id.ensures.new))
