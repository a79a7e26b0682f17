use Rattle.std.proofs.Common.{arith}
use Rattle.lx_graph.specs.Cycle.{OnCycle}
use Rattle.lx_graph.specs.Through.{Links}
use Rattle.lx_graph.proofs.Ways.{links_cycle, one_more}
use Rattle.lx_graph.proofs.cycle.told_cycle.Goals as goal

pub loop-target-preserved : goal.loop-target-preserved
loop-target-preserved c = one_more (λ a. OnCycle (Links c.args.graph.now) a → ⊥) c.loop-target.target c.loop-target.invariant (rw c.in-None.is at c.in_ok-found.ensures)

pub unreachable-requires : goal.unreachable-requires
unreachable-requires c =
    let p = links_cycle c.args.graph.now c.requires.0 c.holds.ensures c.requires.1 in
    c.loop-target.invariant p.0 (omega (arith, p.1)) p.2
