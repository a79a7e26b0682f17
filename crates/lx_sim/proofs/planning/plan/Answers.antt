use Rattle.lx_sim.proofs.Planned.{memories_stay}
use Rattle.lx_sim.proofs.planning.plan.Goals as goal

pub returns : goal.returns
returns c = record {
  plan = record {
    keeps = c.in_ok-design.ensures.keeps;
    lowered = c.in_ok-design.ensures.lowered;
    memories = memories_stay _ _ c.in_ok-design.ensures c.requires.memories;
    exprs = c.in_ok-exprs.ensures;
    shapes = c.in_ok-shapes.ensures;
    drives = c.in_ok-drives.ensures;
    below = c.in_ok-order.ensures.below;
    buckets = rw c.as_slice.ensures at c.in_ok-buckets.ensures;
  };
  lowering = c.in_ok-design.ensures;
  order = c.requires.order;
}
