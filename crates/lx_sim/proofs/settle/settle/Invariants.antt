use Rattle.std.proofs.Common.{◌≡◌, ◌+◌, take}
use Rattle.lx_sim.specs.Orders.{items_of}
use Rattle.lx_sim.proofs.Settling.{SettlesTo}
use Rattle.lx_sim.proofs.settle.settle.Given as goal

abbrev pub invariant-loop-place : goal.invariant-loop-place
invariant-loop-place g l = record {
  values : SettlesTo l.plan l.place l.words l.initial.vals l.vals l.known;
  cost : l.steps ≡ l.initial.steps + items_of (take l.place l.plan.buckets);
}
