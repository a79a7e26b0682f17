use Rattle.std.proofs.Common.{◌≡◌, ◌≤◌, ◌+◌, length}
use Rattle.lx_sim.proofs.Evaluation.{EvaluatesTo}
use Rattle.lx_sim.proofs.settle.eval_all.Given as goal

abbrev pub invariant-loop-place : goal.invariant-loop-place
invariant-loop-place g l = record {
  values : EvaluatesTo l.plan l.places l.place-index l.vals l.words l.initial.known l.known;
  few : l.place-index ≤ length l.places;
  cost : l.steps ≡ l.initial.steps + l.place-index;
}
