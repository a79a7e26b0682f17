use Rattle.std.proofs.Common.{◌≡◌, ℕ, ◌+◌, ◌<◌}
use Rattle.lx_fhdl.specs.Nodes.{IsFit, IsValued}
use Rattle.lx_fhdl.proofs.eval.eval_into.Given as goal

abbrev pub invariant-loop-place : goal.invariant-loop-place
invariant-loop-place g l = record {
  values : (k : ℕ) → k < l.place → IsValued l.exprs l.shapes l.vals l.into k;
  fits : (k : ℕ) → k < l.place → IsFit l.shapes l.into k;
  cost : l.steps ≡ l.initial.steps + l.place;
}
