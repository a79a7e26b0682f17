use Rattle.std.proofs.Common.{◌≡◌, ℕ, ◌<◌, Some}
use Rattle.std.specs.Prelude.{slice_get}
use Rattle.lx_alloc.proofs.least.is_given.Given as goal

abbrev pub invariant-loop-given : goal.invariant-loop-given
invariant-loop-given l = (k : ℕ) → k < l.given-index → slice_get l.numbers k ≡ Some l.number → ⊥
