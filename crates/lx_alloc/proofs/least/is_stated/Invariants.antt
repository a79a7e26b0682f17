use Rattle.std.proofs.Common.{◌≡◌, ℕ, ◌<◌, Some}
use Rattle.std.specs.Prelude.{slice_get}
use Rattle.lx_alloc.proofs.least.is_stated.Given as goal

abbrev pub invariant-loop-wish : goal.invariant-loop-wish
invariant-loop-wish l = (k : ℕ) → k < l.wish-index → slice_get l.wished k ≡ Some (Some l.number) → ⊥
