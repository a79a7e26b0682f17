use Rattle.std.proofs.Common.{◌≡◌}
use Rattle.lx_fragments.specs.Places.{nowhere}
use Rattle.lx_fragments.proofs.places.nowhere.Given as goal

abbrev pub invariant-loop-passed : goal.invariant-loop-passed
invariant-loop-passed l = l.places ≡ nowhere l._passed
