use Rattle.std.proofs.Common.{◌≡◌, ◌+◌, ◌-◌, ◌≤◌}
use Rattle.lx_namer.specs.Taken.{AreTakenBelow, numbered}
use Rattle.lx_namer.proofs.taken.Taken.first_free.Given as goal

abbrev pub invariant-tried : goal.invariant-tried
invariant-tried l = (l.name ≡ numbered l.base l.number) × AreTakenBelow l.self l.base l.number × (l.number ≤ l.most + 1)

abbrev pub decreases-tried : goal.decreases-tried
decreases-tried l = l.most + 1 - l.number
