use Rattle.std.proofs.Common.{◌≡◌, take}
use Rattle.lx_alloc.specs.Places.{regions_at}
use Rattle.lx_alloc.proofs.origins.regions_at.Given as goal

abbrev pub invariant-loop-i : goal.invariant-loop-i
invariant-loop-i l = l.regions ≡ regions_at (take l.i l.wishes) (take l.i l.spots)
