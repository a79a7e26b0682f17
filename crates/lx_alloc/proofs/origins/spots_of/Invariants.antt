use Rattle.std.proofs.Common.{◌≡◌, take}
use Rattle.lx_alloc.specs.Places.{spots_of}
use Rattle.lx_alloc.proofs.origins.spots_of.Given as goal

abbrev pub invariant-loop-wish : goal.invariant-loop-wish
invariant-loop-wish l = l.spots.items ≡ spots_of (take l.wish-index l.wishes)
