use Rattle.std.proofs.Common.{◌≡◌, [], take}
use Rattle.std.specs.Prelude.{flat_map}
use Rattle.lx_alloc.specs.Places.{place_faults}
use Rattle.lx_alloc.proofs.origins.check_origins.Given as goal

abbrev pub invariant-loop-wish : goal.invariant-loop-wish
invariant-loop-wish l = flat_map place_faults (take l.wish-index l.wishes) ≡ []
