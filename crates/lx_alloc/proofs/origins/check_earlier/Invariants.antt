use Rattle.std.proofs.Common.{◌≡◌, [], take}
use Rattle.std.specs.Prelude.{flat_map}
use Rattle.lx_alloc.specs.Places.{overlap_faults}
use Rattle.lx_alloc.proofs.origins.check_earlier.Given as goal

abbrev pub invariant-loop-earlier : goal.invariant-loop-earlier
invariant-loop-earlier l = flat_map (overlap_faults l.later) (take l.earlier-index l.before) ≡ []
