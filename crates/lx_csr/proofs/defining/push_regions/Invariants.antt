use Rattle.std.proofs.Common.{◌≡◌, ◌++◌, take}
use Rattle.std.specs.Prelude.{flat_map}
use Rattle.lx_csr.specs.Defined.{region_names}
use Rattle.lx_csr.proofs.defining.push_regions.Given as goal

abbrev pub invariant-loop-region : goal.invariant-loop-region
invariant-loop-region l = l.names ≡ l.initial.names ++ flat_map region_names (take l.region-index l.rest)
