use Rattle.std.proofs.Common.{◌≡◌, drop}
use Rattle.std.specs.List.{list_all}
use Rattle.lx_description.specs.Kept.{is_region}
use Rattle.lx_parts_kept.proofs.system.are_regions.Given as goal

abbrev pub invariant-loop-region : goal.invariant-loop-region
invariant-loop-region l = list_all is_region (drop l.region-index l.regions) ≡ list_all is_region l.regions
