use Rattle.std.proofs.Common.{◌≡◌, ◌++◌, take}
use Rattle.std.specs.Prelude.{flat_map}
use Rattle.lx_export.specs.Csv.{region_row}
use Rattle.lx_export.proofs.table.put_regions.Given as goal

abbrev pub invariant-loop-region : goal.invariant-loop-region
invariant-loop-region l = l.out ≡ l.initial.out ++ flat_map region_row (take l.region-index l.regions)
