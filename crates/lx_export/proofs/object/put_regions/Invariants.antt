use Rattle.std.proofs.Common.{◌≡◌, drop, map}
use Rattle.serde_json.specs.View.{members_view}
use Rattle.lx_export.specs.Json.{region_entry, with_entries}
use Rattle.lx_export.proofs.object.put_regions.Given as goal

abbrev pub invariant-loop-region : goal.invariant-loop-region
invariant-loop-region l =
    with_entries (members_view l.object.entries) (map region_entry (drop l.region-index l.regions))
    ≡ with_entries (members_view l.initial.object.entries) (map region_entry l.regions)
