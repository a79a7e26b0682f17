use Rattle.std.proofs.Common.{◌≡◌, drop, map}
use Rattle.serde_json.specs.View.{members_view}
use Rattle.lx_export.specs.Json.{constant_entry, with_entries}
use Rattle.lx_export.proofs.object.put_constants.Given as goal

abbrev pub invariant-loop-constant : goal.invariant-loop-constant
invariant-loop-constant l =
    with_entries (members_view l.object.entries) (map constant_entry (drop l.constant-index l.constants))
    ≡ with_entries (members_view l.initial.object.entries) (map constant_entry l.constants)
