use Rattle.std.proofs.Common.{◌≡◌, drop, map}
use Rattle.serde_json.specs.View.{members_view}
use Rattle.lx_export.specs.Json.{register_entry, with_entries}
use Rattle.lx_export.proofs.object.put_registers.Given as goal

abbrev pub invariant-loop-register : goal.invariant-loop-register
invariant-loop-register l =
    with_entries (members_view l.object.entries) (map register_entry (drop l.register-index l.registers))
    ≡ with_entries (members_view l.initial.object.entries) (map register_entry l.registers)
