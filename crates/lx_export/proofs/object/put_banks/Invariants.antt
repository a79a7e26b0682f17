use Rattle.std.proofs.Common.{◌≡◌, drop, map}
use Rattle.serde_json.specs.View.{members_view}
use Rattle.lx_export.specs.Json.{bank_entry, with_entries}
use Rattle.lx_export.proofs.object.put_banks.Given as goal

abbrev pub invariant-loop-bank : goal.invariant-loop-bank
invariant-loop-bank l =
    with_entries (members_view l.object.entries) (map (bank_entry l.base) (drop l.bank-index l.banks))
    ≡ with_entries (members_view l.initial.object.entries) (map (bank_entry l.base) l.banks)
