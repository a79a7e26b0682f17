use Rattle.std.proofs.Common.{◌≡◌, ◌++◌, take}
use Rattle.std.specs.Prelude.{flat_map}
use Rattle.lx_export.specs.Listing.{bank_line}
use Rattle.lx_export.proofs.lines.put_banks.Given as goal

abbrev pub invariant-loop-bank : goal.invariant-loop-bank
invariant-loop-bank l = l.out ≡ l.initial.out ++ flat_map (bank_line l.base) (take l.bank-index l.banks)
