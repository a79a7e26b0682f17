use Rattle.std.proofs.Common.{◌≡◌, ◌++◌, take}
use Rattle.std.specs.Prelude.{flat_map}
use Rattle.lx_export.specs.Csv.{bank_row}
use Rattle.lx_export.proofs.table.put_banks.Given as goal

abbrev pub invariant-loop-bank : goal.invariant-loop-bank
invariant-loop-bank l = l.out ≡ l.initial.out ++ flat_map (bank_row l.base) (take l.bank-index l.banks)
