use Rattle.std.proofs.Common.{◌≡◌, ◌++◌, take}
use Rattle.std.specs.Prelude.{flat_map}
use Rattle.lx_export.specs.Csv.{register_row}
use Rattle.lx_export.proofs.table.put_registers.Given as goal

abbrev pub invariant-loop-register : goal.invariant-loop-register
invariant-loop-register l = l.out ≡ l.initial.out ++ flat_map register_row (take l.register-index l.registers)
