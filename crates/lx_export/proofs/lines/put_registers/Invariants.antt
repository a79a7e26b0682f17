use Rattle.std.proofs.Common.{◌≡◌, ◌++◌, take}
use Rattle.std.specs.Prelude.{flat_map}
use Rattle.lx_export.specs.Listing.{register_line}
use Rattle.lx_export.proofs.lines.put_registers.Given as goal

abbrev pub invariant-loop-register : goal.invariant-loop-register
invariant-loop-register l = l.out ≡ l.initial.out ++ flat_map register_line (take l.register-index l.registers)
