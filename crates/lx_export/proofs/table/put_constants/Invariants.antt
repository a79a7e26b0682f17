use Rattle.std.proofs.Common.{◌≡◌, ◌++◌, take}
use Rattle.std.specs.Prelude.{flat_map}
use Rattle.lx_export.specs.Csv.{constant_row}
use Rattle.lx_export.proofs.table.put_constants.Given as goal

abbrev pub invariant-loop-constant : goal.invariant-loop-constant
invariant-loop-constant l = l.out ≡ l.initial.out ++ flat_map constant_row (take l.constant-index l.constants)
