use Rattle.std.proofs.Common.{◌≡◌, ◌++◌, take}
use Rattle.lx_export.specs.Rows.{lower}
use Rattle.lx_export.proofs.texts.put_lower.Given as goal

abbrev pub invariant-loop-byte : goal.invariant-loop-byte
invariant-loop-byte l = l.out ≡ l.initial.out ++ lower (take l.byte-index l.name)
