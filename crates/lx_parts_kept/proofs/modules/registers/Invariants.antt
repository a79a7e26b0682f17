use Rattle.std.proofs.Common.{◌≡◌, ◌≤◌, ◌+◌, drop, min}
use Rattle.lx_description.specs.Keeping.{registers}
use Rattle.lx_parts_kept.proofs.modules.registers.Given as goal

abbrev pub invariant-loop-module : goal.invariant-loop-module
invariant-loop-module l = record { some : min (l.count + registers (drop l.module-index l.modules)) 1000001 ≡ min (registers l.modules) 1000001; most : l.count ≤ 1000001 }
