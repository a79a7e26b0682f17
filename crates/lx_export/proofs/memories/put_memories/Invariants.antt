use Rattle.std.proofs.Common.{◌≡◌, ◌++◌, take}
use Rattle.std.specs.Prelude.{flat_map}
use Rattle.lx_export.specs.Ld.{memory_line}
use Rattle.lx_export.proofs.memories.put_memories.Given as goal

abbrev pub invariant-loop-region : goal.invariant-loop-region
invariant-loop-region l = l.out ≡ l.initial.out ++ flat_map memory_line (take l.region-index l.regions)
