use Rattle.std.proofs.Common.{◌≡◌, drop}
use Rattle.std.specs.List.{list_all}
use Rattle.lx_fhdl.specs.Kept as kept
use Rattle.lx_kept.proofs.kept.are_memories.Given as goal

abbrev pub invariant-loop-memory : goal.invariant-loop-memory
invariant-loop-memory l = list_all kept.is_memory l.memories ≡ list_all kept.is_memory (drop l.memory-index l.memories)
