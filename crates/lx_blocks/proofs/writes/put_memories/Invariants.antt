use Rattle.lx_blocks.specs.Lines.{PutAlways}
use Rattle.lx_blocks.specs.Writes.{memory_always_in}
use Rattle.lx_sheet.proofs.Lines.{pieces}
use Rattle.lx_blocks.proofs.writes.put_memories.Given as goal

abbrev pub invariant-loop-k : goal.invariant-loop-k
invariant-loop-k l = PutAlways l.initial.nodes l.nodes l.initial.blocks l.blocks (pieces (memory_always_in l.sheet) l.sheet.design.memories l.k)
