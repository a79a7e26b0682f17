use Rattle.std.proofs.Common.{◌≡◌, take}
use Rattle.lx_memory.proofs.copies.copied_parts.Given as goal

abbrev pub invariant-loop-part : goal.invariant-loop-part
invariant-loop-part l = l.list ≡ take l.part-index l.parts
