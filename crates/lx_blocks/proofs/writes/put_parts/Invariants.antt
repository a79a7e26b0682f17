use Rattle.std.proofs.Common.{map}
use Rattle.std.specs.List.{range_with_len}
use Rattle.lx_blocks.specs.Puts.{PutStmts}
use Rattle.lx_blocks.specs.Writes.{part_in}
use Rattle.lx_blocks.proofs.writes.put_parts.Given as goal

abbrev pub invariant-loop-i : goal.invariant-loop-i
invariant-loop-i l = PutStmts l.initial.nodes l.nodes l.initial.after l.after (map (part_in l.write) (range_with_len 0 l.i))
