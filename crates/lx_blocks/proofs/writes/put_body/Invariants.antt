use Rattle.std.proofs.Common.{flat_map, take}
use Rattle.lx_blocks.specs.Puts.{PutStmts}
use Rattle.lx_blocks.specs.Writes.{port_in}
use Rattle.lx_blocks.proofs.writes.put_body.Given as goal

abbrev pub invariant-loop-place : goal.invariant-loop-place
invariant-loop-place l = PutStmts l.initial.nodes l.nodes l.initial.list l.list (flat_map (port_in l.sheet l.k) (take l.place l.sheet.design.ports))
