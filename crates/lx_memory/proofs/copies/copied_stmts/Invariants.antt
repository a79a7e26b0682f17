use Rattle.std.proofs.Common.{◌≡◌, take}
use Rattle.lx_memory.proofs.copies.copied_stmts.Given as goal

abbrev pub invariant-loop-node : goal.invariant-loop-node
invariant-loop-node l = l.arena ≡ take l.node-index l.nodes
