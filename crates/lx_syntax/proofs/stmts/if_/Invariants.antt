use Rattle.std.proofs.Common.{length}
use Rattle.lx_pytree.specs.Trees.{tree_at}
use Rattle.lx_syntax.specs.Blocks.{ArmsRead}
use Rattle.lx_syntax.proofs.stmts.if_.Given as goal

abbrev pub invariant-branches : goal.invariant-branches
invariant-branches l = ArmsRead (tree_at l.tree.nodes) l.fn.id.place l.parts l.rest l.branches

abbrev pub decreases-branches : goal.decreases-branches
decreases-branches l = length l.rest
