use Rattle.std.proofs.Common.{◌≡◌, length}
use Rattle.lx_pytree.specs.Trees.{tree_at}
use Rattle.lx_syntax.specs.Says.{AreNodes}
use Rattle.lx_syntax.proofs.whole.nodes_of.Given as goal

abbrev pub invariant-loop-place : goal.invariant-loop-place
invariant-loop-place l = AreNodes l.src (tree_at l.tree.nodes) l.nodes × (length l.nodes ≡ l.place)
