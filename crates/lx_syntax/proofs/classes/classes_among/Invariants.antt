use Rattle.std.proofs.Common.{length}
use Rattle.lx_pytree.specs.Trees.{tree_at}
use Rattle.lx_syntax.specs.Classing.{AreSoFar}
use Rattle.lx_syntax.proofs.classes.classes_among.Given as goal

abbrev pub invariant-classes : goal.invariant-classes
invariant-classes l = AreSoFar l.src (tree_at l.tree.nodes) (length l.nodes) l.ids l.rest l.classes

abbrev pub decreases-classes : goal.decreases-classes
decreases-classes l = length l.rest
