use Rattle.std.proofs.Common.{length}
use Rattle.lx_pytree.specs.Trees.{tree_at}
use Rattle.lx_syntax.specs.Trails.{AreRead}
use Rattle.lx_syntax.proofs.trailers.trailers_of.Given as goal

abbrev pub invariant-trailers : goal.invariant-trailers
invariant-trailers l = AreRead l.src (tree_at l.tree.nodes) l.fn.id.place l.parts l.rest l.trailers

abbrev pub decreases-trailers : goal.decreases-trailers
decreases-trailers l = length l.rest
