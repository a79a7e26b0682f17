use Rattle.std.proofs.Common.{◌≡◌, ◌++◌, length, map}
use Rattle.lx_pytree.specs.Trees.{tree_at}
use Rattle.lx_syntax.specs.Forms.{Lower}
use Rattle.lx_syntax.specs.Says.{argument_of}
use Rattle.lx_syntax.proofs.children.arguments_of.Given as goal

abbrev pub invariant-given : goal.invariant-given
invariant-given l =
    (l.args ++ map (argument_of (tree_at l.tree.nodes)) l.rest ≡ map (argument_of (tree_at l.tree.nodes)) l.ids) × Lower (length l.tree.nodes) l.rest

abbrev pub decreases-given : goal.decreases-given
decreases-given l = length l.rest
