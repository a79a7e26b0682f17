use Rattle.std.proofs.Common.{length}
use Rattle.lx_pytree.specs.Trees.{tree_at}
use Rattle.lx_syntax.specs.Brackets.{AreBranchings}
use Rattle.lx_syntax.specs.Convert.{line_of}
use Rattle.lx_syntax.proofs.exprs.branchings_of.Given as goal

abbrev pub invariant-branchings : goal.invariant-branchings
invariant-branchings l = AreBranchings (λ k. line_of (tree_at l.tree.nodes k)) (length l.nodes) l.fn.begin l.ids l.line l.rest l.made

abbrev pub decreases-branchings : goal.decreases-branchings
decreases-branchings l = length l.rest
