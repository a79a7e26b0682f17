use Rattle.lx_pytree.proofs.Planting.{tree_node}
use Rattle.lx_pytree.proofs.tree.Tree.node.Goals as goal

pub returns-clause-tree : goal.returns-clause-tree
returns-clause-tree c = tree_node _ _ _ c.get.ensures.all c.get.ensures.item
