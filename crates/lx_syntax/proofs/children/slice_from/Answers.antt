use Rattle.lx_syntax.proofs.Hanging.{low_node}
use Rattle.lx_syntax.proofs.children.slice_from.Goals as goal

pub returns-in-Node : goal.returns-in-Node
returns-in-Node c = low_node _ _ _ _ _ c.in-Node.ensures
