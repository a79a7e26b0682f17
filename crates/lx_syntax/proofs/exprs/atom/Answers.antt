use Rattle.lx_syntax.proofs.Wording.{atom_done, atom_node}
use Rattle.lx_syntax.proofs.exprs.atom.Goals as goal

pub returns-in-Done : goal.returns-in-Done
returns-in-Done c = atom_done _ _ _ _ c.in-Done.ensures

pub returns-in-Node : goal.returns-in-Node
returns-in-Node c = atom_node _ _ _ _ _ _ c.in-Node.ensures
