use Rattle.lx_fhdl.proofs.StmtTrees.{stmt_at-is}
use Rattle.lx_fhdl.proofs.laws.stmt_tree_law.Goals as goal

pub returns : goal.returns
returns c = stmt_at-is
