use Rattle.lx_fhdl.proofs.StmtTrees.{target_at-is}
use Rattle.lx_fhdl.proofs.laws.target_tree_law.Goals as goal

pub returns : goal.returns
returns c = target_at-is
