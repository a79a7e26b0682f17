use Rattle.lx_fhdl.proofs.Trees.{term_at-is}
use Rattle.lx_fhdl.proofs.laws.tree_law.Goals as goal

pub returns : goal.returns
returns c = term_at-is
