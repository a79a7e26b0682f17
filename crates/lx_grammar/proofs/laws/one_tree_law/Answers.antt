use Rattle.lx_grammar.proofs.Guided.{one_tree}
use Rattle.lx_grammar.proofs.laws.one_tree_law.Goals as goal

pub returns : goal.returns
returns c = one_tree
