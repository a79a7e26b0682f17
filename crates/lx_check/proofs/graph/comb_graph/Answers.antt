use Rattle.lx_check.proofs.Graphing.{comb_graph_is}
use Rattle.lx_check.proofs.graph.comb_graph.Goals as goal

pub returns : goal.returns
returns c = comb_graph_is _ _ _ c.requires c.in_ok-add_driven.ensures
