use Rattle.std.proofs.Common.{◌<◌, length, ◌∙◌, arith}
use Rattle.lx_graph.proofs.Searching.{mark_read}
use Rattle.lx_graph.proofs.Ranking.{met_itself}
use Rattle.lx_graph.proofs.ranks.meet.Goals as goal

pub open_node-requires-clause-new : goal.open_node-requires-clause-new
open_node-requires-clause-new c =
    let here : c.args.node < length c.args.search.now.marks.items = omega (arith, c.requires.wanders.size) in
    mark_read _ _ _ here c.index.ensures ∙ c.in-Unseen.is

pub returns-in-Open : goal.returns-in-Open
returns-in-Open c = met_itself c.args.graph.now c.args.search.now c.requires.wanders

pub returns-in-Placed : goal.returns-in-Placed
returns-in-Placed c = met_itself c.args.graph.now c.args.search.now c.requires.wanders
