use Rattle.std.proofs.Common.{refl}
use Rattle.lx_graph.proofs.Ranking.{met}
use Rattle.lx_graph.proofs.ranks.open_node.Goals as goal

pub returns : goal.returns
returns c =
    met c.args.graph.now c.args.search.now _ c.args.node c.requires.wanders c.requires.node c.requires.new refl c.in_ok-push.ensures.items refl
