use Rattle.std.proofs.Common.{refl}
use Rattle.lx_graph.proofs.Ranking.{touched}
use Rattle.lx_graph.proofs.ranks.set_rank.Goals as goal

pub returns : goal.returns
returns c = touched c.args.graph.now c.args.flood.now _ c.args.node c.args.rank c.requires.flood c.requires.node c.requires.new refl c.in_ok-push.ensures.ok
