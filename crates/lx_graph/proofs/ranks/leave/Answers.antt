use Rattle.std.proofs.Common.{refl}
use Rattle.lx_graph.proofs.Ranking.{left_top}
use Rattle.lx_graph.proofs.ranks.leave.Goals as goal

pub returns : goal.returns
returns c = left_top c.args.graph.now c.args.search.now _ c.args.frame c.requires refl refl c.in_ok-push.ensures.ok
