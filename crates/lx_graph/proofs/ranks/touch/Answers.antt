use Rattle.std.proofs.Common.{◌<◌, length, ◌∙◌, arith}
use Rattle.lx_graph.proofs.Waves.{level_is}
use Rattle.lx_graph.proofs.Ranking.{flood_itself}
use Rattle.lx_graph.proofs.ranks.touch.Goals as goal

pub returns-in-Some : goal.returns-in-Some
returns-in-Some c = flood_itself c.args.graph.now c.args.flood.now c.requires.flood

pub set_rank-requires-clause-new : goal.set_rank-requires-clause-new
set_rank-requires-clause-new c =
    let here : c.args.node < length c.args.flood.now.ranks.items = omega (arith, c.requires.flood.size) in
    level_is _ _ _ here c.index.ensures ∙ c.in-None.is
