use Rattle.std.proofs.Common.{arith}
use Rattle.lx_graph.specs.Ranks.{AreNodes}
use Rattle.lx_graph.proofs.Ranking.{flood_begun}
use Rattle.lx_graph.proofs.ranks.found_ranks.Goals as goal

pub loop-rank-init : goal.loop-rank-init
loop-rank-init c = flood_begun c.args.graph.now _ _ c.len.ensures c.in_ok-ranks.ensures c.new.ensures

pub touch-requires-clause-node : goal.touch-requires-clause-node
touch-requires-clause-node c =
    let nodes : AreNodes c.args.graph.now c.as_slice-ends.result.now = rw c.as_slice-ends.ensures c.in_ok-order.ensures in
    nodes _ 0 (omega arith)
