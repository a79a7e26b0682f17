use Rattle.std.proofs.Common.{false}
use Rattle.lx_graph.specs.Ranks.{AllRise}
use Rattle.lx_graph.proofs.Ways.{one_more}
use Rattle.lx_graph.proofs.ranks.are_ranks.Goals as goal

pub loop-node-preserved : goal.loop-node-preserved
loop-node-preserved c = one_more (λ a. AllRise c.args.graph.now c.args.ranks.now false a) c.loop-node.node c.loop-node.invariant c.if-not-all_rise.ensures
