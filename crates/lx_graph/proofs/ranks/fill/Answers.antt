use Rattle.std.proofs.Common.{refl, arith}
use Rattle.lx_graph.proofs.Ranking.{flood_popped}
use Rattle.lx_graph.proofs.ranks.fill.Goals as goal

pub touch_readers-requires-clause-flood : goal.touch_readers-requires-clause-flood
touch_readers-requires-clause-flood c =
    (flood_popped c.args.graph.now c.loop-node.flood (record c.loop-node.flood { stack = c.pop.new.self }) c.in-Some.node c.loop-node.invariant c.in-Some.ensures refl).0

pub touch_readers-requires-clause-read : goal.touch_readers-requires-clause-read
touch_readers-requires-clause-read c =
    (flood_popped c.args.graph.now c.loop-node.flood (record c.loop-node.flood { stack = c.pop.new.self }) c.in-Some.node c.loop-node.invariant c.in-Some.ensures refl).1

pub loop-node-preserved : goal.loop-node-preserved
loop-node-preserved c = c.in_ok-touch_readers.ensures.flood

pub loop-node-smaller : goal.loop-node-smaller
loop-node-smaller c =
    let h = (flood_popped c.args.graph.now c.loop-node.flood (record c.loop-node.flood { stack = c.pop.new.self }) c.in-Some.node c.loop-node.invariant c.in-Some.ensures refl).2 in
    omega (arith, h, c.in_ok-touch_readers.ensures.left)
