use Rattle.std.proofs.Common.{◌≡◌, length, arith}
use Rattle.lx_graph.proofs.Ahead.{have_more, have_all}
use Rattle.lx_graph.proofs.cycle.firsts_of.Goals as goal

pub first_for-first-requires-clause-size : goal.first_for-first-requires-clause-size
first_for-first-requires-clause-size c = rw c.as_slice-before.ensures.value c.loop-node.invariant.size

pub first_for-first-requires-clause-firsts : goal.first_for-first-requires-clause-firsts
first_for-first-requires-clause-firsts c = rw c.as_slice-before.ensures.value c.loop-node.invariant.are

pub loop-node-preserved : goal.loop-node-preserved
loop-node-preserved c =
    have_more c.args.graph.now c.args.levels.now c.loop-node.firsts.items _ c.first_for-first.result c.loop-node.node c.loop-node.invariant c.in_ok-push.ensures.items c.first_for-first.ensures

pub returns : goal.returns
returns c =
    let e : c.loop-node.node ≡ length c.args.graph.now.rows = omega (arith, c.holds.ensures.plain) in
    have_all c.args.graph.now c.args.levels.now c.loop-node.firsts.items c.loop-node.node c.loop-node.invariant e
