use Rattle.std.proofs.Common.{refl, arith}
use Rattle.lx_check.proofs.Graphing.{driven_done, driven_more, node_fits, reads_none, signal_fits}
use Rattle.lx_check.proofs.graph.add_driven.Goals as goal

pub loop-one-init : goal.loop-one-init
loop-one-init c = (c.as_slice-one-items.ensures, reads_none c.args.design.now c.args.net.now _ c.as_slice-one-items.result.now c.requires.rows)

pub add_read-requires-clause-node : goal.add_read-requires-clause-node
add_read-requires-clause-node c = signal_fits c.args.design.now c.args.net.now c.as_slice-one-items.result.now c.loop-one.one-index _ _ _ _ c.requires.net c.loop-one.invariant.0 c.loop-one-test.true refl c.loop-one.invariant.1

pub add_read-requires-clause-read : goal.add_read-requires-clause-read
add_read-requires-clause-read c = node_fits c.args.design.now c.args.net.now c.as_slice-one-items.result.now c.loop-one.one-index _ _ _ _ c.requires.net c.loop-one.invariant.0 c.loop-one-test.true refl c.loop-one.invariant.1

pub loop-one-preserved : goal.loop-one-preserved
loop-one-preserved c =
    (c.loop-one.invariant.0, driven_more c.args.design.now c.args.net.now c.as_slice-one-items.result.now c.loop-one.one-index _ _ _ _ c.requires.net c.loop-one.invariant.0 c.loop-one-test.true refl c.loop-one.invariant.1 c.in_ok-add_read.ensures.ok)

pub returns : goal.returns
returns c = driven_done c.args.design.now c.args.net.now _ _ _ (omega arith) c.loop-one.invariant.0 c.loop-one.invariant.1
