use Rattle.std.proofs.Common.{◌<◌, length, arith}
use Rattle.lx_graph.proofs.Rows.{reads_node}
use Rattle.lx_graph.proofs.Readers.{readers_at, reader_reads}
use Rattle.lx_graph.proofs.Ranking.{flood_itself, flood_on}
use Rattle.lx_graph.proofs.ranks.touch_readers.Goals as goal

pub loop-node-init : goal.loop-node-init
loop-node-init c = flood_itself c.args.graph.now c.args.flood.now c.requires.flood

pub touch-requires-clause-node : goal.touch-requires-clause-node
touch-requires-clause-node c =
    let here : c.args.read < length c.args.readers.now = omega (arith, c.requires.readers.size) in
    let e = readers_at c.args.readers.now c.args.read _ c.as_slice-nodes.result.now here c.index-readers-read.is c.as_slice-nodes.ensures in
    reads_node c.args.graph.now _ c.args.read
    (reader_reads c.args.graph.now c.args.readers.now c.args.read c.loop-node.node-index c.as_slice-nodes.result.now c.requires.readers e (omega arith))

pub loop-node-preserved : goal.loop-node-preserved
loop-node-preserved c = flood_on c.args.graph.now c.args.flood.now c.loop-node.flood _ c.loop-node.invariant c.in_ok-touch.ensures
