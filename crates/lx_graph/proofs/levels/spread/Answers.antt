use Rattle.std.proofs.Common.{◌<◌, length, arith}
use Rattle.std.proofs.lemmas.List.{take_more}
use Rattle.lx_graph.proofs.Readers.{readers_at, reader_reads, reader_among}
use Rattle.lx_graph.proofs.Waves.{spreading, spreading_on, spreading_level, spread_all}
use Rattle.lx_graph.proofs.levels.spread.Goals as goal

pub loop-node-init : goal.loop-node-init
loop-node-init c = spreading c.args.graph.now c.args.read c.args.wave.now c.requires.spreads

pub reach-requires-clause-spreads : goal.reach-requires-clause-spreads
reach-requires-clause-spreads c = c.loop-node.invariant.spreads

pub reach-requires-clause-reads : goal.reach-requires-clause-reads
reach-requires-clause-reads c =
    let here : c.args.read < length c.args.readers.now = omega (arith, c.requires.readers.size) in
    let e = readers_at c.args.readers.now c.args.read _ c.as_slice-nodes.result.now here c.index-readers-read.is c.as_slice-nodes.ensures in
    reader_reads c.args.graph.now c.args.readers.now c.args.read c.loop-node.node-index c.as_slice-nodes.result.now c.requires.readers e (omega arith)

pub reach-requires-clause-level : goal.reach-requires-clause-level
reach-requires-clause-level c = spreading_level _ _ _ _ _ c.loop-node.invariant c.requires.level

pub loop-node-preserved : goal.loop-node-preserved
loop-node-preserved c =
    rw (take_more c.as_slice-nodes.result.now c.loop-node.node-index 0 (omega arith))
    (spreading_on _ _ _ _ _ _ _ c.loop-node.invariant c.in_ok-reach.ensures)

pub returns : goal.returns
returns c =
    let here : c.args.read < length c.args.readers.now = omega (arith, c.requires.readers.size) in
    let e = readers_at c.args.readers.now c.args.read _ c.as_slice-nodes.result.now here c.index-readers-read.is c.as_slice-nodes.ensures in
    spread_all _ _ _ _ _ c.loop-node.invariant
    (reader_among c.args.graph.now c.args.readers.now c.args.read c.loop-node.node-index c.as_slice-nodes.result.now c.requires.readers e (omega arith)) c.requires.level
