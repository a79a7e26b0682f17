use Rattle.std.proofs.Common.{◌≡◌, length, arith}
use Rattle.lx_graph.proofs.Readers.{readers_blank, readers_all}
use Rattle.lx_graph.proofs.levels.readers_of.Goals as goal

pub loop-node-init : goal.loop-node-init
loop-node-init c =
    let e : c.loop.counter ≡ length c.args.graph.now.rows = omega (arith, c.len-end.ensures) in
    rw c.loop.invariant (readers_blank c.args.graph.now c.loop.counter e)

pub returns : goal.returns
returns c = readers_all c.args.graph.now c.loop-node.node c.loop-node.readers.items (omega arith) c.loop-node.invariant
