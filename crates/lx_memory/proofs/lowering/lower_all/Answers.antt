use Rattle.lx_memory.proofs.Whole.{at_index, walk_next, walk_port, walk_start}
use Rattle.lx_memory.proofs.lowering.lower_all.Goals as goal

pub loop-port-init : goal.loop-port-init
loop-port-init c = walk_start _ c.args.ports.now

pub lower_port-requires : goal.lower_port-requires
lower_port-requires c = walk_port {qs = c.args.ports.now} {k = c.loop-port.port-index} c.loop-port.invariant c.requires (at_index c.args.ports.now c.loop-port.port-index _ c.loop-port-test.true)

pub loop-port-preserved : goal.loop-port-preserved
loop-port-preserved c = walk_next c.loop-port.invariant (at_index c.args.ports.now c.loop-port.port-index _ c.loop-port-test.true) c.in_ok-lower_port.ensures
