use Rattle.std.proofs.Common.{◌<◌, ◌≤◌, length, arith}
use Rattle.lx_arena.proofs.Places.{node_there}
use Rattle.lx_fhdl.specs.Designs.{circuit_of}
use Rattle.lx_sim.proofs.Writing.{port_at, ports_long, writes_all, writes_more}
use Rattle.lx_sim.proofs.words.write_ports.Goals as goal

pub loop-place-preserved : goal.loop-place-preserved
loop-place-preserved c =
    let within : c.loop-place.place < length c.args.plan.now.design.ports = omega arith in
    let (q, found) = node_there c.args.plan.now.design.ports c.loop-place.place within in
    writes_more _ _ _ _ _ _ _ _ _ (port_at _ _ _ found) c.loop-place.invariant (c.write_port.ensures q found)

pub returns : goal.returns
returns c =
    let most : length (circuit_of c.args.plan.now.design).ports ≤ c.loop-place.place = omega (arith, ports_long c.args.plan.now.design) in
    writes_all _ _ _ _ _ _ _ most c.loop-place.invariant
