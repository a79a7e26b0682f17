use Rattle.std.proofs.Common.{◌≤◌, length, arith}
use Rattle.lx_fhdl.specs.Keeping.{IsPort}
use Rattle.lx_sheet.specs.Plans.{plan}
use Rattle.lx_fhdl.proofs.Resets.{each_of_at}
use Rattle.lx_blocks.proofs.Writing.{body_is, ports_next}
use Rattle.lx_blocks.proofs.writes.put_body.Goals as goal

pub put_port-requires-clause-port : goal.put_port-requires-clause-port
put_port-requires-clause-port c = rw (← c.sheet.view_is) (each_of_at (IsPort c.sheet.inside.design.now) _ c.sheet.invariant.fit.keeps.ports _ _ c.at-port.ensures)

pub loop-place-preserved : goal.loop-place-preserved
loop-place-preserved c =
    rw (← c.sheet.view_is)
    (ports_next _ _ _ _ _ _ (plan c.sheet.inside.design.now c.sheet.inside.names.now) _ _ _ c.at-port.ensures (rw (← c.sheet.view_is) at c.loop-place.invariant) (rw (← c.sheet.view_is) at c.in_ok-list.ensures))

pub returns : goal.returns
returns c =
    let past : length c.args.sheet.now.design.ports ≤ c.loop-place.place = rw (← c.sheet.view_is) (omega arith) in
    body_is _ _ _ _ c.args.sheet.now _ _ c.new-list.ensures past c.loop-place.invariant
