use Rattle.std.proofs.lemmas.Result.{err_from_is_err_and}
use Rattle.lx_namer.proofs.Ports.{checked_next, none_checked, port_refused}
use Rattle.lx_namer.proofs.names.check_ports.Goals as goal

pub loop-x-init : goal.loop-x-init
loop-x-init c = (c.as_slice-x-items.ensures, none_checked _ _ _ c.requires)

pub returns-in_err-check_port-clause-fault : goal.returns-in_err-check_port-clause-fault
returns-in_err-check_port-clause-fault c =
    let p = err_from_is_err_and c.from_residual.result c.from_residual.ensures.1 in
    rw (p.1, p.2) (port_refused _ _ _ _ _ _ c.in_err-check_port.field-0.0 c.loop-x-test.true c.loop-x.invariant.0 c.loop-x.invariant.1 c.in_err-check_port.ensures.fault)

pub loop-x-preserved : goal.loop-x-preserved
loop-x-preserved c = (c.loop-x.invariant.0, checked_next _ _ _ _ _ _ _ c.loop-x-test.true c.loop-x.invariant.1 c.in_ok-check_port.ensures.free c.in_ok-check_port.ensures.taken)
