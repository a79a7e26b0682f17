use Rattle.lx_namer.proofs.Ports.{domain_next, reserved_all}
use Rattle.lx_namer.proofs.names.reserve.Goals as goal

pub loop-domain-preserved : goal.loop-domain-preserved
loop-domain-preserved c = (c.loop-domain.invariant.0, domain_next _ _ _ _ _ _ c.loop-domain-test.true c.domain-item.is c.loop-domain.invariant.1 c.in_ok-add_domain.ensures)

pub returns : goal.returns
returns c = reserved_all _ _ _ _ c.loop-domain.invariant.0 c.loop-domain-test.false c.loop-domain.invariant.1
