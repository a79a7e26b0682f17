use Rattle.std.proofs.Common.{arith}
use Rattle.lx_width.proofs.Ends.{item_there}
use Rattle.lx_sheet.proofs.Lines.{next_piece}
use Rattle.lx_nets.proofs.Domains.{domain_next}
use Rattle.lx_nets.proofs.ports.put_domains.Goals as goal

pub loop-domain-preserved : goal.loop-domain-preserved
loop-domain-preserved c =
    let there = item_there _ _ _ _ c.loop-domain.invariant.0 (omega arith) c.domain-item.is in
    (c.loop-domain.invariant.0, next_piece _ _ _ _ _ _ c.loop-domain.invariant.1 (domain_next _ _ _ _ _ c.loop-domain.invariant.0 there) c.in_ok-put_domain.ensures)
