use Rattle.std.proofs.Common.{◌≡◌, drop}
use Rattle.std.specs.List.{list_all}
use Rattle.lx_fhdl.specs.Kept as kept
use Rattle.lx_kept.proofs.domains.each_is_domain.Given as goal

abbrev pub invariant-loop-domain : goal.invariant-loop-domain
invariant-loop-domain l = list_all (kept.is_domain l.design) l.domains ≡ list_all (kept.is_domain l.design) (drop l.domain-index l.domains)
