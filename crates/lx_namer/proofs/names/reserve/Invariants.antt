use Rattle.std.proofs.Common.{◌≡◌, flat_map, take}
use Rattle.lx_namer.specs.Names.{domain_names}
use Rattle.lx_namer.specs.Taken.{HaveTheSame}
use Rattle.lx_namer.proofs.names.reserve.Given as goal

abbrev pub invariant-loop-domain : goal.invariant-loop-domain
invariant-loop-domain l = (l.domain-items ≡ l.design.domains) × HaveTheSame l.taken (flat_map (domain_names l.design) (take l.domain-index l.domain-items))
