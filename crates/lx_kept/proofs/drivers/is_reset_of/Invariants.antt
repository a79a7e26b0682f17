use Rattle.std.proofs.Common.{◌≡◌, drop}
use Rattle.lx_kept.specs.Drivers.{is_reset_of}
use Rattle.lx_kept.proofs.drivers.is_reset_of.Given as goal

abbrev pub invariant-loop-domain : goal.invariant-loop-domain
invariant-loop-domain l = is_reset_of l.x.0 (drop l.domain-index l.domains) ≡ is_reset_of l.x.0 l.domains
