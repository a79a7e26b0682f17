use Rattle.std.proofs.Common.{◌≡◌, drop}
use Rattle.std.specs.List.{list_any}
use Rattle.std.specs.Str.{bytes_eq}
use Rattle.lx_kept.specs.Given.{names}
use Rattle.lx_kept.proofs.domains.is_taken.Given as goal

abbrev pub invariant-loop-domain : goal.invariant-loop-domain
invariant-loop-domain l = list_any (bytes_eq l.name) (names l.domains) ≡ list_any (bytes_eq l.name) (names (drop l.domain-index l.domains))
