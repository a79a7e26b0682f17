use Rattle.std.proofs.Common.{◌≡◌, drop}
use Rattle.std.specs.List.{list_any}
use Rattle.lx_description.specs.Keeping.{is_sys}
use Rattle.lx_fsm_kept.proofs.kept.has_sys.Given as goal

abbrev pub invariant-loop-domain : goal.invariant-loop-domain
invariant-loop-domain l = list_any is_sys (drop l.domain-index l.domains) ≡ list_any is_sys l.domains
