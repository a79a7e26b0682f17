use Rattle.std.proofs.Common.{◌≡◌, drop}
use Rattle.std.specs.List.{list_any}
use Rattle.std.specs.Str.{bytes_eq}
use Rattle.lx_fsm_kept.specs.Names.{asked_names}
use Rattle.lx_fsm_kept.proofs.fsms.is_asked.Given as goal

abbrev pub invariant-loop-asked : goal.invariant-loop-asked
invariant-loop-asked l = list_any (bytes_eq l.name) (asked_names l.all) ≡ list_any (bytes_eq l.name) (asked_names (drop l.asked-index l.all))
