use Rattle.std.proofs.Common.{◌≡◌, drop}
use Rattle.std.specs.List.{list_all}
use Rattle.lx_description.specs.Kept.{is_source}
use Rattle.lx_parts_kept.proofs.registers.are_sources.Given as goal

abbrev pub invariant-loop-source : goal.invariant-loop-source
invariant-loop-source l = list_all (is_source l.signals) (drop l.source-index l.sources) ≡ list_all (is_source l.signals) l.sources
