use Rattle.std.proofs.Common.{◌≡◌, drop}
use Rattle.std.specs.List.{list_all}
use Rattle.lx_description.specs.Kept.{is_part}
use Rattle.lx_parts_kept.proofs.modules.are_parts.Given as goal

abbrev pub invariant-loop-part : goal.invariant-loop-part
invariant-loop-part l = list_all (is_part l.signals) (drop l.part-index l.parts) ≡ list_all (is_part l.signals) l.parts
