use Rattle.std.proofs.Common.{◌≡◌, drop, flat_map}
use Rattle.std.specs.List.{list_all}
use Rattle.lx_description.specs.Keeping.{submodule}
use Rattle.lx_description.specs.Kept.{is_later}
use Rattle.lx_parts_kept.proofs.modules.are_later.Given as goal

abbrev pub invariant-loop-part : goal.invariant-loop-part
invariant-loop-part l = list_all (is_later l.place l.count) (flat_map submodule (drop l.part-index l.parts)) ≡ list_all (is_later l.place l.count) (flat_map submodule l.parts)
