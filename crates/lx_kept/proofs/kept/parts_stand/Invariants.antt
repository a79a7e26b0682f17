use Rattle.std.proofs.Common.{◌≡◌, drop}
use Rattle.std.specs.List.{list_all}
use Rattle.lx_fhdl.specs.Kept as kept
use Rattle.lx_kept.proofs.kept.parts_stand.Given as goal

abbrev pub invariant-loop-part : goal.invariant-loop-part
invariant-loop-part l = list_all (kept.part_stands l.design) l.parts ≡ list_all (kept.part_stands l.design) (drop l.part-index l.parts)
