use Rattle.std.proofs.Common.{◌≡◌, drop}
use Rattle.std.specs.List.{list_all}
use Rattle.lx_fhdl.specs.Kept as kept
use Rattle.lx_kept.proofs.kept.are_there.Given as goal

abbrev pub invariant-loop-id : goal.invariant-loop-id
invariant-loop-id l = list_all (kept.is_there l.design) l.ids ≡ list_all (kept.is_there l.design) (drop l.id-index l.ids)
