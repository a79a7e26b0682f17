use Rattle.std.proofs.Common.{◌≡◌, ◌++◌, map, drop}
use Rattle.lx_plain.specs.Sources.{moved_to}
use Rattle.lx_exprs.proofs.exprs.moved_all.Given as goal

abbrev pub invariant-loop-id : goal.invariant-loop-id
invariant-loop-id l = l.list ++ map (moved_to l.parts.places.now) (drop l.id-index l.parts.ids.now) ≡ map (moved_to l.parts.places.now) l.parts.ids.now
