use Rattle.std.proofs.Common.{◌≡◌, take}
use Rattle.std.specs.List.{flat_map}
use Rattle.lx_lower.proofs.lists.joined.Given as goal

abbrev pub invariant-loop-ids : goal.invariant-loop-ids
invariant-loop-ids l = l.list ≡ flat_map (λ ids. ids) (take l.ids-index l.lists)
