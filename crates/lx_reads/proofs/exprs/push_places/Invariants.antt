use Rattle.std.proofs.Common.{◌≡◌, ◌++◌, map, take}
use Rattle.lx_reads.specs.Net.{inner}
use Rattle.lx_reads.proofs.exprs.push_places.Given as goal

abbrev pub invariant-loop-id : goal.invariant-loop-id
invariant-loop-id l = l.row ≡ l.initial.row ++ map (inner l.signals) (take l.id-index l.places)
