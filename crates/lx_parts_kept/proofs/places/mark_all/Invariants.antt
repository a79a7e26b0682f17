use Rattle.std.proofs.Common.{◌≡◌, drop}
use Rattle.lx_parts_kept.proofs.Free.{are_free}
use Rattle.lx_parts_kept.proofs.places.mark_all.Given as goal

abbrev pub invariant-loop-number : goal.invariant-loop-number
invariant-loop-number l = are_free l.marks (drop l.number-index l.numbers) ≡ are_free l.initial.marks l.numbers
