use Rattle.std.proofs.Common.{◌≡◌, drop}
use Rattle.lx_lower.specs.Fixed.{all_free}
use Rattle.lx_lower.proofs.fixed.all_free.Given as goal

abbrev pub invariant-loop-id : goal.invariant-loop-id
invariant-loop-id l = all_free l.free (drop l.id-index l.ids) ≡ all_free l.free l.ids
