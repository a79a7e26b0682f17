use Rattle.std.proofs.Common.{◌≡◌, drop}
use Rattle.lx_outside.specs.Memory.{is_listed}
use Rattle.lx_outside.proofs.sources.is_among.Given as goal

abbrev pub invariant-loop-listed : goal.invariant-loop-listed
invariant-loop-listed l = is_listed (drop l.listed-index l.calls) l.call ≡ is_listed l.calls l.call
