use Rattle.std.proofs.Common.{◌≡◌, drop}
use Rattle.lx_fhdl.specs.Below.{all_below}
use Rattle.lx_fhdl.proofs.exprs.all_lower.Given as goal

abbrev pub invariant-loop-id : goal.invariant-loop-id
invariant-loop-id l = all_below l.n l.places ≡ all_below l.n (drop l.id-index l.places)
