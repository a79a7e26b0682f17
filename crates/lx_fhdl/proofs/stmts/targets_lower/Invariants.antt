use Rattle.std.proofs.Common.{◌≡◌, drop}
use Rattle.lx_fhdl.specs.Below.{all_targets_below}
use Rattle.lx_fhdl.proofs.stmts.targets_lower.Given as goal

abbrev pub invariant-loop-id : goal.invariant-loop-id
invariant-loop-id l = all_targets_below l.n l.places ≡ all_targets_below l.n (drop l.id-index l.places)
