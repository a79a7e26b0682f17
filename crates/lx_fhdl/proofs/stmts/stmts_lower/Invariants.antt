use Rattle.std.proofs.Common.{◌≡◌, drop}
use Rattle.lx_fhdl.specs.Below.{all_stmts_below}
use Rattle.lx_fhdl.proofs.stmts.stmts_lower.Given as goal

abbrev pub invariant-loop-id : goal.invariant-loop-id
invariant-loop-id l = all_stmts_below l.n l.places ≡ all_stmts_below l.n (drop l.id-index l.places)
