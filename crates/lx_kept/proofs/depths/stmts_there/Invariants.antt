use Rattle.std.proofs.Common.{◌≡◌, drop}
use Rattle.lx_fhdl.specs.Below.{all_stmts_below}
use Rattle.lx_kept.proofs.depths.stmts_there.Given as goal

abbrev pub invariant-loop-id : goal.invariant-loop-id
invariant-loop-id l = all_stmts_below l.count l.ids ≡ all_stmts_below l.count (drop l.id-index l.ids)
