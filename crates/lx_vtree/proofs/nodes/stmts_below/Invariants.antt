use Rattle.std.proofs.Common.{◌≡◌, drop}
use Rattle.lx_vtree.specs.Stmts.{are_stmts_below}
use Rattle.lx_vtree.proofs.nodes.stmts_below.Given as goal

abbrev pub invariant-loop-id : goal.invariant-loop-id
invariant-loop-id l = are_stmts_below (drop l.id-index l.ids) l.n ≡ are_stmts_below l.ids l.n
