use Rattle.std.proofs.Common.{◌≡◌, drop}
use Rattle.lx_vtree.specs.Below.{are_below}
use Rattle.lx_vtree.proofs.nodes.exprs_below.Given as goal

abbrev pub invariant-loop-id : goal.invariant-loop-id
invariant-loop-id l = are_below (drop l.id-index l.ids) l.n ≡ are_below l.ids l.n
