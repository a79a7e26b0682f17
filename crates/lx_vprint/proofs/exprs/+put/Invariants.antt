use Rattle.std.proofs.Common.{◌≡◌, ◌++◌, IsTrue, ◌+◌, ◌*◌, drop}
use Rattle.lx_vtext.specs.Printed.{more_text}
use Rattle.lx_vtree.specs.Below.{are_below}
use Rattle.lx_vtree.specs.NodeLists.{expr_tree}
use Rattle.lx_vtree.specs.Trees.{plants}
use Rattle.lx_vprint.proofs.exprs.+put.Given as goal

abbrev pub decreases-put_expr : goal.decreases-put_expr
decreases-put_expr l = 2 * l.id.place + 1

abbrev pub decreases-put_more : goal.decreases-put_more
decreases-put_more l = 2 * l.bound

abbrev pub invariant-put_more-loop-id : goal.invariant-put_more-loop-id
invariant-put_more-loop-id l = (l.out ++ more_text (plants (expr_tree l.nodes) (drop l.id-index l.ids)) ≡ l.initial.out ++ more_text (plants (expr_tree l.nodes) l.ids)) × IsTrue (are_below (drop l.id-index l.ids) l.bound)
