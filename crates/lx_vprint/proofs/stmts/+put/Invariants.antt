use Rattle.std.proofs.Common.{◌≡◌, ◌++◌, IsTrue, ◌+◌, ◌*◌, drop}
use Rattle.lx_vtext.specs.Printed.{block_text}
use Rattle.lx_vtree.specs.NodeLists.{stmt_tree}
use Rattle.lx_vtree.specs.Stmts.{plant_block, are_stmts_below}
use Rattle.lx_vprint.proofs.stmts.+put.Given as goal

abbrev pub decreases-put_stmt : goal.decreases-put_stmt
decreases-put_stmt l = 4 * l.id.place + 3

abbrev pub decreases-put_block : goal.decreases-put_block
decreases-put_block l = 4 * l.bound + 1

abbrev pub decreases-put_else : goal.decreases-put_else
decreases-put_else l = 4 * l.bound + 2

abbrev pub invariant-put_block-loop-id : goal.invariant-put_block-loop-id
invariant-put_block-loop-id l = (l.out ++ block_text l.levels (plant_block (stmt_tree l.nodes) (drop l.id-index l.ids)) ≡ l.initial.out ++ block_text l.levels (plant_block (stmt_tree l.nodes) l.ids)) × IsTrue (are_stmts_below (drop l.id-index l.ids) l.bound)
