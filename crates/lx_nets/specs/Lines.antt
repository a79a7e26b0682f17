-- Assigns that are added to those of a module.
use Rattle.std.specs.Prelude.{◌≡◌, List, ◌++◌, length, map, IsTrue}
use Rattle.lx_vtext.specs.Tree.{VAssign}
use Rattle.lx_vtree.specs.declared.modules.Assign.{Assign}
use Rattle.lx_vtree.specs.NodeLists.{NodeLists, expr_tree}
use Rattle.lx_vtree.specs.Modules.{assign_of, are_assigns_placed}
use Rattle.lx_vtree.specs.Growth.{GrowsExprs}

-- assigns more, whose expressions hang there
pub record PutAssigns (old new : NodeLists) (before after : List Assign) (ts : List VAssign) : Type 0 where
  pub grows : GrowsExprs old new
  pub placed : IsTrue (are_assigns_placed (length new.exprs) after)
  pub trees : map (assign_of (expr_tree new)) after ≡ map (assign_of (expr_tree old)) before ++ ts
