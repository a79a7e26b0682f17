use Rattle.std.proofs.Common.{◌≡◌, ◌++◌, drop, map, flat_map, length, nat_lt, IsTrue}
use Rattle.std.specs.List.{list_all}
use Rattle.lx_vtext.specs.Printed.{assign_text}
use Rattle.lx_vtree.specs.NodeLists.{expr_tree}
use Rattle.lx_vtree.specs.Modules.{assign_of}
use Rattle.lx_vprint.proofs.parts.put_assigns.Given as goal

abbrev pub invariant-loop-assign : goal.invariant-loop-assign
invariant-loop-assign l = (l.out ++ flat_map assign_text (map (assign_of (expr_tree l.nodes)) (drop l.assign-index l.assigns)) ≡ l.initial.out ++ flat_map assign_text (map (assign_of (expr_tree l.nodes)) l.assigns)) × IsTrue (list_all (λ a. nat_lt a.value.place (length l.nodes.exprs)) (drop l.assign-index l.assigns))
