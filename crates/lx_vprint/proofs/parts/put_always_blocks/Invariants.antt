use Rattle.std.proofs.Common.{◌≡◌, ◌++◌, drop, map, flat_map, length, IsTrue}
use Rattle.std.specs.List.{list_all}
use Rattle.lx_vtext.specs.Printed.{always_text}
use Rattle.lx_vtree.specs.NodeLists.{stmt_tree}
use Rattle.lx_vtree.specs.Stmts.{are_stmts_below}
use Rattle.lx_vtree.specs.Modules.{always_of}
use Rattle.lx_vprint.proofs.parts.put_always_blocks.Given as goal

abbrev pub invariant-loop-block : goal.invariant-loop-block
invariant-loop-block l = (l.out ++ flat_map always_text (map (always_of (stmt_tree l.nodes)) (drop l.block-index l.always)) ≡ l.initial.out ++ flat_map always_text (map (always_of (stmt_tree l.nodes)) l.always)) × IsTrue (list_all (λ a. are_stmts_below a.body (length l.nodes.stmts)) (drop l.block-index l.always))
