use Rattle.std.proofs.Common.{◌≡◌, ◌++◌, map}
use Rattle.lx_vtree.specs.Modules.{decl_of}
use Rattle.lx_emission.specs.Emission.{node_decl}
use Rattle.lx_sheet.proofs.Lines.{pieces}
use Rattle.lx_nets.proofs.decls.put_nodes.Given as goal

abbrev pub invariant-loop-place : goal.invariant-loop-place
invariant-loop-place l = map decl_of l.decls ≡ map decl_of l.initial.decls ++ pieces (node_decl l.sheet.design l.sheet.names) l.sheet.design.exprs l.place
