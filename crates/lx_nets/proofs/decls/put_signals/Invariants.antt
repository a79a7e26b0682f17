use Rattle.std.proofs.Common.{◌≡◌, ◌++◌, map}
use Rattle.lx_vtree.specs.Modules.{decl_of}
use Rattle.lx_emission.specs.Emission.{inner_decl}
use Rattle.lx_sheet.proofs.Lines.{pieces}
use Rattle.lx_nets.proofs.decls.put_signals.Given as goal

abbrev pub invariant-loop-x : goal.invariant-loop-x
invariant-loop-x l = map decl_of l.decls ≡ map decl_of l.initial.decls ++ pieces (inner_decl l.sheet.design l.sheet.names) l.sheet.design.signals l.x
