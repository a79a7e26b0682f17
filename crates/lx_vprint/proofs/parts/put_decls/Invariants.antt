use Rattle.std.proofs.Common.{◌≡◌, ◌++◌, drop, map, flat_map}
use Rattle.lx_vtext.specs.Printed.{decl_text}
use Rattle.lx_vtree.specs.Modules.{decl_of}
use Rattle.lx_vprint.proofs.parts.put_decls.Given as goal

abbrev pub invariant-loop-decl : goal.invariant-loop-decl
invariant-loop-decl l = l.out ++ flat_map decl_text (map decl_of (drop l.decl-index l.decls)) ≡ l.initial.out ++ flat_map decl_text (map decl_of l.decls)
