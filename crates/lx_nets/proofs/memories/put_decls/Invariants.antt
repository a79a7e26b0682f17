use Rattle.std.proofs.Common.{◌≡◌, ◌++◌, map, take}
use Rattle.lx_vtree.specs.Modules.{decl_of}
use Rattle.lx_emission.specs.Emission.{places_from}
use Rattle.lx_nets.specs.Memories.{memory_decl_in}
use Rattle.lx_nets.proofs.memories.put_decls.Given as goal

abbrev pub invariant-loop-k : goal.invariant-loop-k
invariant-loop-k l = map decl_of l.decls ≡ map decl_of l.initial.decls ++ map (memory_decl_in l.sheet) (take l.k (places_from 0 l.sheet.design.memories))
