use Rattle.std.proofs.Common.{◌≡◌, map, take}
use Rattle.lx_vtree.specs.Modules.{sets_of}
use Rattle.lx_emission.specs.Emission.{places_from}
use Rattle.lx_nets.specs.Memories.{first_words_in}
use Rattle.lx_nets.proofs.memories.inits.Given as goal

abbrev pub invariant-loop-k : goal.invariant-loop-k
invariant-loop-k l = map sets_of l.inits ≡ map (first_words_in l.sheet) (take l.k (places_from 0 l.sheet.design.memories))
