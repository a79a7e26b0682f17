-- The declarations and first words of a plan's memories.
use Rattle.std.specs.Prelude.{ℕ, false, List, map}
use Rattle.lx_circuit.specs.Memories.{Memory}
use Rattle.lx_circuit.specs.Circuit.{first_word}
use Rattle.lx_vtext.specs.Tree.{VDecl, MemoryDecl, VLiteral, VSet}
use Rattle.lx_fhdl.specs.Designs.{memory_at}
use Rattle.lx_emission.specs.Emission.{places_from}
use Rattle.lx_emission.specs.Memories.{memory_decl, first_words}
use Rattle.lx_sheet.specs.Plans.{Plan, memory_in}

abbrev pub memory_decl_in : Plan → ℕ → VDecl
memory_decl_in p k = MemoryDecl (memory_decl (memory_in p k) (memory_at p.design k))

-- the literal of word k
abbrev pub word_literal : Memory → ℕ → VLiteral
word_literal x k = record { bits = x.width; signed = false; value = first_word x k }

abbrev pub first_words_in : Plan → ℕ → List VSet
first_words_in p k = first_words (memory_in p k) (memory_at p.design k)

abbrev pub inits_in : Plan → List (List VSet)
inits_in p = map (first_words_in p) (places_from 0 p.design.memories)
