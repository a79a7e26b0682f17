use Rattle.std.proofs.Common.{◌≡◌, map}
use Rattle.std.specs.List.{range_with_len}
use Rattle.lx_vtree.specs.Modules.{set_of}
use Rattle.lx_fhdl.specs.Designs.{memory_of}
use Rattle.lx_emission.specs.Memories.{set_line}
use Rattle.lx_sheet.specs.Plans.{memory_in}
use Rattle.lx_nets.proofs.memories.first_words.Given as goal

abbrev pub invariant-loop-place : goal.invariant-loop-place
invariant-loop-place l = map set_of l.words ≡ map (set_line (memory_in l.x.sheet.now l.x.place) (memory_of l.memory)) (range_with_len 0 l.place)
