use Rattle.std.proofs.Common.{◌≡◌, map, ap, ◌∙◌, refl, arith}
use Rattle.lx_vtree.specs.Modules.{set_of}
use Rattle.lx_fhdl.specs.Designs.{memory_of}
use Rattle.lx_sheet.specs.Plans.{memory_in}
use Rattle.lx_nets.proofs.Remembered.{words_are, words_more}
use Rattle.lx_nets.proofs.memories.first_words.Goals as goal

pub loop-place-preserved : goal.loop-place-preserved
loop-place-preserved c =
    ap (map set_of) c.in_ok-push.ensures.ok
    ∙ words_more (memory_in c.args.x.sheet.now c.args.x.place) (memory_of c.memory-memory.result.now) _ _ c.loop-place.place c.loop-place.invariant c.in_ok-name.ensures refl c.first_word.ensures

pub returns : goal.returns
returns c =
    let all : c.loop-place.place ≡ c.memory-memory.result.now.depth = omega arith in
    words_are c.args.x.sheet.now c.args.x.place c.loop-place.place _ _ c.memory-memory.ensures.item all c.loop-place.invariant
