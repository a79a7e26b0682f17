use Rattle.std.proofs.Common.{◌<◌, ◌≤◌, length, [], map, ◌∙◌, ap, arith}
use Rattle.lx_vtree.specs.Modules.{sets_of}
use Rattle.lx_nets.specs.Memories.{first_words_in}
use Rattle.lx_sheet.proofs.Lines.{line_more, lines_end, lines_next}
use Rattle.lx_nets.proofs.memories.inits.Goals as goal

pub loop-k-preserved : goal.loop-k-preserved
loop-k-preserved c =
    let within : c.loop-k.k < length c.args.sheet.now.design.memories = rw (← c.sheet.view_is) (omega arith) in
    lines_next (first_words_in c.args.sheet.now) _ _ [] _ _ within c.loop-k.invariant (ap (map sets_of) c.in_ok-push.ensures.ok ∙ line_more sets_of _ _ _ (rw (c.new.ensures.sheet, c.new.ensures.place) at c.in_ok-first_words.ensures))

pub returns : goal.returns
returns c =
    let past : length c.args.sheet.now.design.memories ≤ c.loop-k.k = rw (← c.sheet.view_is) (omega arith) in
    lines_end (first_words_in c.args.sheet.now) _ _ [] _ past c.loop-k.invariant
