use Rattle.std.proofs.Common.{◌∙◌, sym, arith}
use Rattle.lx_parts_kept.proofs.Free.{free_done, free_stopped}
use Rattle.lx_parts_kept.proofs.places.mark_all.Goals as goal

pub returns-then-not-mark : goal.returns-then-not-mark
returns-then-not-mark c =
    free_stopped c.args.marks.now c.loop-number.marks c.args.numbers.now c.loop-number.number-index c.requires.none c.loop-number-test.true (sym c.if-not-mark.true ∙ c.mark.ensures.marked) c.loop-number.invariant

pub returns : goal.returns
returns c = free_done c.args.marks.now c.loop-number.marks c.args.numbers.now c.loop-number.number-index c.requires.none (omega arith) c.loop-number.invariant
