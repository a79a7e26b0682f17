use Rattle.std.proofs.Common.{◌∙◌, sym, arith}
use Rattle.lx_trace.proofs.Words.{two_words}
use Rattle.lx_trace.proofs.reading.by_arguments.Goals as goal

pub returns-then-is-2 : goal.returns-then-is-2
returns-then-is-2 c = λ steps.
    rw (two_words c.args.word.now c.args.words.now c.name-item-then-words-lt3.result c.written-item.result _ _ (omega (arith, c.in-len2.len_at_least, c.in-len2.len_below)) c.name-item-then-words-lt3.is c.written-item.is (sym c.is-in-len2.ensures ∙ c.if-is-2.true))
    (rw (c.as_bytes-then-is-2.ensures, c.as_bytes-then-is-2-2.ensures) at (c.set_number.ensures steps))
