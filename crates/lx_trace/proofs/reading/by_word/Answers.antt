use Rattle.std.proofs.Common.{◌∙◌, sym}
use Rattle.lx_trace.proofs.Words.{other_word}
use Rattle.lx_trace.proofs.reading.by_word.Goals as goal

pub returns-else-is-2 : goal.returns-else-is-2
returns-else-is-2 c = rw (other_word c.args.word.now c.args.words.now (sym c.is.ensures ∙ c.if-is.false) (sym c.is-else-is.ensures ∙ c.if-is-2.false)) (c.by_arguments.ensures c.args.steps)
