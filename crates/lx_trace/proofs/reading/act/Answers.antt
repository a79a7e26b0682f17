use Rattle.std.proofs.Common.{◌∙◌, sym, subst}
use Rattle.std.specs.Prelude.{Option, Err}
use Rattle.lx_trace.specs.Lines.{Saying}
use Rattle.lx_trace.specs.Reading.{Comes}
use Rattle.lx_trace.specs.Traces.{act_of}
use Rattle.lx_trace.proofs.Words.{not_plain, plain_saying, refused_comes}
use Rattle.lx_trace.proofs.reading.act.Goals as goal

pub returns-then-not-is_plain : goal.returns-then-not-is_plain
returns-then-not-is_plain c =
    subst (λ (o : Option Saying). Comes c.args.line (act_of c.args.directory.now.design c.args.directory.now.names c.args.steps o) (Err c.fault.result)) (sym (not_plain c.args.bytes.now (sym c.is_plain.ensures ∙ c.if-not-is_plain.true)))
    (refused_comes _ _ _ c.fault.ensures)

pub returns : goal.returns
returns c =
    subst (λ (o : Option Saying). Comes c.args.line (act_of c.args.directory.now.design c.args.directory.now.names c.args.steps o) c.by_words.result) (sym (plain_saying c.args.bytes.now (sym c.is_plain.ensures ∙ c.if-not-is_plain.false)))
    (rw (c.as_slice.ensures, c.in_ok-words.ensures) at c.by_words.ensures)
