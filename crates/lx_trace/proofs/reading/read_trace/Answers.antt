use Rattle.std.proofs.Common.{◌+◌, ◌∙◌, refl, arith}
use Rattle.std.proofs.lemmas.Result.{err_from_is_err_and}
use Rattle.lx_trace.proofs.Cuts.{lines_few}
use Rattle.lx_trace.proofs.Steps.{lines_first, lines_refused_at}
use Rattle.lx_trace.proofs.reading.read_trace.Goals as goal

pub loop-k-init : goal.loop-k-init
loop-k-init c = record { most = omega arith; same = rw (c.as_slice-lines.ensures, c.new-2.ensures) (lines_first c.args.design.now c.args.names.now c.args.text.now c.in_ok-lines.lines c.in_ok-lines.ensures) }

pub overflow_cast-k : goal.overflow_cast-k
overflow_cast-k c = record { fits = omega (arith, lines_few c.loop-k.k c.args.text.now c.in_ok-lines.lines c.in_ok-lines.ensures c.requires.size (rw (c.as_slice-lines.ensures) at c.loop-k-test.true)) }

pub overflow_add-k : goal.overflow_add-k
overflow_add-k c = record { fits = lines_few c.loop-k.k c.args.text.now c.in_ok-lines.lines c.in_ok-lines.ensures c.requires.size (rw (c.as_slice-lines.ensures) at c.loop-k-test.true) }

pub returns-in_err-read_line : goal.returns-in_err-read_line
returns-in_err-read_line c =
    let p = err_from_is_err_and c.from_residual-in_err-read_line.result c.from_residual-in_err-read_line.ensures.1 in
    rw (p.1, p.2)
    (lines_refused_at c.in_ok-directory.directory _ c.loop-k.k (c.loop-k.k + 1) c.loop-k.reading c.read_line.new.reading c.as_slice-lines.result.now c.as_bytes.result.now _ c.index-lines-k.result c.in_err-read_line.field-0.0
    c.in_ok-directory.ensures (c.as_bytes.ensures ∙ c.index-lines-k.is) c.loop-k-test.true refl c.in_err-read_line.ensures c.loop-k.invariant.same)
