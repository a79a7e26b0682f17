use Rattle.std.proofs.Common.{arith, refl}
use Rattle.std.proofs.lemmas.Option.{slice_get-get_or}
use Rattle.lx_sim.proofs.Telling.{all_told, line_named, line_stands, none_told, one_told}
use Rattle.lx_sim.proofs.tell.run_trace.Goals as goal

pub loop-line-init : goal.loop-line-init
loop-line-init g c = none_told _ _ _ _ c.new.ensures refl c.requires.lines c.requires.named

pub tell_line-requires-clause-line : goal.tell_line-requires-clause-line
tell_line-requires-clause-line g c = line_stands _ _ _ _ _ _ _ (slice_get-get_or _ _ _ c.loop-line-test.true) c.loop-line.invariant

pub tell_line-requires-clause-named : goal.tell_line-requires-clause-named
tell_line-requires-clause-named g c = line_named _ _ _ _ _ _ _ (slice_get-get_or _ _ _ c.loop-line-test.true) c.loop-line.invariant

pub loop-line-preserved : goal.loop-line-preserved
loop-line-preserved g c =
    let found = slice_get-get_or _ _ _ c.loop-line-test.true in
    one_told _ _ _ _ _ _ _ _ _ found c.loop-line.invariant c.tell_line.ensures.design c.tell_line.ensures.count (omega (arith, c.tell_line.ensures.count, c.tell_line.ensures.few)) c.in_ok-tell_line.ensures.tells

pub returns : goal.returns
returns g c = λ m s e. all_told _ _ _ _ _ _ c.loop-line-test.false c.loop-line.invariant m s e
