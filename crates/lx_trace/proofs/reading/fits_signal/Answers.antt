use Rattle.std.proofs.Common.{subst}
use Rattle.std.specs.Prelude.{ℤ}
use Rattle.std.specs.Int.{w128}
use Rattle.std.proofs.lemmas.Int.{to_z-of_z}
use Rattle.lx_num.specs.Ints.{Fits}
use Rattle.lx_trace.proofs.Clips.{clip_fits}
use Rattle.lx_trace.proofs.reading.fits_signal.Goals as goal

pub returns-then-fits : goal.returns-then-fits
returns-then-fits c = λ z e.
    rw (← c.shape.ensures.is)
    (clip_fits c.shape.result c.args.value z e c.shape.ensures.some c.shape.ensures.most (subst (λ (y : ℤ). Fits c.shape.result y) (to_z-of_z w128 c.args.value c.ranges.value) (c.fits.ensures.0 c.if-fits.true)))
