use Rattle.std.proofs.Common.{ap, arith}
use Rattle.lx_fhdl.proofs.Designs.{signal_most}
use Rattle.lx_sheet.proofs.Shaped.{signal_shape_is}
use Rattle.lx_sheet.proofs.signals.SignalOf.shape.Goals as goal

pub returns-clause-is : goal.returns-clause-is
returns-clause-is c = rw (← c.sheet.view_is) (signal_shape_is _ _ _ c.at.ensures)

pub returns-clause-narrow : goal.returns-clause-narrow
returns-clause-narrow c =
    let most = signal_most c.sheet.inside.design.now c.sheet.invariant.fit.keeps c.args.self.id.0 in
    omega (arith, most, ap (λ a. a.bits) (signal_shape_is c.sheet.inside.design.now _ _ c.at.ensures))
