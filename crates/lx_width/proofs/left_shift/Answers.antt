use Rattle.std.proofs.Common.{◌∙◌, ◌+◌, ◌-◌, ◌^◌, ℕ, Option, ap, sym}
use Rattle.lx_num.specs.Ints.{shape}
use Rattle.lx_circuit.specs.declared.WidthFault.{WidthFault}
use Rattle.lx_circuit.specs.Shapes.{too_wide}
use Rattle.lx_width.specs.Width.{shaped}
use Rattle.lx_width.proofs.Widths.{cut_off, unsigned_amount}
use Rattle.lx_width.proofs.left_shift.Goals as goal

pub returns : goal.returns
returns c =
    c.checked.ensures
    ∙ ap (λ (k : ℕ). shaped (too_wide k) (shape k c.args.a.signed)) c.shifted.ensures
    ∙ cut_off (c.args.a.bits + 2 ^ c.args.b.bits - 1) c.args.a.signed
    ∙ sym (ap (λ (o : Option WidthFault). shaped o (shape (c.args.a.bits + 2 ^ c.args.b.bits - 1) c.args.a.signed)) (unsigned_amount c.args.b (too_wide (c.args.a.bits + 2 ^ c.args.b.bits - 1)) c.if-b.false))
