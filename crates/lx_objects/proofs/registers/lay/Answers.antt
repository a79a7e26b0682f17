use Rattle.std.proofs.Common.{◌++◌, ap, sym, arith}
use Rattle.std.specs.Prelude.{List}
use Rattle.lx_description.specs.declared.registers.Field.{Field}
use Rattle.lx_objects.specs.Registers.{laid, laid_at}
use Rattle.lx_objects.proofs.Laid.{end_next, lay_on, lay_past, none_laid}
use Rattle.lx_objects.proofs.registers.lay.Goals as goal

pub loop-field-init : goal.loop-field-init
loop-field-init c = (ap (λ (xs : List Field). xs ++ laid 0 c.args.fields.now) c.new-done.ensures, (none_laid c.new-done.result c.new-done.ensures, omega arith))

pub returns-then-low-field-gt64 : goal.returns-then-low-field-gt64
returns-then-low-field-gt64 c =
    sym (lay_past c.loop-field.done (laid 0 c.args.fields.now) c.loop-field.end c.args.fields.now c.loop-field.field-index c.field-item.result c.lowest-low.result
    c.loop-field-test.true c.field-item.is c.lowest-low.ensures c.loop-field.invariant.0 c.if-low-field-gt64.true)

pub loop-field-preserved : goal.loop-field-preserved
loop-field-preserved c = (
  lay_on c.loop-field.done c.push_laid.new.into (laid 0 c.args.fields.now) c.loop-field.end c.args.fields.now c.loop-field.field-index c.field-item.result c.lowest-low.result
      c.loop-field-test.true c.field-item.is c.lowest-low.ensures c.loop-field.invariant.0 c.in_ok-push_laid.ensures,
  (
    end_next c.loop-field.done c.push_laid.new.into (laid_at c.lowest-low.result c.field-item.result) c.in_ok-push_laid.ensures c.loop-field.invariant.1.0 (omega (arith, c.if-low-field-gt64.false)),
    omega (arith, c.if-low-field-gt64.false),
  ),
)
