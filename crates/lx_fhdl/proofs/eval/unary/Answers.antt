use Rattle.std.proofs.Common.{◌∙◌, sym, ap, subst}
use Rattle.std.specs.Prelude.{ℤ, pos, ◌-ℤ◌, FitsSigned}
use Rattle.std.specs.Int.{w128}
use Rattle.lx_tables.specs.declared.operators.Op.{Op}
use Rattle.lx_circuit.specs.Values.{unary_value}
use Rattle.lx_fhdl.proofs.Machine.{unary_machine, negated, passed_is, passed_fits}
use Rattle.lx_fhdl.proofs.eval.unary.Goals as goal

fits : (c : goal.In-Neg) → FitsSigned w128 (pos 0 -ℤ c.args.x)
fits c =
    let P : Op → Type 0 = λ o. FitsSigned w128 (unary_value o c.args.a c.args.x) in
    let h = subst P c.in-Neg.is (unary_machine c.args.op c.args.a c.args.x c.requires.small c.requires.sound c.requires.fits) in
    subst (λ (z : ℤ). FitsSigned w128 z) (sym (negated c.args.x)) h

pub overflow_sub-result : goal.overflow_sub-result
overflow_sub-result c = passed_fits (λ (x y : ℤ). pos 0 -ℤ y) c.args.x c.args.x c.ranges.x c.ranges.x (fits c)

pub returns-in-Neg : goal.returns-in-Neg
returns-in-Neg c =
    passed_is (λ (x y : ℤ). pos 0 -ℤ y) c.args.x c.args.x c.ranges.x c.ranges.x (fits c)
    ∙ negated c.args.x
    ∙ ap (λ (o : Op). unary_value o c.args.a c.args.x) (sym c.in-Neg.is)
