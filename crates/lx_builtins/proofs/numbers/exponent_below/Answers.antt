use Rattle.std.proofs.Common.{◌≡◌, ◌∙◌, sym, ap, ◌+◌, ◌-◌, arith}
use Rattle.lx_builtins.specs.Numbers.{exponent_below}
use Rattle.lx_builtins.proofs.Exponents.{found_at, passed_by}
use Rattle.lx_builtins.proofs.numbers.exponent_below.Goals as goal

pub returns-then-is_power : goal.returns-then-is_power
returns-then-is_power c =
    let next : c.args.count - c.loop-passed.passed ≡ c.args.count - 1 - c.loop-passed.passed + 1 = omega (arith, c.loop-passed-test.true) in
    sym (found_at _ _ _ next (sym c.is_power.ensures ∙ c.if-is_power.true)) ∙ c.loop-passed.invariant

pub loop-passed-preserved : goal.loop-passed-preserved
loop-passed-preserved c =
    let next : c.args.count - c.loop-passed.passed ≡ c.args.count - 1 - c.loop-passed.passed + 1 = omega (arith, c.loop-passed-test.true) in
    let same : c.args.count - (c.loop-passed.passed + 1) ≡ c.args.count - 1 - c.loop-passed.passed = omega (arith, c.loop-passed-test.true) in
    ap (exponent_below c.args.number) same ∙ sym (passed_by _ _ _ next (sym c.is_power.ensures ∙ c.if-is_power.false)) ∙ c.loop-passed.invariant
