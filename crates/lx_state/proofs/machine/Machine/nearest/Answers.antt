use Rattle.std.proofs.Common.{◌≡◌, ◌∙◌, sym, ap, ℕ, ◌+◌, ◌-◌, arith}
use Rattle.lx_state.specs.Frames.{nearest}
use Rattle.lx_state.proofs.Nearest.{found_at, passed_by}
use Rattle.lx_state.proofs.machine.Machine.nearest.Goals as goal

pub returns-then-is_class : goal.returns-then-is_class
returns-then-is_class c =
    let next : c.args.count - c.loop-passed.passed ≡ c.args.count - 1 - c.loop-passed.passed + 1 = omega (arith, c.loop-passed-test.true) in
    sym (found_at _ _ _ _ next (sym c.is_class.ensures ∙ c.if-is_class.true)) ∙ c.loop-passed.invariant

pub loop-passed-preserved : goal.loop-passed-preserved
loop-passed-preserved c =
    let next : c.args.count - c.loop-passed.passed ≡ c.args.count - 1 - c.loop-passed.passed + 1 = omega (arith, c.loop-passed-test.true) in
    let same : c.args.count - (c.loop-passed.passed + 1) ≡ c.args.count - 1 - c.loop-passed.passed = omega (arith, c.loop-passed-test.true) in
    ap (nearest c.args.self.now.classes c.args.name.now) same ∙ sym (passed_by _ _ _ _ next (sym c.is_class.ensures ∙ c.if-is_class.false)) ∙ c.loop-passed.invariant
