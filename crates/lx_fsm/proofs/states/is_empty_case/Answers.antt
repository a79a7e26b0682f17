use Rattle.std.proofs.Common.{◌≡◌, true, false, [], refl, sym, subst, ◌∙◌, arith}
use Rattle.std.specs.Prelude.{IsTrue}
use Rattle.lx_fsm.proofs.Lowered.{case_end, case_found, case_next}
use Rattle.lx_fsm.proofs.states.is_empty_case.Goals as goal

pub loop-arm-init : goal.loop-arm-init
loop-arm-init c = λ s. refl

pub returns-then-not-is_empty : goal.returns-then-not-is_empty
returns-then-not-is_empty c = λ s.
    let n : c.arm-item.result.body ≡ [] → ⊥ = λ e. let h : false ≡ true = subst IsTrue c.if-not-is_empty.true (c.is_empty.ensures.1 e) in absurd (cc) in
    sym (case_found s c.args.arms.now c.args.rest.now c.loop-arm.arm-index c.arm-item.result (omega arith) c.arm-item.is n) ∙ c.loop-arm.invariant s

pub loop-arm-preserved : goal.loop-arm-preserved
loop-arm-preserved c = λ s.
    sym (case_next s c.args.arms.now c.args.rest.now c.loop-arm.arm-index c.arm-item.result (omega arith) c.arm-item.is (c.is_empty.ensures.0 (search c.if-not-is_empty.false))) ∙ c.loop-arm.invariant s

pub returns : goal.returns
returns c = λ s. c.is_empty-none.ensures ∙ case_end s c.args.arms.now c.args.rest.now c.loop-arm.arm-index (omega arith) ∙ c.loop-arm.invariant s
