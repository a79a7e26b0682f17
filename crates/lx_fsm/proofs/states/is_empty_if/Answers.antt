use Rattle.std.proofs.Common.{◌≡◌, true, false, [], refl, sym, subst, ◌∙◌, arith}
use Rattle.std.specs.Prelude.{IsTrue}
use Rattle.lx_fsm.proofs.Lowered.{if_end, if_found, if_next}
use Rattle.lx_fsm.proofs.states.is_empty_if.Goals as goal

pub loop-branch-init : goal.loop-branch-init
loop-branch-init c = λ t s. refl

pub returns-then-not-is_empty : goal.returns-then-not-is_empty
returns-then-not-is_empty c = λ t s.
    let n : c.branch-item.result.body ≡ [] → ⊥ = λ e. let h : false ≡ true = subst IsTrue c.if-not-is_empty.true (c.is_empty.ensures.1 e) in absurd (cc) in
    sym (if_found t s c.args.branches.now c.args.rest.now c.loop-branch.branch-index c.branch-item.result (omega arith) c.branch-item.is n) ∙ c.loop-branch.invariant t s

pub loop-branch-preserved : goal.loop-branch-preserved
loop-branch-preserved c = λ t s.
    sym (if_next t s c.args.branches.now c.args.rest.now c.loop-branch.branch-index c.branch-item.result (omega arith) c.branch-item.is (c.is_empty.ensures.0 (search c.if-not-is_empty.false))) ∙ c.loop-branch.invariant t s

pub returns : goal.returns
returns c = λ t s. c.is_empty-none.ensures ∙ if_end t s c.args.branches.now c.args.rest.now c.loop-branch.branch-index (omega arith) ∙ c.loop-branch.invariant t s
