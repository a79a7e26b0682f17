use Rattle.std.proofs.Common.{◌≡◌, true, false, ap, subst}
use Rattle.std.specs.Prelude.{IsTrue}
use Rattle.lx_alloc.specs.Judged.{first}
use Rattle.lx_fsm.proofs.Naming.{faults_are, judged_is, no_states, some_of}
use Rattle.lx_fsm.proofs.checks.check_fsm.Goals as goal

pub returns-then-is_empty : goal.returns-then-is_empty
returns-then-is_empty c = λ d. rw c.refusal.ensures (ap first (no_states d c.args.fsm.now c.args.stmts.now (c.is_empty.ensures.0 (search c.if-is_empty.true))))

pub returns : goal.returns
returns c = λ d.
    judged_is _ _ _ (faults_are d c.args.fsm.now c.args.stmts.now (some_of c.args.fsm.now.states (λ e. let h : false ≡ true = subst IsTrue c.if-is_empty.false (c.is_empty.ensures.1 e) in absurd (cc)))) (c.check_names.ensures d)
