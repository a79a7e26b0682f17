use Rattle.std.proofs.Common.{sym, ◌∙◌, arith}
use Rattle.lx_fsm.proofs.Naming.{number_end, number_here, number_on}
use Rattle.lx_fsm.proofs.checks.number_of.Goals as goal

pub returns-then-is-clause-is : goal.returns-then-is-clause-is
returns-then-is-clause-is c =
    sym (c.loop-number.invariant ∙ number_here c.args.states.now c.loop-number.number c.index-states-number.result c.args.name.now (omega arith) c.index-states-number.is (sym c.is.ensures ∙ c.if-is.true))

pub loop-number-preserved : goal.loop-number-preserved
loop-number-preserved c =
    c.loop-number.invariant ∙ number_on c.args.states.now c.loop-number.number c.index-states-number.result c.args.name.now (omega arith) c.index-states-number.is (sym c.is.ensures ∙ c.if-is.false)

pub returns-clause-is : goal.returns-clause-is
returns-clause-is c = sym (c.loop-number.invariant ∙ number_end c.args.states.now c.loop-number.number c.args.name.now (omega arith))
