use Rattle.lx_fsm.proofs.Numbering.{SomePut}
use Rattle.lx_fsm.proofs.numbers.push_numbers.Given as goal

abbrev pub invariant-loop-number : goal.invariant-loop-number
invariant-loop-number l = SomePut l.fn.draft l.draft l.fsm l.state l.number l.numerals l.conds
