use Rattle.std.proofs.Common.{drop}
use Rattle.lx_fsm.proofs.Lowered.{states_drive, states_of}
use Rattle.lx_fsm.proofs.Puts.{PutSome}
use Rattle.lx_fsm.proofs.states.put_states.Given as goal

abbrev pub invariant-loop-number : goal.invariant-loop-number
invariant-loop-number l =
    PutSome l.initial.draft l.draft l.initial.out l.out (states_of l.source l.part l.initial.draft 0 l.states) (states_of l.source l.part l.initial.draft l.number (drop l.number l.states))
    (states_drive l.source l.part l.initial.draft l.states) (states_drive l.source l.part l.initial.draft (drop l.number l.states))
