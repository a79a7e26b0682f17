use Rattle.std.proofs.Common.{◌≡◌, ◌++◌, drop, map}
use Rattle.lx_fragments.specs.States.{body_of}
use Rattle.lx_fragments.proofs.states.bodies.Given as goal

abbrev pub invariant-loop-number : goal.invariant-loop-number
invariant-loop-number l = l.list ++ map (body_of l.fsm) (drop l.number l.fsm.names) ≡ map (body_of l.fsm) l.fsm.names
