use Rattle.lx_running.proofs.Marks.{AreMarked}
use Rattle.lx_running.proofs.inputs.inputs.Given as goal

abbrev pub invariant-loop-x : goal.invariant-loop-x
invariant-loop-x l = AreMarked l.design l.x l.inputs
