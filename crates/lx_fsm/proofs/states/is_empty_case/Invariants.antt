use Rattle.std.proofs.Common.{◌≡◌, ℕ, drop}
use Rattle.lx_circuit.specs.Statements as tree
use Rattle.lx_fsm.proofs.Lowered.{case_test}
use Rattle.lx_fsm.proofs.states.is_empty_case.Given as goal

abbrev pub invariant-loop-arm : goal.invariant-loop-arm
invariant-loop-arm l = (s : ℕ → tree.Stmt) → case_test s (drop l.arm-index l.arms) l.rest ≡ case_test s l.arms l.rest
