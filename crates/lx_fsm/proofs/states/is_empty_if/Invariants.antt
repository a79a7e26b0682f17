use Rattle.std.proofs.Common.{◌≡◌, ℕ, drop}
use Rattle.lx_circuit.specs.Terms.{Term}
use Rattle.lx_circuit.specs.Statements as tree
use Rattle.lx_fsm.proofs.Lowered.{if_test}
use Rattle.lx_fsm.proofs.states.is_empty_if.Given as goal

abbrev pub invariant-loop-branch : goal.invariant-loop-branch
invariant-loop-branch l = (t : ℕ → Term) (s : ℕ → tree.Stmt) → if_test t s (drop l.branch-index l.branches) l.rest ≡ if_test t s l.branches l.rest
