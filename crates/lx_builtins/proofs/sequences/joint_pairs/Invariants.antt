use Rattle.std.proofs.Common.{◌≡◌, ◌++◌, drop}
use Rattle.lx_state.specs.Step.{go_on, give}
use Rattle.lx_builtins.specs.Sequences.{joint_pairs}
use Rattle.lx_builtins.proofs.sequences.joint_pairs.Given as goal

abbrev pub invariant-loop-place : goal.invariant-loop-place
invariant-loop-place l = go_on (joint_pairs l.line (drop l.place l.first) (drop l.place l.second) l.machine) (λ pairs. give (l.pairs ++ pairs)) ≡ joint_pairs l.line l.first l.second l.initial.machine
