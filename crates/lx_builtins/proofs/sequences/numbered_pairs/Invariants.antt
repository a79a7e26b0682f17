use Rattle.std.proofs.Common.{◌≡◌, ◌++◌, drop}
use Rattle.lx_state.specs.Step.{go_on, give}
use Rattle.lx_builtins.specs.Sequences.{numbered_pairs}
use Rattle.lx_builtins.proofs.sequences.numbered_pairs.Given as goal

abbrev pub invariant-loop-place : goal.invariant-loop-place
invariant-loop-place l = go_on (numbered_pairs l.line l.place (drop l.place l.items) l.machine) (λ pairs. give (l.pairs ++ pairs)) ≡ numbered_pairs l.line 0 l.items l.initial.machine
