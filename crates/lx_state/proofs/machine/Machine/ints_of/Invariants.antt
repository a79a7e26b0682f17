use Rattle.std.proofs.Common.{◌≡◌, ◌++◌, drop}
use Rattle.lx_state.specs.Step.{go_on, give}
use Rattle.lx_state.specs.Lists.{ints_of}
use Rattle.lx_state.proofs.machine.Machine.ints_of.Given as goal

abbrev pub invariant-loop-value : goal.invariant-loop-value
invariant-loop-value l = go_on (ints_of l.line (drop l.value-index l.values) l.self) (λ ns. give (l.numbers ++ ns)) ≡ ints_of l.line l.values l.self
