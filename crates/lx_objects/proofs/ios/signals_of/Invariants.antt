use Rattle.std.proofs.Common.{◌≡◌, ◌++◌, drop}
use Rattle.lx_state.specs.Step.{go_on, give}
use Rattle.lx_objects.specs.Ios.{signals_of}
use Rattle.lx_objects.proofs.ios.signals_of.Given as goal

abbrev pub invariant-loop-value : goal.invariant-loop-value
invariant-loop-value l = go_on (signals_of l.line (drop l.value-index l.values) l.machine) (λ xs. give (l.signals ++ xs)) ≡ signals_of l.line l.values l.machine
