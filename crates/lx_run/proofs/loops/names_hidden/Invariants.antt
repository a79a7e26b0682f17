use Rattle.std.proofs.Common.{◌≡◌, ◌++◌, drop}
use Rattle.lx_state.specs.Step.{give, go_on}
use Rattle.lx_run.specs.Loops.{names_hidden}
use Rattle.lx_run.specs.Meant.{texts}
use Rattle.lx_run.proofs.loops.names_hidden.Given as goal

abbrev pub invariant-loop-name : goal.invariant-loop-name
invariant-loop-name l = go_on (names_hidden (texts l.syntax (drop l.name-index l.names)) l.machine) (λ hidden. give (l.hidden ++ hidden)) ≡ names_hidden (texts l.syntax l.names) l.initial.machine
