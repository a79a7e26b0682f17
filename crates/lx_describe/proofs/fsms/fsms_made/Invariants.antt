use Rattle.std.proofs.Common.{◌≡◌, ◌++◌, drop}
use Rattle.lx_state.specs.Step.{go_on, give}
use Rattle.lx_describe.specs.Fsms.{fsms_made}
use Rattle.lx_describe.proofs.fsms.fsms_made.Given as goal

abbrev pub invariant-loop-number : goal.invariant-loop-number
invariant-loop-number l = go_on (fsms_made l.number (drop l.number l.places) l.machine) (λ xs. give (l.decls ++ xs)) ≡ fsms_made 0 l.places l.initial.machine
