use Rattle.std.proofs.Common.{◌≡◌, ◌++◌, drop}
use Rattle.lx_state.specs.Step.{go_on, give}
use Rattle.lx_ops.specs.Exprs.{exprs_of}
use Rattle.lx_ops.proofs.exprs.exprs_of.Given as goal

abbrev pub invariant-loop-value : goal.invariant-loop-value
invariant-loop-value l = go_on (exprs_of l.line (drop l.value-index l.values) l.machine) (λ ids. give (l.ids ++ ids)) ≡ exprs_of l.line l.values l.initial.machine
