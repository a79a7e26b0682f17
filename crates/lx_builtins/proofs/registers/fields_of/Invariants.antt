use Rattle.std.proofs.Common.{◌≡◌, ◌++◌, drop}
use Rattle.lx_state.specs.Step.{go_on, give}
use Rattle.lx_builtins.specs.Registers.{fields_of}
use Rattle.lx_builtins.proofs.registers.fields_of.Given as goal

abbrev pub invariant-loop-value : goal.invariant-loop-value
invariant-loop-value l = go_on (fields_of l.line (drop l.value-index l.values) l.machine) (λ fs. give (l.fields ++ fs)) ≡ fields_of l.line l.values l.machine
