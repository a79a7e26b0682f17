use Rattle.std.proofs.Common.{◌≡◌, ◌++◌, drop}
use Rattle.lx_builtins.specs.Registers.{names_of}
use Rattle.lx_builtins.proofs.registers.names_of.Given as goal

abbrev pub invariant-loop-param : goal.invariant-loop-param
invariant-loop-param l = (l.names ++ names_of (drop l.param-index l.params)) ≡ names_of l.params
