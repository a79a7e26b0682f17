use Rattle.std.proofs.Common.{◌≡◌, drop}
use Rattle.lx_builtins.specs.Registers.{arguments_looked_at}
use Rattle.lx_builtins.proofs.registers.arguments_looked_at.Given as goal

abbrev pub invariant-loop-place : goal.invariant-loop-place
invariant-loop-place l = arguments_looked_at l.line l.of l.names l.place (drop l.place l.values) l.machine ≡ arguments_looked_at l.line l.of l.names 0 l.values l.machine
