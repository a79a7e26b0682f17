use Rattle.std.proofs.Common.{◌≡◌, drop}
use Rattle.lx_builtins.specs.Systems.{named_looked_at}
use Rattle.lx_builtins.proofs.systems.named_looked_at.Given as goal

abbrev pub invariant-loop-place : goal.invariant-loop-place
invariant-loop-place l = named_looked_at l.line l.of l.names l.place (drop l.place l.values) l.machine ≡ named_looked_at l.line l.of l.names 0 l.values l.machine
