use Rattle.std.proofs.Common.{◌≡◌, drop}
use Rattle.lx_builtins.specs.Systems.{placed_looked_at}
use Rattle.lx_builtins.proofs.systems.placed_looked_at.Given as goal

abbrev pub invariant-loop-place : goal.invariant-loop-place
invariant-loop-place l = placed_looked_at l.line l.of l.params l.place (drop l.place l.values) l.machine ≡ placed_looked_at l.line l.of l.params 0 l.values l.machine
