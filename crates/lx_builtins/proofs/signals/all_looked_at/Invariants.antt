use Rattle.std.proofs.Common.{◌≡◌, drop}
use Rattle.lx_builtins.specs.Signals.{all_looked_at}
use Rattle.lx_builtins.proofs.signals.all_looked_at.Given as goal

abbrev pub invariant-loop-place : goal.invariant-loop-place
invariant-loop-place l = all_looked_at l.line l.is_stated l.values l.place (drop l.place l.names) l.machine ≡ all_looked_at l.line l.is_stated l.values 0 l.names l.machine
