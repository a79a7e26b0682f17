use Rattle.std.proofs.Common.{◌≡◌, drop}
use Rattle.lx_builtins.specs.Domains.{each_looked_at}
use Rattle.lx_builtins.proofs.domains.each_looked_at.Given as goal

abbrev pub invariant-loop-place : goal.invariant-loop-place
invariant-loop-place l = each_looked_at l.line l.names l.place (drop l.place l.values) l.machine ≡ each_looked_at l.line l.names 0 l.values l.machine
