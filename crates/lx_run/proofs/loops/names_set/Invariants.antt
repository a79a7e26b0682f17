use Rattle.std.proofs.Common.{◌≡◌, drop}
use Rattle.lx_run.specs.Loops.{names_set}
use Rattle.lx_run.specs.Meant.{texts}
use Rattle.lx_run.proofs.loops.names_set.Given as goal

abbrev pub invariant-loop-place : goal.invariant-loop-place
invariant-loop-place l = names_set l.line (texts l.syntax (drop l.place l.names)) (drop l.place l.values) l.machine ≡ names_set l.line (texts l.syntax l.names) l.values l.initial.machine
