use Rattle.std.proofs.Common.{◌≡◌, drop, map}
use Rattle.lx_syntax.specs.Forms.{class_of}
use Rattle.lx_run.specs.Classes.{classes_run}
use Rattle.lx_run.specs.Meant.{makes}
use Rattle.lx_run.proofs.classes.classes_run.Given as goal

abbrev pub invariant-loop-place : goal.invariant-loop-place
invariant-loop-place l = classes_run (makes l.syntax l.depth.classes) (map (class_of l.syntax) (drop l.place l.syntax.classes)) l.machine ≡ classes_run (makes l.syntax l.depth.classes) (map (class_of l.syntax) l.syntax.classes) l.initial.machine
