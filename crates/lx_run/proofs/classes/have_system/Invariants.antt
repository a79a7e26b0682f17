use Rattle.std.proofs.Common.{◌≡◌, drop, map}
use Rattle.std.specs.List.{list_any}
use Rattle.lx_syntax.specs.Classes.{base_of}
use Rattle.lx_run.specs.Classes.{is_system_base}
use Rattle.lx_run.proofs.classes.have_system.Given as goal

abbrev pub invariant-loop-base : goal.invariant-loop-base
invariant-loop-base l = list_any is_system_base (map (base_of l.syntax.src) (drop l.base-index l.bases)) ≡ list_any is_system_base (map (base_of l.syntax.src) l.bases)
