use Rattle.std.proofs.Common.{◌≡◌, drop, map}
use Rattle.lx_syntax.specs.Classes.{base_of}
use Rattle.lx_state.specs.declared.machine.ModuleKind.TheVariants as kinds
use Rattle.lx_run.specs.Classes.{bases_run}
use Rattle.lx_run.proofs.classes.bases_run.Given as goal

abbrev pub invariant-loop-base : goal.invariant-loop-base
invariant-loop-base l = bases_run l.last l.kind (map (base_of l.syntax.src) (drop l.base-index l.bases)) l.machine ≡ bases_run l.last kinds.Plain (map (base_of l.syntax.src) l.bases) l.machine
