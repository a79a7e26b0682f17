use Rattle.std.proofs.Common.{◌≡◌, ◌++◌, drop, flat_map}
use Rattle.lx_description.specs.Wires.{part_signals}
use Rattle.lx_description.specs.declared.modules.ModuleDecl.{ModuleDecl}
use Rattle.lx_parts_kept.proofs.places.add_modules.Given as goal

abbrev pub invariant-loop-module : goal.invariant-loop-module
invariant-loop-module l = l.all ++ flat_map (λ (m : ModuleDecl). flat_map part_signals m.parts) (drop l.module-index l.modules) ≡ l.initial.all ++ flat_map (λ (m : ModuleDecl). flat_map part_signals m.parts) l.modules
