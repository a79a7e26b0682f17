use Rattle.std.proofs.Common.{◌≡◌, ◌++◌, drop, flat_map}
use Rattle.lx_description.specs.Wires.{numbers}
use Rattle.lx_description.specs.declared.registers.SourceDecl.{SourceDecl}
use Rattle.lx_parts_kept.proofs.places.add_sources.Given as goal

abbrev pub invariant-loop-source : goal.invariant-loop-source
invariant-loop-source l = l.all ++ flat_map (λ (s : SourceDecl). numbers s.signals) (drop l.source-index l.sources) ≡ l.initial.all ++ flat_map (λ (s : SourceDecl). numbers s.signals) l.sources
