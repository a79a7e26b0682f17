use Rattle.std.proofs.Common.{◌≡◌, ◌++◌, drop, flat_map}
use Rattle.lx_description.specs.Wires.{slave_signals}
use Rattle.lx_description.specs.declared.slaves.SlaveDecl.{SlaveDecl}
use Rattle.lx_parts_kept.proofs.places.add_slaves.Given as goal

abbrev pub invariant-loop-slave : goal.invariant-loop-slave
invariant-loop-slave l = l.all ++ flat_map (λ (s : SlaveDecl). slave_signals s.kind) (drop l.slave-index l.slaves) ≡ l.initial.all ++ flat_map (λ (s : SlaveDecl). slave_signals s.kind) l.slaves
