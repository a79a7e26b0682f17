use Rattle.std.proofs.Common.{◌≡◌, ◌++◌, drop, flat_map}
use Rattle.lx_description.specs.Wires.{part_signals}
use Rattle.lx_parts_kept.proofs.places.add_parts.Given as goal

abbrev pub invariant-loop-part : goal.invariant-loop-part
invariant-loop-part l = l.all ++ flat_map part_signals (drop l.part-index l.parts) ≡ l.initial.all ++ flat_map part_signals l.parts
