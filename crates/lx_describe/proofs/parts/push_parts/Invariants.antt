use Rattle.std.proofs.Common.{◌≡◌, ◌++◌, drop}
use Rattle.std.specs.Prelude.{flat_map}
use Rattle.lx_describe.specs.Parts.{part_at}
use Rattle.lx_describe.proofs.parts.push_parts.Given as goal

abbrev pub invariant-loop-object : goal.invariant-loop-object
invariant-loop-object l = l.into ++ flat_map (part_at l.machine l.all l.at) (drop l.object-index l.objects) ≡ l.initial.into ++ flat_map (part_at l.machine l.all l.at) l.objects
