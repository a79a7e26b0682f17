use Rattle.std.proofs.Common.{◌≡◌, ◌++◌, drop}
use Rattle.std.specs.Prelude.{flat_map}
use Rattle.lx_describe.specs.Parts.{source_at}
use Rattle.lx_describe.proofs.parts.sources.Given as goal

abbrev pub invariant-loop-number : goal.invariant-loop-number
invariant-loop-number l = l.list ++ flat_map (source_at l.machine) (drop l.number-index l.numbers) ≡ flat_map (source_at l.machine) l.numbers
