use Rattle.std.proofs.Common.{◌≡◌, ◌+◌, drop}
use Rattle.lx_describe.specs.Parts.{place_among}
use Rattle.lx_describe.proofs.parts.place_among.Given as goal

abbrev pub invariant-loop-before : goal.invariant-loop-before
invariant-loop-before l = l.before + place_among (drop l.before l.all) l.at ≡ place_among l.all l.at
