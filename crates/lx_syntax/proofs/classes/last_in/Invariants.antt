use Rattle.std.proofs.Common.{◌≡◌, drop, None}
use Rattle.lx_syntax.specs.Forming.{last_in}
use Rattle.lx_syntax.proofs.classes.last_in.Given as goal

abbrev pub invariant-loop-part : goal.invariant-loop-part
invariant-loop-part l = last_in l.last (drop l.part-index l.parts) ≡ last_in None l.parts
