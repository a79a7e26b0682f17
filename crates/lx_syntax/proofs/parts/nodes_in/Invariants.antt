use Rattle.std.proofs.Common.{◌≡◌, ◌++◌, drop}
use Rattle.lx_syntax.specs.Forming.{nodes_in}
use Rattle.lx_syntax.proofs.parts.nodes_in.Given as goal

abbrev pub invariant-loop-part : goal.invariant-loop-part
invariant-loop-part l = l.ids ++ nodes_in (drop l.part-index l.parts) ≡ nodes_in l.parts
