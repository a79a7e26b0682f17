use Rattle.std.proofs.Common.{◌≡◌, ◌++◌, drop}
use Rattle.lx_syntax.specs.Forming.{tokens_in}
use Rattle.lx_syntax.proofs.parts.tokens_in.Given as goal

abbrev pub invariant-loop-part : goal.invariant-loop-part
invariant-loop-part l = l.tokens ++ tokens_in (drop l.part-index l.parts) ≡ tokens_in l.parts
