use Rattle.std.proofs.Common.{◌≡◌, ◌++◌, drop}
use Rattle.lx_syntax.specs.Convert.{names_among}
use Rattle.lx_syntax.proofs.parts.names_among.Given as goal

abbrev pub invariant-loop-token : goal.invariant-loop-token
invariant-loop-token l = l.names ++ names_among l.src (drop l.token-index l.tokens) ≡ names_among l.src l.tokens
