use Rattle.std.proofs.Common.{◌≡◌, drop}
use Rattle.lx_syntax.specs.Forming.{behind, signs_in}
use Rattle.lx_syntax.proofs.parts.signs_in.Given as goal

abbrev pub invariant-signs : goal.invariant-signs
invariant-signs l = behind l.signs (signs_in l.src (drop l.token-index l.tokens)) ≡ signs_in l.src l.tokens
