use Rattle.std.proofs.Common.{◌≡◌, ◌++◌, length}
use Rattle.lx_token.specs.Meanings.{unescaped}
use Rattle.lx_token.proofs.meanings.put_unescaped.Given as goal

abbrev pub invariant-bytes : goal.invariant-bytes
invariant-bytes l = l.into ++ unescaped l.rest ≡ l.initial.into ++ unescaped l.bytes

abbrev pub decreases-bytes : goal.decreases-bytes
decreases-bytes l = length l.rest
