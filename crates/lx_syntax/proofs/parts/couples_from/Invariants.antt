use Rattle.std.proofs.Common.{◌≡◌, ◌++◌, ◌∷◌, length}
use Rattle.lx_syntax.specs.Forming.{couples_of}
use Rattle.lx_syntax.proofs.parts.couples_from.Given as goal

abbrev pub invariant-couples : goal.invariant-couples
invariant-couples l = l.couples ++ couples_of l.rest ≡ record { first = l.fn.first; second = l.fn.second } ∷ couples_of l.ids

abbrev pub decreases-couples : goal.decreases-couples
decreases-couples l = length l.rest
