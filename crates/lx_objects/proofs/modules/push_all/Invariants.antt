use Rattle.std.proofs.Common.{◌≡◌, ◌++◌, drop}
use Rattle.lx_objects.proofs.modules.push_all.Given as goal

abbrev pub invariant-loop-at : goal.invariant-loop-at
invariant-loop-at l = l.into ++ drop l.at-index l.made ≡ l.initial.into ++ l.made
