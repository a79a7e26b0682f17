use Rattle.lx_lower.specs.Lists.{AreFolds}
use Rattle.lx_lower.proofs.lists.folds.Given as goal

abbrev pub invariant-loop-x : goal.invariant-loop-x
invariant-loop-x l = AreFolds l.of.draft.now l.of.lists.now l.x l.folds
