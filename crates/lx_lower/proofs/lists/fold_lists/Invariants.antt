use Rattle.lx_lower.specs.Lists.{ListsPut, fold_lines, folded_lists}
use Rattle.lx_lower.proofs.lists.fold_lists.Given as goal

abbrev pub invariant-loop-x : goal.invariant-loop-x
invariant-loop-x l = ListsPut l.initial.draft l.draft l.x l.out.items (folded_lists l.initial.draft l.lists) (fold_lines l.initial.draft l.lists l.folds)
