use Rattle.std.proofs.Common.{◌<◌, length}
use Rattle.lx_plain.specs.Plain.{TermPut}
use Rattle.lx_exprs.proofs.Choices.{chain}
use Rattle.lx_exprs.proofs.exprs.push_choices.Given as goal

abbrev pub invariant-loop-item : goal.invariant-loop-item
invariant-loop-item l = record {
  within : l.item < length l.items;
  put : TermPut l.initial.draft l.draft l.chosen.place (chain l.initial.draft l.items l.index.id.place l.item);
}

abbrev pub decreases-loop-item : goal.decreases-loop-item
decreases-loop-item l = l.item
