use Rattle.lx_lower.proofs.Listing.{folds_more, folds_none, shown_is}
use Rattle.lx_lower.proofs.lists.folds.Goals as goal

pub loop-x-init : goal.loop-x-init
loop-x-init c = folds_none _ _ _ c.new-folds.ensures

pub loop-x-preserved : goal.loop-x-preserved
loop-x-preserved c =
    let same = shown_is _ _ _ _ c.loop-x-test.true c.index-lists-x.is c.as_slice-list.ensures in
    folds_more _ _ _ _ _ _ _ c.loop-x.invariant same (rw (c.in_ok-known.ensures) at c.fold_of-fold.ensures.number) (rw (c.in_ok-known.ensures) at c.fold_of-fold.ensures.line) c.in_ok-push.ensures.ok
