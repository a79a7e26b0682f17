use Rattle.std.proofs.Common.{refl, arith}
use Rattle.lx_lower.proofs.Listing.{folded_more, lists_all, lists_none, shown_for, shown_is}
use Rattle.lx_lower.proofs.lists.fold_lists.Goals as goal

pub loop-x-init : goal.loop-x-init
loop-x-init c = lists_none _ _ _ _ c.new-out.ensures.items

pub fold_list-requires : goal.fold_list-requires
fold_list-requires c =
    shown_for _ _ c.args.lists.now c.loop-x.x _ c.loop-x.invariant.grows c.requires.lists c.loop-x-test.true (shown_is _ _ _ _ c.loop-x-test.true c.index-lists-x.is c.as_slice-list.ensures)

pub loop-x-preserved : goal.loop-x-preserved
loop-x-preserved c =
    let same = shown_is _ _ _ _ c.loop-x-test.true c.index-lists-x.is c.as_slice-list.ensures in
    folded_more _ _ _ c.loop-x.x c.args.lists.now _ _ c.args.folds.now _ _ _ _ c.requires.lists c.requires.folds c.loop-x-test.true same refl c.loop-x.invariant c.in_ok-own.ensures c.in_ok-push.ensures.items

pub returns : goal.returns
returns c = lists_all _ _ _ _ _ _ _ (omega (arith, c.requires.lists.long)) c.loop-x.invariant
