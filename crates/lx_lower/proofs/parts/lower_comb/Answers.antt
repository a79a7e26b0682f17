use Rattle.std.proofs.Common.{◌∙◌, ap, length, sym}
use Rattle.std.proofs.lemmas.Result.{IfOk-weaker}
use Rattle.lx_lower.proofs.BySignal.{all_there, comb_there, for_signals}
use Rattle.lx_lower.proofs.Listing.{comb_put, joined_put, lists_all}
use Rattle.lx_lower.proofs.parts.lower_comb.Goals as goal

pub invariant_of-stmts : goal.invariant_of-stmts
invariant_of-stmts c = record { lower = rw (c.as_slice.ensures, c.stmts-bound.ensures, c.design-design.ensures.is) (all_there _ _ (comb_there _ c.design-design.ensures.keeps.keeps)) }

pub invariant_of-of : goal.invariant_of-of
invariant_of-of c = record { alone = rw (c.draft.ensures.is, c.as_slice-2.ensures.value) (for_signals _ _ _ _ _ c.in_ok-lists.ensures) }

pub fold_lists-requires : goal.fold_lists-requires
fold_lists-requires c = record {
  lists = rw c.as_slice-3.ensures.value (for_signals _ _ _ _ _ c.in_ok-lists.ensures);
  folds = rw (c.as_slice-3.ensures.value, c.as_slice-4.ensures) (rw (c.draft.ensures.is, c.as_slice-2.ensures.value) at c.in_ok-folds.ensures);
}

pub returns : goal.returns
returns c =
    let lists = rw (c.as_slice.ensures, c.design-design.ensures.is) at c.in_ok-lists.ensures in
    let folds = rw (c.draft.ensures.is, c.as_slice-2.ensures.value) at c.in_ok-folds.ensures in
    let more = rw (c.as_slice-3.ensures.value, c.as_slice-4.ensures) at c.in_ok-lists-2.ensures in
    let same = lists.grows.signals ∙ c.requires.lowered.signals in
    let all = lists_all _ _ _ _ _ _ _ (ap length (sym more.grows.signals)) more in
    IfOk-weaker c.joined.result _ _ (λ list e. comb_put _ _ _ _ _ _ _ _ same lists folds (joined_put _ _ _ _ _ _ _ c.keeps.ensures (more.grows.signals ∙ same) all e)) (rw c.as_slice-5.ensures.value at c.joined.ensures)
