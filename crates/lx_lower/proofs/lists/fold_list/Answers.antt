use Rattle.std.proofs.lemmas.Result.{IfOk-weaker}
use Rattle.lx_lower.proofs.Listing.{copied_put}
use Rattle.lx_lower.proofs.lists.fold_list.Goals as goal

pub returns-in-None : goal.returns-in-None
returns-in-None c = IfOk-weaker c.copied_ids.result _ _ (λ list e. copied_put _ _ _ _ _ c.requires c.in-None.is e) c.copied_ids.ensures
