use Rattle.std.proofs.Common.{◌∙◌}
use Rattle.std.proofs.lemmas.Result.{IfOk-weaker}
use Rattle.lx_lower.proofs.Listing.{joined_put}
use Rattle.lx_lower.proofs.parts.lower_list.Goals as goal

pub returns : goal.returns
returns c =
    let lists = c.in_ok-lists.ensures in
    IfOk-weaker c.joined.result _ _ (λ list e. joined_put _ _ _ _ _ _ _ c.keeps.ensures (lists.grows.signals ∙ c.requires.lowered.signals) lists e) (rw c.as_slice.ensures.value at c.joined.ensures)
