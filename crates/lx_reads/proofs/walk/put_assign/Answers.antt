use Rattle.std.proofs.Common.{List, ℕ, ◌++◌, ◌∙◌, ap}
use Rattle.std.specs.Option.{option_to_list}
use Rattle.std.proofs.lemmas.Result.{on_ok_weaker}
use Rattle.lx_reads.proofs.Nets.{assign_added}
use Rattle.lx_reads.proofs.walk.put_assign.Goals as goal

pub returns : goal.returns
returns c =
    let row = c.in_ok-push_around.ensures ∙ ap (λ (v : List ℕ). v ++ option_to_list c.args.under.around) (rw c.len.ensures at c.in_ok-push.ensures.ok) in
    on_ok_weaker c.put_driven.result
    (λ p. assign_added _ _ _ _ _ _ _ _ c.args.under.around _ _ _ _ c.requires.ready c.requires.value c.new.ensures c.new-2.ensures c.in_ok-add_target.ensures row c.in_ok-node.ensures p)
    (rw c.as_slice.ensures at c.put_driven.ensures)
