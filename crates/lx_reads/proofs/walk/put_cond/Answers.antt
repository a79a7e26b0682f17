use Rattle.std.proofs.Common.{List, ℕ, ◌++◌, ◌∙◌, ap}
use Rattle.std.specs.Option.{option_to_list}
use Rattle.lx_reads.proofs.Nets.{cond_added}
use Rattle.lx_reads.proofs.walk.put_cond.Goals as goal

pub returns : goal.returns
returns c =
    let row = c.in_ok-push_around.ensures ∙ ap (λ (v : List ℕ). v ++ option_to_list c.args.under.around) (rw (c.len.ensures, c.new-row.ensures) at c.in_ok-push.ensures.ok) in
    rw c.within.ensures (cond_added _ _ _ _ _ _ c.in_ok-node.node c.requires.ready c.requires.place row c.in_ok-node.ensures)
