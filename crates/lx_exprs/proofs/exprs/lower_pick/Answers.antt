use Rattle.std.proofs.lemmas.Result.{IfOk-weaker}
use Rattle.lx_exprs.proofs.Moved.{IsFor, items_pick, pick_put}
use Rattle.lx_exprs.proofs.exprs.lower_pick.Goals as goal

pub push_choices-requires-clause-items : goal.push_choices-requires-clause-items
push_choices-requires-clause-items c =
    let v : IsFor _ _ _ c.args.node.index = record { shape = c.lowered-index.ensures.shape; tree = c.lowered-index.ensures.tree } in
    rw (c.as_slice.ensures, c.in_ok-items.ensures, c.places.ensures) (items_pick _ _ _ _ _ c.design-design.ensures.keeps c.requires c.args.node.next v)

pub returns : goal.returns
returns c =
    let v : IsFor _ _ _ c.args.node.index = record { shape = c.lowered-index.ensures.shape; tree = c.lowered-index.ensures.tree } in
    IfOk-weaker c.push_choices.result _ _
    (λ id p. pick_put _ _ _ _ _ _ _ c.design-design.ensures.keeps c.requires c.args.node.next v p)
    (rw (c.as_slice.ensures, c.in_ok-items.ensures, c.places.ensures) at c.push_choices.ensures)
