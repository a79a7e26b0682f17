use Rattle.std.proofs.Common.{refl, ◌∙◌, arith}
use Rattle.lx_graph.proofs.Searching.{looking_node, mark_read, went_down, went_along, looped}
use Rattle.lx_graph.proofs.search.look.Goals as goal

pub index-requires : goal.index-requires
index-requires c = omega (arith, c.args.search.now.marks.ok.0, looking_node _ _ _ _ c.holds.ensures c.requires)

pub index_mut-requires : goal.index_mut-requires
index_mut-requires c = omega (arith, c.args.search.now.marks.ok.0, looking_node _ _ _ _ c.holds.ensures c.requires)

pub returns-in_ok-push-in-Unseen-2 : goal.returns-in_ok-push-in-Unseen-2
returns-in_ok-push-in-Unseen-2 c =
    went_down c.args.graph.now c.args.search.now _ c.args.frame c.args.reads.now c.holds.ensures c.requires
    (mark_read _ _ _ (looking_node _ _ _ _ c.holds.ensures c.requires) c.index.ensures ∙ c.in-Unseen.is)
    refl (rw (c.in_ok-push-in-Unseen-2.ensures.items, c.in_ok-push-in-Unseen.ensures.items) refl) refl

pub returns-in-Open : goal.returns-in-Open
returns-in-Open c =
    looped c.args.graph.now c.args.search.now c.args.frame c.args.reads.now c.requires
    (mark_read _ _ _ (looking_node _ _ _ _ c.holds.ensures c.requires) c.index.ensures ∙ c.in-Open.is)

pub returns-in_ok-push-in-Placed : goal.returns-in_ok-push-in-Placed
returns-in_ok-push-in-Placed c =
    went_along c.args.graph.now c.args.search.now _ c.args.frame c.args.reads.now c.requires
    (mark_read _ _ _ (looking_node _ _ _ _ c.holds.ensures c.requires) c.index.ensures ∙ c.in-Placed.is)
    refl c.in_ok-push-in-Placed.ensures.items refl
