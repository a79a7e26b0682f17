use Rattle.std.proofs.Common.{sym, subst, ◌∙◌}
use Rattle.lx_fhdl.specs.Nodes.{IsSmall}
use Rattle.lx_fhdl.proofs.Drafts.{draft_small}
use Rattle.lx_memory.proofs.Nodes.{can_equal, number_kept, same_shapes, term_kept}
use Rattle.lx_memory.proofs.words.push_is_zero.Goals as goal

pub push_number-requires : goal.push_number-requires
push_number-requires c = subst IsSmall (sym c.shape_of-shape.ensures) (draft_small _ c.keeps.ensures c.args.x.0)

pub push_expr-requires : goal.push_expr-requires
push_expr-requires c =
    can_equal _ c.in_ok-left.left c.in_ok-right.right c.args.x.0 _ c.keeps-2.ensures (term_kept c.in_ok-right.ensures.grows c.in_ok-left.ensures.has)
    (number_kept _ _ c.args.x.0 _ _ c.in_ok-right.right (c.shape_of-shape.ensures ∙ sym (same_shapes c.in_ok-left.ensures.grows c.args.x.0)) c.in_ok-right.ensures)
