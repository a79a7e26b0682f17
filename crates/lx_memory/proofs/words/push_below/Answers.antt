use Rattle.std.proofs.Common.{sym, subst, arith}
use Rattle.std.specs.Int.{w128}
use Rattle.std.proofs.lemmas.Int.{to_z_pos}
use Rattle.lx_fhdl.specs.Nodes.{IsSmall}
use Rattle.lx_fhdl.proofs.Drafts.{draft_small}
use Rattle.lx_memory.proofs.Nodes.{below_put, can_less, number_kept, term_kept}
use Rattle.lx_memory.proofs.words.push_below.Goals as goal

pub push_number-requires : goal.push_number-requires
push_number-requires c = subst IsSmall (sym c.shape_of-shape.ensures) (draft_small _ c.keeps.ensures c.args.x.0)

pub push_expr-requires : goal.push_expr-requires
push_expr-requires c = can_less _ c.args.at _ c.args.x.0 _ c.keeps-2.ensures (term_kept c.in_ok-right.ensures.grows c.requires.at) (number_kept _ _ c.args.x.0 _ _ _ c.shape_of-shape.ensures c.in_ok-right.ensures)

pub returns : goal.returns
returns c = below_put _ _ _ c.args.x.0 _ _ _ c.args.at _ _ c.shape_of-shape.ensures (to_z_pos w128 c.args.number (omega arith)) c.requires.at c.in_ok-right.ensures c.in_ok-id.ensures.ok
