use Rattle.lx_fsm.proofs.Numbering.{can_equal, cond_put}
use Rattle.lx_fsm.proofs.numbers.push_cond.Goals as goal

pub push_expr-requires : goal.push_expr-requires
push_expr-requires c = can_equal _ c.args.fsm.now c.args.state c.args.constant c.args.number c.keeps.ensures c.requires.state c.requires.constant

pub returns : goal.returns
returns c = cond_put _ _ c.args.fsm.now c.args.state c.args.constant c.args.number _ c.keeps.ensures c.keeps-2.ensures c.requires.state c.requires.constant c.in_ok-id.ensures.ok
