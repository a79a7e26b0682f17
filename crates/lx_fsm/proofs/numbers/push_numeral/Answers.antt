use Rattle.std.proofs.Common.{arith}
use Rattle.std.specs.Int.{w128}
use Rattle.std.proofs.lemmas.Int.{to_z_pos}
use Rattle.lx_fsm.proofs.Numbering.{can_number, number_put}
use Rattle.lx_fsm.proofs.numbers.push_numeral.Goals as goal

pub push_expr-requires : goal.push_expr-requires
push_expr-requires c = can_number _ c.args.fsm.now.state c.args.shape _ c.keeps.ensures c.requires

pub returns : goal.returns
returns c = number_put _ _ c.args.fsm.now c.args.shape c.args.number _ _ c.keeps.ensures c.keeps-2.ensures c.requires (to_z_pos w128 c.args.number (omega arith)) c.in_ok-id.ensures.ok
