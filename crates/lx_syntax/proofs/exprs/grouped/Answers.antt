use Rattle.lx_syntax.proofs.Bracketing.{group_list, group_other, group_same}
use Rattle.lx_syntax.proofs.exprs.grouped.Goals as goal

pub returns-in-OpenRound : goal.returns-in-OpenRound
returns-in-OpenRound c = group_same _ _ _ c.args.token.now _ c.args.inner c.sign_of.ensures c.in-OpenRound.is c.requires.low

pub returns-in_ok-items-in-OpenSquare : goal.returns-in_ok-items-in-OpenSquare
returns-in_ok-items-in-OpenSquare c = group_list _ _ _ c.args.token.now _ c.args.inner _ c.sign_of.ensures c.in-OpenSquare.is c.requires.low c.in_ok-items-in-OpenSquare.ensures

pub returns-in_default : goal.returns-in_default
returns-in_default c = group_other _ _ _ c.args.token.now _ c.args.inner c.sign_of.ensures c.in_default.not-OpenRound c.in_default.not-OpenSquare
