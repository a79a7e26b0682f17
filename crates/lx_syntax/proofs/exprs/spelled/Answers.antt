use Rattle.lx_syntax.proofs.Bracketing.{spell_none}
use Rattle.lx_syntax.proofs.exprs.spelled.Goals as goal

pub returns-in_default : goal.returns-in_default
returns-in_default c = spell_none _ _ _ c.args.token.now _ c.args.first.place c.args.second.place c.args.parts.now c.sign_of.ensures c.in_default.not-OpenSquare c.in_default.not-OpenCurly
