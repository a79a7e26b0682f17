use Rattle.lx_syntax.proofs.Classing.{last_within, no_body}
use Rattle.lx_syntax.proofs.classes.body_of.Goals as goal

pub lines-requires : goal.lines-requires
lines-requires c = last_within _ _ _ c.in-Some.block c.in-Some.ensures c.requires.low c.requires.inside

pub returns-in-None : goal.returns-in-None
returns-in-None c = no_body _ _ _ _ c.in-None.ensures c.new.ensures
