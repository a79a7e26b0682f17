use Rattle.lx_plain.proofs.Conditions.{number_put}
use Rattle.lx_exprs.proofs.Moved.{shift_join}
use Rattle.lx_exprs.proofs.exprs.push_shift.Goals as goal

pub push_binary-requires : goal.push_binary-requires
push_binary-requires c = shift_join _ _ _ _ _ _ c.requires.of c.requires.amount c.in_ok-cut.ensures

pub returns : goal.returns
returns c = number_put _ _ _ _ _ _ _ _ c.requires.of.there c.in_ok-cut.ensures c.in_ok-id.ensures
