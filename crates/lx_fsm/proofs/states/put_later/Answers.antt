use Rattle.std.proofs.lemmas.Result.{on_ok_weaker}
use Rattle.lx_fsm.proofs.Lowered.{later_here, later_none}
use Rattle.lx_fsm.proofs.states.put_later.Goals as goal

pub returns-in-Comb : goal.returns-in-Comb
returns-in-Comb c = later_none _ _ _ c.args.out.now c.args.part c.in-Comb.is c.requires.out

pub returns-in-Sync : goal.returns-in-Sync
returns-in-Sync c = on_ok_weaker c.put_assign.result (λ p. later_here c.args.part c.in-Sync.is p) c.put_assign.ensures
