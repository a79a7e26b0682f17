use Rattle.std.proofs.lemmas.Result.{on_ok_weaker}
use Rattle.lx_fsm.proofs.Lowered.{now_here, now_none}
use Rattle.lx_fsm.proofs.states.put_now.Goals as goal

pub returns-in-Comb : goal.returns-in-Comb
returns-in-Comb c = on_ok_weaker c.put_assign.result (λ p. now_here c.args.part c.in-Comb.is p) c.put_assign.ensures

pub returns-in-Sync : goal.returns-in-Sync
returns-in-Sync c = now_none _ _ _ c.args.out.now c.args.part c.in-Sync.is c.requires.out
