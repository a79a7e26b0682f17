use Rattle.lx_sim.proofs.Remembered.{words_more}
use Rattle.lx_sim.proofs.words.all_words.Goals as goal

pub loop-m-preserved : goal.loop-m-preserved
loop-m-preserved c = words_more _ _ _ _ _ _ c.at.ensures c.loop-m.invariant c.in_ok-first_words.ensures c.in_ok-push.ensures.items
