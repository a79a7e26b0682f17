use Rattle.lx_fragments.proofs.Mentions.{mentions_more}
use Rattle.lx_fragments.proofs.domains.mentions.Goals as goal

pub loop-place-preserved : goal.loop-place-preserved
loop-place-preserved c = rw c.in_ok-push_mention.ensures (mentions_more c.args.machine.now.domains c.loop-place.place c.loop-place.found _ c.loop-place.invariant)
