use Rattle.lx_csr.proofs.Steps.{words_put}
use Rattle.lx_csr.proofs.words.words_at.Goals as goal

pub loop-i-preserved : goal.loop-i-preserved
loop-i-preserved c = words_put c.args.size c.args.addr c.loop-i.i c.word_count-count.result c.min.result c.loop-i.words c.push.new.self
    c.loop-i.invariant c.word_count-count.ensures c.min.ensures c.in_ok-push.ensures.ok
