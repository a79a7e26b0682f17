use Rattle.lx_vprint.proofs.Joined.{initial_joined}
use Rattle.lx_vprint.proofs.parts.put_initial.Goals as goal

pub returns : goal.returns
returns c = initial_joined c.args.out.now c.word.new.self c.put_words.new.out c.word-2.new.self c.args.initial.now.words c.as_slice.result.now
    c.as_slice.ensures c.in_ok-word.ensures.ok c.in_ok-put_words.ensures c.in_ok-word-2.ensures.ok
