use Rattle.lx_memory.proofs.Shown.{word_shown}
use Rattle.lx_memory.proofs.lowering.keep_word.Goals as goal

pub returns : goal.returns
returns c =
    word_shown c.args.holds {kept = c.in_ok-kept.kept} {word = c.in_ok-word.word} {stmt = c.in_ok-stmt.stmt} c.requires.port c.requires.holds c.in_ok-kept.ensures c.stands.ensures c.in_ok-word.ensures c.in_ok-stmt.ensures
    c.in_ok-put_sync.ensures c.stands-2.ensures c.in_ok-id.ensures
