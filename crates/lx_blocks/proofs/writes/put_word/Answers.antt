use Rattle.std.proofs.Common.{◌*◌}
use Rattle.lx_blocks.specs.Writes.{names_in}
use Rattle.std.proofs.lemmas.Result.{IfOk-weaker}
use Rattle.lx_blocks.proofs.Writing.{word_stmt}
use Rattle.lx_blocks.proofs.writes.put_word.Goals as goal

pub returns : goal.returns
returns c =
    IfOk-weaker c.add_stmt.result _ _
    (λ i p. word_stmt _ _ _ _ _ _ _ _ _ _ (names_in c.args.write) c.args.write.width (c.args.write.part * c.args.i) c.args.write.part _ c.in_ok-name.ensures c.in_ok-adr.ensures c.in_ok-data.ensures c.in_ok-index.ensures c.word_part-target.ensures c.in_ok-value.ensures p)
    c.add_stmt.ensures.ok
