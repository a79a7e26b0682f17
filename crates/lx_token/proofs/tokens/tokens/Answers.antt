use Rattle.lx_token.proofs.ByLines.{read_whole, read_fault}
use Rattle.lx_token.proofs.tokens.tokens.Goals as goal

pub returns-in-Ok : goal.returns-in-Ok
returns-in-Ok c =
    read_whole c.args.source.now c.new-lines.result c.read_pieces.new.lines c.last_newline.result c.in-Ok.tokens c.if-source.false c.new-lines.ensures c.last_newline.ensures c.in_default.ensures c.in-Ok.ensures

pub returns-in-Err : goal.returns-in-Err
returns-in-Err c =
    read_fault c.args.source.now c.new-lines.result c.read_pieces.new.lines c.in-Err.refusal c.if-source.false c.new-lines.ensures c.in-Err.ensures
