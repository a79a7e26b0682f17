use Rattle.std.proofs.Common.{◌+◌, ◌*◌, take}
use Rattle.lx_emission.specs.Texts.{stmt_text}
use Rattle.lx_blocks.specs.Puts.{PutStmts, texts_of}
use Rattle.lx_blocks.proofs.stmts.+put.Given as goal

abbrev pub decreases-put_stmt : goal.decreases-put_stmt
decreases-put_stmt l = 5 * l.id.place + 4

abbrev pub decreases-put_when : goal.decreases-put_when
decreases-put_when l = 5 * l.bound + 3

abbrev pub decreases-put_else : goal.decreases-put_else
decreases-put_else l = 5 * l.bound + 2

abbrev pub decreases-put_block : goal.decreases-put_block
decreases-put_block l = 5 * l.bound + 1

abbrev pub decreases-put_stmts : goal.decreases-put_stmts
decreases-put_stmts l = 5 * l.bound

abbrev pub invariant-put_stmts-loop-id : goal.invariant-put_stmts-loop-id
invariant-put_stmts-loop-id l = PutStmts l.initial.nodes l.nodes l.initial.after l.after (texts_of (stmt_text l.sheet.design l.sheet.names l.blocking) (take l.id-index l.ids))
