use Rattle.std.proofs.Common.{sym, ◌∙◌, eq-eqb, ne_eqb}
use Rattle.lx_blocks.proofs.Writing.{other_memory, same_memory, stmts_as, stmts_is, stmts_none}
use Rattle.lx_blocks.proofs.writes.put_port.Goals as goal

pub returns-then-port-k : goal.returns-then-port-k
returns-then-port-k c = stmts_is _ _ _ _ _ _ (other_memory _ _ _ (ne_eqb _ _ c.if-port-k.true)) (stmts_none _ _ c.requires.list)

pub returns-in-Some : goal.returns-in-Some
returns-in-Some c = stmts_as c.put_write.result _ _ _ _ _ (c.in-Some.ensures ∙ same_memory _ _ _ (eq-eqb _ _ c.if-port-k.false)) c.put_write.ensures

pub returns-in-None : goal.returns-in-None
returns-in-None c = stmts_is _ _ _ _ _ _ (sym c.in-None.ensures ∙ same_memory _ _ _ (eq-eqb _ _ c.if-port-k.false)) (stmts_none _ _ c.requires.list)
