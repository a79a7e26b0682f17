use Rattle.lx_fhdl.proofs.Drafts.{stmt_is}
use Rattle.lx_plain.proofs.Lining.{lines_at-is}
use Rattle.lx_lower.proofs.known.StmtOf.stmt.Goals as goal

pub returns : goal.returns
returns c =
    let keeps = rw (c.known.view_is) at c.design.ensures.keeps in
    let item = rw (c.design.ensures.is, c.known.view_is) at c.get.ensures.item in
    record { below = c.get.ensures.lower; stands = keeps.arenas.stmts _ _ item; tree = stmt_is c.args.self.known.now _ _ keeps.arenas.stmts_lower item; lines = λ x. lines_at-is c.args.self.known.now x _ _ keeps.arenas.stmts_lower item }
