use Rattle.lx_fhdl.proofs.Drafts.{stmt_is}
use Rattle.lx_plain.proofs.Lining.{lines_at-is}
use Rattle.lx_plain.proofs.source.Source.stmt.Goals as goal

pub get-requires : goal.get-requires
get-requires c = rw (← c.self.view_is) at c.requires

pub returns : goal.returns
returns c =
    let arenas = c.self.invariant.keeps.arenas in
    rw (← c.self.view_is) (record {
      below = c.get.ensures.lower;
      stands = arenas.stmts _ _ c.get.ensures.item;
      tree = stmt_is c.self.inside.design.now _ _ arenas.stmts_lower c.get.ensures.item;
      lines = λ x. lines_at-is c.self.inside.design.now x _ _ arenas.stmts_lower c.get.ensures.item;
    })
