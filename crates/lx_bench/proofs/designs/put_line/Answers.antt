use Rattle.lx_bench.proofs.Fans.{can_add_inverse}
use Rattle.lx_bench.proofs.designs.put_line.Goals as goal

pub push_expr-requires : goal.push_expr-requires
push_expr-requires c = can_add_inverse _ _ c.keeps.ensures c.requires.input
