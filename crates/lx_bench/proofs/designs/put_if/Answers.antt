use Rattle.lx_bench.proofs.Fans.{can_add_if}
use Rattle.lx_bench.proofs.designs.put_if.Goals as goal

pub push_stmt-requires : goal.push_stmt-requires
push_stmt-requires c = rw (c.in_ok-branches.ensures, c.new.ensures) (can_add_if _ _ _ _ c.requires.input c.requires.lines)
