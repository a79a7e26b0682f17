use Rattle.std.proofs.Common.{◌≡◌, arith}
use Rattle.lx_graph.proofs.Rows.{graph_new}
use Rattle.lx_graph.proofs.graph.Graph.new.Goals as goal

pub invariant_of-result : goal.invariant_of-result
invariant_of-result c =
    let e : c.loop.counter ≡ c.args.plain = omega arith in
    rw (c.loop.invariant, e) (graph_new c.args.plain)
