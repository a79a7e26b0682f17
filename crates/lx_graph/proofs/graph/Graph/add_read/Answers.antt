use Rattle.std.proofs.Common.{◌<◌, length, [], arith}
use Rattle.std.proofs.lemmas.List.{get_or_read}
use Rattle.lx_graph.proofs.Rows.{graph_read}
use Rattle.lx_graph.proofs.graph.Graph.add_read.Goals as goal

pub invariant_of-self-2 : goal.invariant_of-self-2
invariant_of-self-2 c =
    let plain : c.args.node < c.self.inside.plain = rw (← c.self.view_is) at c.requires.node in
    let here : c.args.node < length c.self.inside.rows.items = omega (arith, c.self.invariant.plain) in
    let h = graph_read _ c.args.node c.args.read c.self.invariant plain (rw (← c.self.view_is) at c.requires.read) in
    let e = get_or_read _ _ _ here c.index_mut.ensures.value [] in
    rw (c.in_ok-push.ensures.ok, e) h
