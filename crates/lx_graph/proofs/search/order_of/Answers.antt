use Rattle.std.proofs.Common.{arith, sym}
use Rattle.lx_graph.proofs.Searching.{search_begun, ordered, seen_more}
use Rattle.lx_graph.proofs.search.order_of.Goals as goal

pub loop-root-init : goal.loop-root-init
loop-root-init c = record {
  searches = rw (c.in_ok-marks.ensures, c.new-stack.ensures.items, c.new-order.ensures) (search_begun c.args.graph.now _ (sym c.len.ensures));
  done = c.new-stack.ensures.items;
  seen = λ a l. absurd (omega arith);
}

pub loop-root-preserved : goal.loop-root-preserved
loop-root-preserved c =
    let visited = rw c.in-None.is at c.in_ok-found.ensures in
    record {
      searches = visited.0.searches;
      done = visited.0.done;
      seen = seen_more c.loop-root.search.marks.items _ c.loop-root.root c.loop-root.invariant.seen visited.0.seen visited.1;
    }

pub returns : goal.returns
returns c =
    ordered c.args.graph.now c.loop-root.search.marks.items c.loop-root.search.stack.items c.loop-root.search.order
    c.loop-root.invariant.searches c.loop-root.invariant.done (λ a l. c.loop-root.invariant.seen a (omega arith))
