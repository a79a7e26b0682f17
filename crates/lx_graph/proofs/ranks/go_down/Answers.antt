use Rattle.std.proofs.Common.{refl}
use Rattle.lx_graph.proofs.Ranking.{wandered, next_read, went_on}
use Rattle.lx_graph.proofs.ranks.go_down.Goals as goal

pub meet-requires-clause-wanders : goal.meet-requires-clause-wanders
meet-requires-clause-wanders c =
    wandered c.args.graph.now c.args.search.now (record c.args.search.now { stack = c.push.new.self }) c.args.frame c.requires.wanders refl c.in_ok-push.ensures.items refl

pub meet-requires-clause-node : goal.meet-requires-clause-node
meet-requires-clause-node c = next_read c.args.graph.now c.args.frame c.args.reads.now c.holds.ensures c.requires.reads c.requires.next

pub returns : goal.returns
returns c =
    went_on c.args.graph.now c.args.search.now (record c.args.search.now { stack = c.push.new.self }) _ c.args.frame c.args.reads.now c.requires.reads c.requires.next
    refl c.in_ok-push.ensures.items c.in_ok-meet.ensures
