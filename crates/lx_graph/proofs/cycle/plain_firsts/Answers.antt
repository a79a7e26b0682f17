use Rattle.std.proofs.Common.{◌≡◌, subst, ℕ, arith}
use Rattle.lx_graph.specs.Levels.{HaveFirsts}
use Rattle.lx_graph.proofs.Ahead.{have_none, have_plain}
use Rattle.lx_graph.proofs.cycle.plain_firsts.Goals as goal

pub loop-node-init : goal.loop-node-init
loop-node-init c = have_none c.args.graph.now c.args.levels.now _ c.new-firsts.ensures.items

pub loop-node-preserved : goal.loop-node-preserved
loop-node-preserved c =
    have_plain c.args.graph.now c.args.levels.now c.loop-node.firsts.items _ c.loop-node.node c.loop-node.invariant (omega arith) c.in_ok-push.ensures.items

pub returns : goal.returns
returns c =
    let e : c.loop-node.node ≡ c.args.graph.now.plain = omega arith in
    subst (λ (n : ℕ). HaveFirsts c.args.graph.now c.args.levels.now c.loop-node.firsts.items n) e c.loop-node.invariant
