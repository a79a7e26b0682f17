use Rattle.std.proofs.lemmas.Result.{on_ok_weaker}
use Rattle.lx_syntax.proofs.Programming.{nodes_more}
use Rattle.lx_syntax.proofs.whole.put.Goals as goal

pub returns-clause-nodes : goal.returns-clause-nodes
returns-clause-nodes c = on_ok_weaker c.push.result (λ e. nodes_more _ _ _ _ _ _ c.requires.nodes c.requires.next c.in_ok-node.ensures e) c.push.ensures.ok
