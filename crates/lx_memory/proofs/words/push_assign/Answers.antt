use Rattle.lx_memory.proofs.Nodes.{assign_put, can_whole}
use Rattle.lx_memory.proofs.words.push_assign.Goals as goal

pub push_target-requires : goal.push_target-requires
push_target-requires c = can_whole _ c.args.x c.keeps.ensures c.requires.signal

pub returns : goal.returns
returns c = assign_put _ _ _ c.in_ok-target.target c.args.x c.args.value _ c.in_ok-target.ensures.ok c.in_ok-id.ensures.ok c.requires.value
