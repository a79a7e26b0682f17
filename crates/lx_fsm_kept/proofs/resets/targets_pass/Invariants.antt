use Rattle.std.proofs.Common.{◌≡◌, drop}
use Rattle.std.specs.List.{list_all}
use Rattle.lx_fsm_kept.specs.Stand.{passes}
use Rattle.lx_fsm_kept.proofs.resets.targets_pass.Given as goal

abbrev pub invariant-loop-node : goal.invariant-loop-node
invariant-loop-node l = list_all (passes l.x.0) (drop l.node-index l.nodes) ≡ list_all (passes l.x.0) l.nodes
