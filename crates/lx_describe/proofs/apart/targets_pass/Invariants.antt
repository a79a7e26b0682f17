use Rattle.std.proofs.Common.{◌≡◌, drop}
use Rattle.std.specs.List.{list_all}
use Rattle.lx_describe.specs.Apart.{target_passes}
use Rattle.lx_describe.proofs.apart.targets_pass.Given as goal

abbrev pub invariant-loop-node : goal.invariant-loop-node
invariant-loop-node l = list_all (target_passes l.machine) (drop l.node-index l.machine.shaped.targets) ≡ list_all (target_passes l.machine) l.machine.shaped.targets
