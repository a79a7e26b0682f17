use Rattle.std.proofs.Common.{◌≡◌, drop}
use Rattle.std.specs.List.{list_all}
use Rattle.lx_describe.specs.Apart.{expr_passes}
use Rattle.lx_describe.proofs.apart.exprs_pass.Given as goal

abbrev pub invariant-loop-node : goal.invariant-loop-node
invariant-loop-node l = list_all (expr_passes l.machine) (drop l.node-index l.machine.shaped.exprs) ≡ list_all (expr_passes l.machine) l.machine.shaped.exprs
