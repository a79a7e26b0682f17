use Rattle.std.proofs.Common.{◌≡◌, drop}
use Rattle.lx_ops.specs.Compare.{among}
use Rattle.lx_ops.proofs.comparisons.among.Given as goal

abbrev pub invariant-loop-item : goal.invariant-loop-item
invariant-loop-item l = among l.line l.first (drop l.item-index l.items) l.machine ≡ among l.line l.first l.items l.machine
