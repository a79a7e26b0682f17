use Rattle.std.proofs.Common.{◌≡◌, ◌++◌}
use Rattle.lx_vtext.specs.Printed.{indent}
use Rattle.lx_vprint.proofs.leaves.margin.Given as goal

abbrev pub invariant-loop : goal.invariant-loop
invariant-loop l = l.out ≡ l.initial.out ++ indent l.counter
