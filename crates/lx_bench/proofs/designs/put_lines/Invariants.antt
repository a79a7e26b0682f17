use Rattle.lx_bench.specs.Fans.{LinesPut}
use Rattle.lx_bench.proofs.designs.put_lines.Given as goal

abbrev pub invariant-loop-x : goal.invariant-loop-x
invariant-loop-x l = LinesPut l.initial.draft l.draft l.ids
