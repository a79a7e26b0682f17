use Rattle.std.proofs.Common.{◌≡◌, drop}
use Rattle.lx_objects.specs.Cases.{add_cases, no_cases}
use Rattle.lx_objects.proofs.cases.cases_of.Given as goal

abbrev pub invariant-loop-pair : goal.invariant-loop-pair
invariant-loop-pair l = add_cases l.line l.cases (drop l.pair-index l.pairs) l.machine ≡ add_cases l.line no_cases l.pairs l.machine
