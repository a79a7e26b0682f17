use Rattle.std.proofs.Common.{◌≡◌, drop, max}
use Rattle.lx_objects.specs.Statements.{deepest_made}
use Rattle.lx_objects.proofs.statements.deepest_made.Given as goal

abbrev pub invariant-loop-at : goal.invariant-loop-at
invariant-loop-at l = max l.depth (deepest_made l.machine (drop l.at-index l.made)) ≡ deepest_made l.machine l.made
