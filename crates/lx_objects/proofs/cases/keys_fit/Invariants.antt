use Rattle.std.proofs.Common.{◌≡◌, [], drop}
use Rattle.lx_objects.specs.Cases.{keys_fit}
use Rattle.lx_objects.proofs.cases.keys_fit.Given as goal

abbrev pub invariant-loop-pair : goal.invariant-loop-pair
invariant-loop-pair l = keys_fit l.line l.seen (drop l.pair-index l.pairs) l.machine ≡ keys_fit l.line [] l.pairs l.machine
