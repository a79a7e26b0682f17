use Rattle.std.proofs.Common.{◌≡◌, ◌++◌, drop}
use Rattle.lx_fragments.specs.Fragments.{all_sync}
use Rattle.lx_fragments.proofs.fragments.all_sync.Given as goal

abbrev pub invariant-loop-at : goal.invariant-loop-at
invariant-loop-at l = l.items ++ all_sync l.machine.modules (drop l.at-index l.places) ≡ l.machine.specials.sync ++ all_sync l.machine.modules l.places
