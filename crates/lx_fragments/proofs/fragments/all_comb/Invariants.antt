use Rattle.std.proofs.Common.{◌≡◌, ◌++◌, drop}
use Rattle.lx_fragments.specs.Fragments.{all_comb, first_comb}
use Rattle.lx_fragments.proofs.fragments.all_comb.Given as goal

abbrev pub invariant-loop-at : goal.invariant-loop-at
invariant-loop-at l = l.made ++ all_comb l.machine.modules (drop l.at-index l.places) ≡ first_comb l.machine.specials ++ all_comb l.machine.modules l.places
