use Rattle.std.proofs.Common.{◌≡◌, ◌+◌, ◌*◌, ◌++◌, drop}
use Rattle.lx_fragments.specs.Fragments.{all_under, under}
use Rattle.lx_fragments.proofs.fragments.+push_under.Given as goal

abbrev pub decreases-push_under : goal.decreases-push_under
decreases-push_under l = 3 * l.levels

abbrev pub decreases-push_submodules : goal.decreases-push_submodules
decreases-push_submodules l = 3 * l.levels + 2

abbrev pub decreases-push_all_under : goal.decreases-push_all_under
decreases-push_all_under l = 3 * l.levels + 1

abbrev pub invariant-push_all_under-loop-submodule : goal.invariant-push_all_under-loop-submodule
invariant-push_all_under-loop-submodule l = l.into ++ all_under (under l.modules l.levels) (drop l.submodule-index l.submodules) ≡ l.initial.into ++ all_under (under l.modules l.levels) l.submodules
