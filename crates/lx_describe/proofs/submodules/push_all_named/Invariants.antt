use Rattle.std.proofs.Common.{◌≡◌, ◌++◌, drop}
use Rattle.std.specs.Prelude.{flat_map}
use Rattle.lx_describe.specs.Submodules.{named_at}
use Rattle.lx_describe.proofs.submodules.push_all_named.Given as goal

abbrev pub invariant-loop-object : goal.invariant-loop-object
invariant-loop-object l = l.into ++ flat_map (named_at l.machine l.at) (drop l.object-index l.objects) ≡ l.initial.into ++ flat_map (named_at l.machine l.at) l.objects
