use Rattle.std.proofs.Common.{◌≡◌, [], drop}
use Rattle.lx_describe.specs.Submodules.{each_once}
use Rattle.lx_describe.proofs.submodules.bound_once.Given as goal

abbrev pub invariant-loop-object : goal.invariant-loop-object
invariant-loop-object l = each_once l.once (drop l.object-index l.module.bound) ≡ each_once [] l.module.bound
