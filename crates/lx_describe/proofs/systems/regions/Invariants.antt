use Rattle.std.proofs.Common.{◌≡◌, ◌∷◌, ◌++◌, drop}
use Rattle.lx_describe.specs.Systems.{csr_region}
use Rattle.lx_describe.proofs.systems.regions.Given as goal

abbrev pub invariant-loop-wish : goal.invariant-loop-wish
invariant-loop-wish l = l.list ++ drop l.wish-index l.system.regions ≡ csr_region l.system ∷ l.system.regions
