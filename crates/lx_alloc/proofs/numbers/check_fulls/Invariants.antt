use Rattle.std.proofs.Common.{◌≡◌, [], take}
use Rattle.std.specs.Prelude.{flat_map}
use Rattle.lx_alloc.specs.Numbers.{full_faults}
use Rattle.lx_alloc.proofs.numbers.check_fulls.Given as goal

abbrev pub invariant-loop-bank : goal.invariant-loop-bank
invariant-loop-bank l = flat_map (full_faults) (take l.bank-index l.banks) ≡ []
