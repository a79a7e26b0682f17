use Rattle.std.proofs.Common.{◌≡◌, [], take}
use Rattle.std.specs.Prelude.{flat_map}
use Rattle.lx_alloc.specs.Numbers.{bank_faults}
use Rattle.lx_alloc.proofs.numbers.check_banks.Given as goal

abbrev pub invariant-loop-fix : goal.invariant-loop-fix
invariant-loop-fix l = flat_map (bank_faults l.banks) (take l.fix-index l.fixes) ≡ []
