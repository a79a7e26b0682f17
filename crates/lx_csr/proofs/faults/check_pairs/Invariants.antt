use Rattle.std.proofs.Common.{◌≡◌, [], take}
use Rattle.lx_alloc.specs.Judged.{each_pair}
use Rattle.lx_csr.specs.Faults.{field_faults}
use Rattle.lx_csr.proofs.faults.check_pairs.Given as goal

abbrev pub invariant-loop-i : goal.invariant-loop-i
invariant-loop-i l = each_pair field_faults [] (take l.i l.fields) ≡ []
