use Rattle.std.proofs.Common.{◌≡◌, take}
use Rattle.lx_csr.specs.Mapped.{wishes_of}
use Rattle.lx_csr.proofs.collecting.bank_wishes.Given as goal

abbrev pub invariant-loop-bank : goal.invariant-loop-bank
invariant-loop-bank l = l.wishes ≡ wishes_of (take l.bank-index l.bank-items)
