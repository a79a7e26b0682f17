use Rattle.std.proofs.Common.{◌≡◌, take, map}
use Rattle.lx_alloc.specs.Numbers.{number_of}
use Rattle.lx_alloc.proofs.least.bank_numbers.Given as goal

abbrev pub invariant-loop-bank : goal.invariant-loop-bank
invariant-loop-bank l = l.wished.items ≡ map (λ bank. number_of l.fixes bank.name) (take l.bank-index l.banks)
