use Rattle.std.proofs.Common.{◌≡◌, take, map}
use Rattle.lx_alloc.proofs.least.number_banks.Given as goal

abbrev pub invariant-loop-i : goal.invariant-loop-i
invariant-loop-i l =
    (map (λ given. given.name) l.given ≡ map (λ bank. bank.name) (take l.i l.banks)) × (map (λ given. given.number) l.given ≡ take l.i l.numbers.items)
