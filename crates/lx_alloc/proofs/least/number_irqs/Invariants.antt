use Rattle.std.proofs.Common.{◌≡◌, take, map}
use Rattle.lx_alloc.proofs.least.number_irqs.Given as goal

abbrev pub invariant-loop-i : goal.invariant-loop-i
invariant-loop-i l =
    (map (λ given. given.name) l.given ≡ map (λ irq. irq.name) (take l.i l.irqs)) × (map (λ given. given.number) l.given ≡ take l.i l.numbers.items)
