use Rattle.std.proofs.Common.{◌≡◌, take, map}
use Rattle.lx_alloc.proofs.least.irq_numbers.Given as goal

abbrev pub invariant-loop-irq : goal.invariant-loop-irq
invariant-loop-irq l = l.wished.items ≡ map (λ irq. irq.number) (take l.irq-index l.irqs)
