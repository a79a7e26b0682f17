use Rattle.std.proofs.Common.{◌≡◌, ◌++◌, map, take}
use Rattle.lx_csr.specs.Defined.{interrupt_name}
use Rattle.lx_csr.proofs.defining.push_interrupts.Given as goal

abbrev pub invariant-loop-irq : goal.invariant-loop-irq
invariant-loop-irq l = l.names ≡ l.initial.names ++ map interrupt_name (take l.irq-index l.irqs)
