use Rattle.std.proofs.Common.{◌≡◌, ◌++◌, take}
use Rattle.std.specs.Prelude.{flat_map}
use Rattle.lx_export.specs.Listing.{interrupt_line}
use Rattle.lx_export.proofs.lines.put_interrupts.Given as goal

abbrev pub invariant-loop-interrupt : goal.invariant-loop-interrupt
invariant-loop-interrupt l = l.out ≡ l.initial.out ++ flat_map interrupt_line (take l.interrupt-index l.interrupts)
