use Rattle.std.proofs.Common.{◌≡◌, None}
use Rattle.lx_check.specs.Faults.{first_of, memory_clocks}
use Rattle.lx_check.proofs.faults.first_clocks.Given as goal

abbrev pub invariant-loop-m : goal.invariant-loop-m
invariant-loop-m l = first_of (memory_clocks l.design) l.m ≡ None
