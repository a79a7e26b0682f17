use Rattle.std.proofs.Common.{◌≡◌, drop}
use Rattle.lx_alloc.specs.Numbers.{number_of}
use Rattle.lx_alloc.proofs.least.number_of.Given as goal

abbrev pub invariant-loop-fix : goal.invariant-loop-fix
invariant-loop-fix l = number_of l.fixes l.name ≡ number_of (drop l.fix-index l.fixes) l.name
