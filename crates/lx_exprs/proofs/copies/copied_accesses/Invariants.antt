use Rattle.std.proofs.Common.{◌≡◌, take}
use Rattle.lx_exprs.proofs.copies.copied_accesses.Given as goal

abbrev pub invariant-loop-port : goal.invariant-loop-port
invariant-loop-port l = l.list ≡ take l.port-index l.ports
