use Rattle.std.proofs.Common.{◌≡◌, drop}
use Rattle.lx_csr.specs.Names.{after_underscores}
use Rattle.lx_csr.proofs.names.after_underscores.Given as goal

abbrev pub invariant-loop-i : goal.invariant-loop-i
invariant-loop-i l = after_underscores l.name ≡ after_underscores (drop l.i l.name)
