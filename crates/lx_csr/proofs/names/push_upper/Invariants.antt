use Rattle.std.proofs.Common.{◌≡◌, ◌++◌, take}
use Rattle.lx_csr.specs.Names.{upper}
use Rattle.lx_csr.proofs.names.push_upper.Given as goal

abbrev pub invariant-loop-byte : goal.invariant-loop-byte
invariant-loop-byte l = l.text ≡ l.initial.text ++ upper (take l.byte-index l.name)
