use Rattle.std.proofs.Common.{◌≡◌, [], take}
use Rattle.lx_names.specs.Tables.{names}
use Rattle.lx_csr.specs.Faults.{taken_faults, taken_first}
use Rattle.lx_csr.proofs.Taking.{texts}
use Rattle.lx_csr.proofs.faults.check_names.Given as goal

abbrev pub invariant-loop-name : goal.invariant-loop-name
invariant-loop-name l = record {
  none : taken_faults (taken_first l.headers) (take l.name-index l.names) ≡ [];
  taken : names l.taken ≡ texts (take l.name-index l.names);
}
