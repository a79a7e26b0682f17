use Rattle.std.proofs.Common.{◌≡◌, ◌++◌, take}
use Rattle.lx_csr.proofs.collecting.constants.Given as goal

abbrev pub invariant-loop-constant : goal.invariant-loop-constant
invariant-loop-constant l = l.list ≡ l.initial.list ++ take l.constant-index l.constant-items
