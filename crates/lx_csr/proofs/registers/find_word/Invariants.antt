use Rattle.std.proofs.Common.{◌≡◌, ℕ, ◌<◌, Some}
use Rattle.std.specs.Prelude.{slice_get}
use Rattle.lx_csr.specs.declared.registers.WordPlace.{WordPlace}
use Rattle.lx_csr.proofs.registers.find_word.Given as goal

abbrev pub invariant-loop-j : goal.invariant-loop-j
invariant-loop-j l = (k : ℕ) (w : WordPlace) → k < l.j → slice_get l.words k ≡ Some w → w.addr ≡ l.addr → ⊥
