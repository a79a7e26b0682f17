use Rattle.std.proofs.Common.{◌≡◌, ◌+◌, map, take}
use Rattle.lx_csr.specs.declared.registers.WordPlace.{WordPlace}
use Rattle.lx_csr.proofs.mapping.moved.Given as goal

abbrev pub invariant-loop-word : goal.invariant-loop-word
invariant-loop-word l = l.list ≡ map (λ (w : WordPlace). record w { addr = l.start + w.addr }) (take l.word-index l.words)
