use Rattle.std.proofs.Common.{◌≡◌, map}
use Rattle.lx_machine.specs.Map.{words_from}
use Rattle.lx_csr.specs.Places.{options, word_place}
use Rattle.lx_csr.proofs.words.words_at.Given as goal

abbrev pub invariant-loop-i : goal.invariant-loop-i
invariant-loop-i l = l.words ≡ map word_place (words_from options l.size l.addr 0 l.i)
