use Rattle.std.proofs.Common.{◌≡◌, ◌++◌, drop, map}
use Rattle.lx_objects.specs.Memories.{word_of}
use Rattle.lx_objects.proofs.systems.words_32.Given as goal

abbrev pub invariant-loop-content : goal.invariant-loop-content
invariant-loop-content l = l.words ++ map (word_of 32) (drop l.content-index l.contents) ≡ map (word_of 32) l.contents
