use Rattle.std.proofs.Common.{◌≡◌, ◌++◌, take}
use Rattle.lx_namer.specs.Base.{continued}
use Rattle.lx_namer.proofs.base.push_continued.Given as goal

abbrev pub invariant-loop-word : goal.invariant-loop-word
invariant-loop-word l = l.text ≡ l.initial.text ++ continued (take l.word-index l.words)
