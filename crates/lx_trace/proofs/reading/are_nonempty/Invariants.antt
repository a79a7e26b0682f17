use Rattle.std.proofs.Common.{◌≡◌, drop}
use Rattle.std.specs.List.{list_all}
use Rattle.lx_trace.specs.Lines.{is_nonempty}
use Rattle.lx_trace.proofs.reading.are_nonempty.Given as goal

abbrev pub invariant-loop-word : goal.invariant-loop-word
invariant-loop-word l = list_all is_nonempty l.words ≡ list_all is_nonempty (drop l.word-index l.words)
