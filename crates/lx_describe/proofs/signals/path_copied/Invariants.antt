use Rattle.std.proofs.Common.{◌≡◌, ◌++◌, drop}
use Rattle.lx_describe.proofs.signals.path_copied.Given as goal

abbrev pub invariant-loop-word : goal.invariant-loop-word
invariant-loop-word l = l.copy ++ drop l.word-index l.path ≡ l.path
