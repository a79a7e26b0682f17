use Rattle.std.proofs.Common.{◌≡◌, ◌++◌, map, take}
use Rattle.lx_syntax.specs.Convert.{token_line}
use Rattle.lx_run.specs.declared.signs.Pending.TheVariants as wait
use Rattle.lx_run.proofs.signs.with_nots.Given as goal

abbrev pub invariant-loop-word : goal.invariant-loop-word
invariant-loop-word l = l.pending ≡ l.fn.waiting ++ map (λ x. wait.Not (token_line x)) (take l.word-index l.words)
