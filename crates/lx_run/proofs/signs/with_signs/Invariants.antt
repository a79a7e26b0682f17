use Rattle.std.proofs.Common.{◌≡◌, ◌++◌, map, take}
use Rattle.lx_run.specs.declared.signs.Pending.TheVariants as wait
use Rattle.lx_run.proofs.signs.with_signs.Given as goal

abbrev pub invariant-loop-sign : goal.invariant-loop-sign
invariant-loop-sign l = l.pending ≡ l.fn.waiting ++ map wait.Sign (take l.sign-index l.signs)
