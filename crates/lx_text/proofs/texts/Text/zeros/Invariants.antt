use Rattle.std.proofs.Common.{◌≡◌, ◌++◌}
use Rattle.lx_text.specs.Hex.{zeros_text}
use Rattle.lx_text.proofs.texts.Text.zeros.Given as goal

abbrev pub invariant-loop : goal.invariant-loop
invariant-loop l = l.self ≡ l.initial.self ++ zeros_text l.counter
