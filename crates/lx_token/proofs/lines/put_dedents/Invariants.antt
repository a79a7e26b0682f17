use Rattle.std.proofs.Common.{◌≡◌, ◌++◌}
use Rattle.lx_token.specs.Tokens.{dedents}
use Rattle.lx_token.proofs.lines.put_dedents.Given as goal

abbrev pub invariant-loop : goal.invariant-loop
invariant-loop l = l.tokens ≡ l.initial.tokens ++ dedents l.counter l.place l.line
