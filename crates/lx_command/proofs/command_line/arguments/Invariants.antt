use Rattle.std.proofs.Common.{take, IfSome}
use Rattle.lx_command.specs.Reading.{ArePassed}
use Rattle.lx_command.proofs.command_line.arguments.Given as goal

abbrev pub invariant-loop-place : goal.invariant-loop-place
invariant-loop-place g l = IfSome (g.G.Given.words l.given) (λ told. ArePassed (take l.place told) l.words)
