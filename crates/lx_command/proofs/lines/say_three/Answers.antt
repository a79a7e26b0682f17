use Rattle.std.proofs.Common.{◌++◌}
use Rattle.lx_command.proofs.LineLemmas.{says_second, says_first}
use Rattle.lx_command.proofs.lines.say_three.Goals as goal

pub returns-in-Ok : goal.returns-in-Ok
returns-in-Ok g c =
    says_second (g.E.Console.said c.args.err.now) (g.E.Console.said c.say.new.self) (g.E.Console.said c.say_pieces.new.err) (g.E.Console.faults c.args.err.now) (g.E.Console.faults c.say.new.self) (g.E.Console.faults c.say_pieces.new.err)
    c.args.first.now (c.args.second.now ++ c.args.third.now) c.say.ensures.never_falls c.in-Ok.ensures.says c.say_pieces.ensures

pub returns-in-Err : goal.returns-in-Err
returns-in-Err g c =
    says_first (g.E.Console.said c.args.err.now) (g.E.Console.said c.say.new.self) (g.E.Console.faults c.args.err.now) (g.E.Console.faults c.say.new.self)
    c.args.first.now (c.args.second.now ++ c.args.third.now) c.in-Err.ensures.says.0 c.in-Err.ensures.says.1
