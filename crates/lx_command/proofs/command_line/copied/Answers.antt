use Rattle.std.proofs.Common.{take}
use Rattle.lx_command.proofs.Edges.{argument_from, copied_none}
use Rattle.lx_command.proofs.command_line.copied.Goals as goal

pub returns-in_ok-passed-in-Ok : goal.returns-in_ok-passed-in-Ok
returns-in_ok-passed-in-Ok g c =
    argument_from (g.G.Given.words c.args.given.now) c.args.place (take c.in-Ok.len c.copy.new.buffer) c.in_ok-passed-in-Ok.field-0
    c.in-Ok.ensures.copies c.in_ok-passed-in-Ok.ensures

pub returns-in-Err : goal.returns-in-Err
returns-in-Err g c = copied_none (g.G.Given.words c.args.given.now) c.args.place c.copy.new.buffer c.in-Err.fault c.in-Err.ensures.copies
