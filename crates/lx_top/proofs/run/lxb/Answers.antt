use Rattle.lx_command.specs.Commands.{asked_of, command_of}
use Rattle.lx_command.specs.World.{world}
use Rattle.lx_top.proofs.Endings.{ends_delivered}
use Rattle.lx_top.proofs.run.lxb.Goals as goal

pub returns-in-Ok-clause-ends : goal.returns-in-Ok-clause-ends
returns-in-Ok-clause-ends g c =
    ends_delivered (command_of c.args.words.now) (asked_of c.in-Some.command)
    (world (g.S.Source.files c.args.src.now) (g.S.Source.faults c.args.src.now) (g.K.Sink.stored c.args.out.now) (g.K.Sink.faults c.args.out.now) (g.C.Console.said c.args.con.now) (g.C.Console.faults c.args.con.now) (g.E.Console.said c.args.err.now) (g.E.Console.faults c.args.err.now))
    (world (g.S.Source.files c.make.new.src) (g.S.Source.faults c.make.new.src) (g.K.Sink.stored c.deliver.new.out) (g.K.Sink.faults c.deliver.new.out) (g.C.Console.said c.deliver.new.con) (g.C.Console.faults c.deliver.new.con) (g.E.Console.said c.deliver.new.err) (g.E.Console.faults c.deliver.new.err))
    c.in-Ok.texts c.deliver.result c.in-Some.ensures c.in-Ok.ensures.makes
    (c.deliver.ensures (g.S.Source.files c.args.src.now) (g.S.Source.files c.make.new.src) (g.S.Source.faults c.args.src.now) (g.S.Source.faults c.make.new.src))
