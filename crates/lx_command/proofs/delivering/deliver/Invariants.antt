use Rattle.std.proofs.Common.{◌≡◌, ◌≤◌, take}
use Rattle.lx_outside.specs.Calls.{Gains}
use Rattle.lx_command.proofs.delivering.deliver.Given as goal

abbrev pub invariant-loop-file : goal.invariant-loop-file
invariant-loop-file g l = record {
  stored : Gains (g.K.Sink.stored l.initial.out) (g.K.Sink.stored l.out) (take l.file-index l.file-items);
  rising : g.K.Sink.faults l.initial.out ≤ g.K.Sink.faults l.out;
  files : l.file-items ≡ l.texts.files;
  said : g.E.Console.said l.err ≡ g.E.Console.said l.initial.err;
  faults : g.E.Console.faults l.err ≡ g.E.Console.faults l.initial.err;
}
