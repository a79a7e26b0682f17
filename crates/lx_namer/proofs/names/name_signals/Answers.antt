use Rattle.std.proofs.Common.{arith}
use Rattle.lx_namer.specs.Names.{taken_first}
use Rattle.lx_namer.proofs.Given.{signal_next}
use Rattle.lx_namer.proofs.Marked.{marked_port}
use Rattle.lx_namer.proofs.names.name_signals.Goals as goal

pub name_signal-requires : goal.name_signal-requires
name_signal-requires c = marked_port c.args.design.now c.args.marks.now c.loop-x.x c.requires.marks (omega arith)

pub loop-x-preserved : goal.loop-x-preserved
loop-x-preserved c = signal_next c.args.design.now (taken_first c.args.design.now) c.loop-x.x _ _ c.loop-x.invariant c.in_ok-name_signal.ensures
