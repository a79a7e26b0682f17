use Rattle.std.proofs.Common.{◌∙◌}
use Rattle.lx_paths.proofs.Each.{next_path}
use Rattle.lx_paths.proofs.paths.signal_paths.Goals as goal

pub loop-signal-preserved : goal.loop-signal-preserved
loop-signal-preserved c = c.in_ok-push.ensures.ok ∙ next_path c.args.machine.now c.loop-signal.signal c.loop-signal.paths c.in_ok-signal_path.field-0 c.loop-signal.invariant c.in_ok-signal_path.ensures
