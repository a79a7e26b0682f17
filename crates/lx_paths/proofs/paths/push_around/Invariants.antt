use Rattle.std.proofs.Common.{◌≡◌, ◌-◌}
use Rattle.lx_paths.proofs.Around.{named_around}
use Rattle.lx_paths.proofs.paths.push_around.Given as goal

abbrev pub invariant-loop-level : goal.invariant-loop-level
invariant-loop-level l = named_around l.machine (64 - l._level) l.inner l.names.items ≡ named_around l.machine 64 l.object l.initial.names.items
