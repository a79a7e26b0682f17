use Rattle.std.proofs.Common.{◌≡◌, ◌++◌, take, map}
use Rattle.lx_fhdl.specs.Instance as instance
use Rattle.lx_fhdl.specs.declared.stmts.Target.TheVariants as target
use Rattle.lx_rows.proofs.nodes.put_targets.Given as goal

abbrev pub invariant-loop-signal : goal.invariant-loop-signal
invariant-loop-signal l = l.targets ≡ l.initial.targets ++ map (λ x. target.Whole (instance.the_signal x)) (take l.signal-index l.signals)
