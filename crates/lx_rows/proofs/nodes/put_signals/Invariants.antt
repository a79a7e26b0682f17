use Rattle.std.proofs.Common.{◌≡◌, ◌++◌, take, map}
use Rattle.lx_fhdl.specs.Instance as instance
use Rattle.lx_fhdl.specs.declared.exprs.Expr.TheVariants as expr
use Rattle.lx_rows.proofs.nodes.put_signals.Given as goal

abbrev pub invariant-loop-signal : goal.invariant-loop-signal
invariant-loop-signal l = l.exprs ≡ l.initial.exprs ++ map (λ x. expr.Sig (instance.the_signal x)) (take l.signal-index l.signals)
