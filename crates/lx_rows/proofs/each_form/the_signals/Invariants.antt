use Rattle.std.proofs.Common.{◌≡◌, take, map}
use Rattle.lx_fhdl.specs.Instance as instance
use Rattle.lx_rows.proofs.each_form.the_signals.Given as goal

abbrev pub invariant-loop-number : goal.invariant-loop-number
invariant-loop-number l = l.ids ≡ map instance.the_signal (take l.number-index l.numbers)
