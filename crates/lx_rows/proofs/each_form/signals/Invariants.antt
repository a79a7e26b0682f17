use Rattle.std.proofs.Common.{◌≡◌, take, map, ◌∷◌, []}
use Rattle.lx_fhdl.specs.Instance as instance
use Rattle.lx_rows.proofs.each_form.signals.Given as goal

abbrev pub invariant-loop-row : goal.invariant-loop-row
invariant-loop-row l = l.signals ≡ map (λ row. instance.signal_of (row.name ∷ []) row.bits row.reset) (take l.row-index l.rows)
