-- Signals as a description makes them, and whose they are.
use Rattle.std.specs.Prelude.{ℕ, List, [], ◌∷◌, ◌++◌, length, Option, Some, None}
use Rattle.lx_text.specs.declared.faults.LimitKind.TheVariants as limit
use Rattle.lx_fhdl.specs.declared.design.Signal.{Signal}
use Rattle.lx_fhdl.specs.declared.exprs.SigId.{SigId}
use Rattle.lx_fhdl.specs.declared.exprs.Expr.TheVariants as expr
use Rattle.lx_shaped.specs.Making.{make_signal}
use Rattle.lx_state.specs.declared.machine.What.TheVariants as what
use Rattle.lx_state.specs.declared.values.Value.{Value}
use Rattle.lx_state.specs.declared.values.Value.TheVariants as value
use Rattle.lx_state.specs.Naming.{object_made}
use Rattle.lx_state.specs.Step.{Step, give, reads, ◌>>=◌}
use Rattle.lx_state.specs.Work.{one_more}
use Rattle.lx_objects.specs.Exprs.{put, put_expr}

unfoldable pub put_signal : ℕ → Signal → Step SigId
put_signal line x m = put line (make_signal x m.shaped).0 (make_signal x m.shaped).1 m

unfoldable pub keep_owner : ℕ → Option (List ℕ) → Step (Unit {0})
keep_owner object part m = give tt (record m { owners = m.owners ++ record { object = object; part = part } ∷ [] })

-- a further signal, which is an object's own, or a part of one
unfoldable pub new_signal : ℕ → Signal → ℕ → Option (List ℕ) → Step SigId
new_signal line x object part m = (do
  _ ← one_more line limit.Signals (length m.shaped.signals)
  id ← put_signal line x
  _ ← keep_owner object part
  give id) m

-- the expression that is a signal
unfoldable pub signal_value : ℕ → SigId → Step Value
signal_value line id = do
  place ← put_expr line (expr.Sig id)
  give (value.Expr place)

-- a signal, which is an object
unfoldable pub signal_made : ℕ → Signal → Option (List ℕ) → Step Value
signal_made line x given = do
  object ← reads (λ m. length m.objects)
  id ← new_signal line x object None
  _ ← object_made (what.Signal id) line given
  signal_value line id

-- a signal that is a part of an object
unfoldable pub part_made : ℕ → Signal → ℕ → List ℕ → Step Value
part_made line x object part = do
  id ← new_signal line x object (Some part)
  signal_value line id
