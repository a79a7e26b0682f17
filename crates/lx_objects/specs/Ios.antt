-- Lists of signals.
use Rattle.std.specs.Prelude.{◌≡◌, ℕ, List, [], ◌∷◌, slice_get, Option, Some, None}
use Rattle.lx_text.specs.declared.faults.Kind.TheVariants as kind
use Rattle.lx_fhdl.specs.declared.exprs.SigId.{SigId}
use Rattle.lx_fhdl.specs.declared.exprs.Expr.{Expr}
use Rattle.lx_fhdl.specs.declared.exprs.Expr.TheVariants as expr
use Rattle.lx_state.specs.declared.machine.Machine.{Machine}
use Rattle.lx_state.specs.declared.values.Value.{Value}
use Rattle.lx_state.specs.declared.values.Value.TheVariants as value
use Rattle.lx_state.specs.Lists.{list_of}
use Rattle.lx_state.specs.Step.{Step, give, or_fault, ◌>>=◌}

abbrev pub signal_node : Option Expr → Option SigId
signal_node (Some (expr.Sig x)) = Some x
signal_node _ = None

-- the signal that a value is
abbrev pub signal_at : Machine → Value → Option SigId
signal_at m (value.Expr id) = signal_node (slice_get m.shaped.exprs id.place)
signal_at m _ = None

unfoldable pub signal_of : ℕ → Value → Step SigId
signal_of line v m = or_fault (signal_at m v) line kind.WrongKind m

-- all are signals
unfoldable pub signals_of : ℕ → List Value → Step (List SigId)
signals_of line [] = give []
signals_of line (v ∷ vs) = do
  x ← signal_of line v
  xs ← signals_of line vs
  give (x ∷ xs)

-- the signals of a list, as of the top's `ios`
unfoldable pub ios_of : ℕ → Value → Step (List SigId)
ios_of line v = do
  values ← list_of line v
  signals_of line values
