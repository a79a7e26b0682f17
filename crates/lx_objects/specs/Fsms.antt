-- State machines: what `FSM(..)` makes, and what their methods add.
use Rattle.std.specs.Prelude.{ℕ, pos, false, if◌then◌else◌, List, [], ◌∷◌, ◌++◌, length, codes, slice_get, Option, Some, None, is_some}
use Rattle.lx_text.specs.declared.faults.LimitKind.TheVariants as limit
use Rattle.lx_text.specs.declared.faults.Kind.TheVariants as kind
use Rattle.lx_num.specs.Ints.{unsigned}
use Rattle.lx_names.specs.Tables.{look_up, with_name}
use Rattle.lx_fhdl.specs.declared.design.Signal.{Signal}
use Rattle.lx_fhdl.specs.declared.exprs.SigId.{SigId}
use Rattle.lx_fhdl.specs.declared.exprs.Expr.TheVariants as expr
use Rattle.lx_state.specs.declared.machine.Fsm.{Fsm}
use Rattle.lx_state.specs.declared.machine.Leaves.TheVariants as leaves
use Rattle.lx_state.specs.declared.machine.Module.{Module}
use Rattle.lx_state.specs.declared.machine.ModuleKind.TheVariants as bases
use Rattle.lx_state.specs.declared.machine.Ongoing.{Ongoing}
use Rattle.lx_state.specs.declared.machine.What.TheVariants as what
use Rattle.lx_state.specs.declared.values.Value.{Value}
use Rattle.lx_state.specs.declared.values.Value.TheVariants as value
use Rattle.lx_state.specs.Changes.{changed}
use Rattle.lx_state.specs.Naming.{object_made}
use Rattle.lx_state.specs.Step.{Step, give, fault, or_fault, reads, ◌>>=◌}
use Rattle.lx_state.specs.Work.{one_more}
use Rattle.lx_objects.specs.Domains.{mention}
use Rattle.lx_objects.specs.Exprs.{put_expr}
use Rattle.lx_objects.specs.Modules.{new_module}
use Rattle.lx_objects.specs.Signals.{new_signal}
use Rattle.lx_objects.specs.Statements.{statements_of}

-- ---- `FSM(..)`

-- a signal of one unsigned bit
abbrev pub one_bit : ℕ → Signal
one_bit line = record { path = []; shape = unsigned 1; reset = pos 0; reset_less = false; by_bus = false; line = line }

-- what stands for an FSM or an event manager among the modules: 64 modules may stand above it, so it is no level itself
abbrev pub stand_in : ℕ → Module
stand_in object = record (new_module object 0 bases.Plain) { room = 64 }

unfoldable pub keep_stand_in : ℕ → Step ℕ
keep_stand_in object m = give (length m.modules) (record m { modules = m.modules ++ stand_in object ∷ [] })

-- an FSM without states
abbrev pub new_fsm : ℕ → ℕ → SigId → Option (List ℕ) → Fsm
new_fsm object place state start = record { object = object; «module» = place; state = state; start = start; names = []; bodies = []; asked = [] }

unfoldable pub keep_fsm : Fsm → Step (Unit {0})
keep_fsm f m = give tt (record m { fsms = m.fsms ++ f ∷ [] })

-- the signal `state` has one bit until all states are known
unfoldable pub fsm_made : ℕ → Option (List ℕ) → Step Value
fsm_made line start = do
  k ← reads (λ m. length m.fsms)
  object ← object_made (what.Fsm k) line None
  place ← keep_stand_in object
  state ← new_signal line (one_bit line) object None
  _ ← mention line (codes "sys")
  _ ← keep_fsm (new_fsm object place state start)
  give (value.Object object)

-- the FSM at a place is changed
unfoldable pub change_fsm : ℕ → (Fsm → Fsm) → Step (Unit {0})
change_fsm k f m = give tt (record m { fsms = changed m.fsms k f })

-- ---- `act`

-- one state more may be too many
abbrev pub fits_among : ℕ → List ℕ → Option Fsm → Step (Unit {0})
fits_among line name None m = fault line kind.WrongKind m
fits_among line name (Some f) m = if is_some (look_up f.names name) then give tt m else one_more line limit.States (length f.names) m

unfoldable pub state_fits : ℕ → ℕ → List ℕ → Step (Unit {0})
state_fits line k name m = fits_among line name (slice_get m.fsms k) m

abbrev pub with_body : List ℕ → List ℕ → Fsm → Option ℕ → Fsm
with_body name made f None = record f { names = with_name f.names name (length f.bodies); bodies = f.bodies ++ made ∷ [] }
with_body name made f (Some at) = record f { bodies = changed f.bodies at (λ body. body ++ made) }

-- statements stand behind those of their state; a name that no state has is a further state
abbrev pub with_statements : List ℕ → List ℕ → Fsm → Fsm
with_statements name made f = with_body name made f (look_up f.names name)

-- `fsm.act(name, ..)`
unfoldable pub act_made : ℕ → ℕ → List ℕ → List Value → Step Value
act_made line k name values = do
  found ← statements_of leaves.StateStatements line 0 values
  _ ← state_fits line k name
  _ ← change_fsm k (with_statements name found.0)
  give value.Nothing

-- ---- `ongoing`

abbrev pub asked_of : List ℕ → Option Fsm → Option Ongoing
asked_of name None = None
asked_of name (Some f) = look_up f.asked name

abbrev pub object_of_fsm : Option Fsm → Option ℕ
object_of_fsm None = None
object_of_fsm (Some f) = Some f.object

unfoldable pub fsm_object : ℕ → ℕ → Step ℕ
fsm_object line k m = or_fault (object_of_fsm (slice_get m.fsms k)) line kind.WrongKind m

abbrev pub with_asked : List ℕ → Ongoing → Fsm → Fsm
with_asked name asked f = record f { asked = with_name f.asked name asked }

unfoldable pub new_ongoing : ℕ → ℕ → List ℕ → Step Value
new_ongoing line k name = do
  object ← fsm_object line k
  signal ← new_signal line (one_bit line) object (Some name)
  read ← put_expr line (expr.Sig signal)
  _ ← change_fsm k (with_asked name (record { signal = signal; read = read; line = line }))
  give (value.Expr read)

abbrev pub ongoing_from : Option Ongoing → ℕ → ℕ → List ℕ → Step Value
ongoing_from (Some o) line k name = give (value.Expr o.read)
ongoing_from None line k name = new_ongoing line k name

-- `fsm.ongoing(name)`; a later call with this name gives what the first one gave
unfoldable pub ongoing_made : ℕ → ℕ → List ℕ → Step Value
ongoing_made line k name m = ongoing_from (asked_of name (slice_get m.fsms k)) line k name m
