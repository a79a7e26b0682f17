-- State machines: `FSM`, `NextState`, `NextValue`, and the methods of FSMs.
use Rattle.std.specs.Prelude.{ℕ, List, [], ◌∷◌, codes, Option, Some, None}
use Rattle.lx_text.specs.declared.faults.Kind.TheVariants as kind
use Rattle.lx_value.specs.declared.arguments.Param.{Param}
use Rattle.lx_state.specs.declared.values.Value.{Value}
use Rattle.lx_state.specs.declared.values.Value.TheVariants as value
use Rattle.lx_state.specs.Lists.{text_of}
use Rattle.lx_state.specs.Step.{Step, give, fault, ◌>>=◌}
use Rattle.lx_state.specs.Work.{name_fits}
use Rattle.lx_objects.specs.Fsms.{act_made, fsm_made, ongoing_made}
use Rattle.lx_objects.specs.Statements.{next_state_made}
use Rattle.lx_ops.specs.Targets.{assign_next}
use Rattle.lx_builtins.specs.Arguments.{argument, bound_to, one, optional, two, unnamed}
use Rattle.lx_builtins.specs.declared.arguments.Arguments.{Arguments}

-- the name of a state: any text of at most as many bytes as a name may have
unfoldable pub state_name : ℕ → Value → Step (List ℕ)
state_name line v = do
  name ← text_of line v
  _ ← name_fits line name
  give name

-- ---- `FSM`

abbrev pub fsm_params : List Param
fsm_params = optional (codes "reset_state") ∷ []

abbrev pub start_from : ℕ → Value → Step (Option (List ℕ))
start_from line value.Nothing m = give None m
start_from line v m = (state_name line v >>= λ name. give (Some name)) m

-- None is as none at all
abbrev pub start_of : ℕ → Option Value → Step (Option (List ℕ))
start_of line None m = give None m
start_of line (Some v) m = start_from line v m

-- `FSM(reset_state=None)`
unfoldable pub fsm_called : ℕ → Arguments → Step Value
fsm_called line args = do
  values ← bound_to line fsm_params args
  start ← start_of line (argument values 0)
  fsm_made line start

-- ---- methods

unfoldable pub act_under : ℕ → ℕ → Value → List Value → Step Value
act_under line at v values = do
  name ← state_name line v
  act_made line at name values

abbrev pub act_from : ℕ → ℕ → List Value → Step Value
act_from line at [] m = fault line kind.WrongCount m
act_from line at (v ∷ values) m = act_under line at v values m

-- `fsm.act(name, ..)`
unfoldable pub act_called : ℕ → ℕ → Arguments → Step Value
act_called line at args = do
  values ← unnamed line args
  act_from line at values

-- `fsm.ongoing(name)`
unfoldable pub ongoing_called : ℕ → ℕ → Arguments → Step Value
ongoing_called line at args = do
  v ← one line (codes "name") args
  name ← state_name line v
  ongoing_made line at name

-- ---- statements of a state

abbrev pub next_state_from : ℕ → Value → Step Value
next_state_from line (value.Text at) m = next_state_made line at m
next_state_from line _ m = fault line kind.WrongKind m

-- `NextState(name)`
unfoldable pub next_state_called : ℕ → Arguments → Step Value
next_state_called line args = do
  v ← one line (codes "name") args
  _ ← state_name line v
  next_state_from line v

-- `NextValue(signal, e)`
unfoldable pub next_value_called : ℕ → Arguments → Step Value
next_value_called line args = do
  both ← two line (codes "signal") (codes "e") args
  assign_next line both.0 both.1
