-- Built-in names and methods of statements and modules.
use Rattle.std.specs.Prelude.{ℕ, Bool, true, false, ◌||◌, if◌then◌else◌, List, [], ◌∷◌, slice_get, Option, Some, None, is_some, codes}
use Rattle.lx_text.specs.declared.faults.Kind.TheVariants as kind
use Rattle.lx_fhdl.specs.Below.{ExprId}
use Rattle.lx_state.specs.declared.machine.Machine.{Machine}
use Rattle.lx_state.specs.declared.machine.Module.{Module}
use Rattle.lx_state.specs.declared.values.Value.{Value}
use Rattle.lx_state.specs.declared.values.Value.TheVariants as value
use Rattle.lx_state.specs.Lists.{pairs_of}
use Rattle.lx_state.specs.Step.{Step, give, fault, ◌>>=◌}
use Rattle.lx_objects.specs.Cases.{case_made}
use Rattle.lx_objects.specs.Modules.{module_of}
use Rattle.lx_objects.specs.Statements.{elif_made, else_made, if_made}
use Rattle.lx_ops.specs.Attributes.{attribute_of, is_system}
use Rattle.lx_ops.specs.Exprs.{expr_of}
use Rattle.lx_ops.specs.Places.{bind_at, manager_of}
use Rattle.lx_ops.specs.Targets.{assign}
use Rattle.lx_ops.specs.declared.places.Holder.{Holder}
use Rattle.lx_ops.specs.declared.places.Holder.TheVariants as holder
use Rattle.lx_ops.specs.declared.places.Part.{Part}
use Rattle.lx_builtins.specs.Arguments.{identifier_of, no_argument, one, three, two, unnamed}
use Rattle.lx_builtins.specs.Systems.{options_called}
use Rattle.lx_builtins.specs.declared.arguments.Arguments.{Arguments}

-- ---- statements

-- `e.eq(v)`
unfoldable pub eq_called : ℕ → ExprId → Arguments → Step Value
eq_called line id args = do
  v ← one line (codes "e") args
  assign line (value.Expr id) v

unfoldable pub if_under : ℕ → Value → List Value → Step Value
if_under line c values = do
  condition ← expr_of line c
  if_made line condition values

abbrev pub if_from : ℕ → List Value → Step Value
if_from line [] m = fault line kind.WrongCount m
if_from line (c ∷ values) m = if_under line c values m

-- `If(c, ..)`
unfoldable pub if_called : ℕ → Arguments → Step Value
if_called line args = do
  values ← unnamed line args
  if_from line values

unfoldable pub elif_under : ℕ → ℕ → Value → List Value → Step Value
elif_under line before c values = do
  condition ← expr_of line c
  elif_made line before condition values

abbrev pub elif_from : ℕ → ℕ → List Value → Step Value
elif_from line before [] m = fault line kind.WrongCount m
elif_from line before (c ∷ values) m = elif_under line before c values m

-- `i.Elif(c, ..)`
unfoldable pub elif_called : ℕ → ℕ → Arguments → Step Value
elif_called line before args = do
  values ← unnamed line args
  elif_from line before values

-- `i.Else(..)`
unfoldable pub else_called : ℕ → ℕ → Arguments → Step Value
else_called line before args = do
  values ← unnamed line args
  else_made line before values

-- `Case(e, d)`
unfoldable pub case_called : ℕ → Arguments → Step Value
case_called line args = do
  both ← two line (codes "e") (codes "d") args
  on ← expr_of line both.0
  pairs ← pairs_of line both.1
  case_made line on pairs

-- ---- attributes

-- a fragment, or the first argument
abbrev pub held_by : Option Part → Value → Holder
held_by (Some p) o = holder.Part p
held_by None o = holder.Plain o

-- attributes are bound on modules and event managers
abbrev pub can_hold : Machine → Holder → Bool
can_hold m (holder.Plain o) = is_some (module_of m o) || is_some (manager_of m o)
can_hold m (holder.Part p) = true

unfoldable pub holds_attributes : ℕ → Holder → Step (Unit {0})
holds_attributes line h m = if can_hold m h then give tt m else fault line kind.WrongKind m

unfoldable pub setattr_on : ℕ → Holder → Value → Value → Step Value
setattr_on line h t v = do
  _ ← holds_attributes line h
  name ← identifier_of line t
  _ ← bind_at line h name v
  give value.Nothing

-- `setattr(o, t, v)`
unfoldable pub setattr_called : ℕ → Arguments → Step Value
setattr_called line args = do
  given ← three line (codes "o") (codes "t") (codes "v") args
  setattr_on line (held_by args.part given.first) given.second given.third

-- `getattr(o, t)`
unfoldable pub getattr_called : ℕ → Arguments → Step Value
getattr_called line args = do
  both ← two line (codes "o") (codes "t") args
  name ← identifier_of line both.1
  attribute_of line both.0 name

-- ---- `super`

abbrev pub super_of : ℕ → Option ℕ → Step Value
super_of line None m = fault line kind.WrongKind m
super_of line (Some at) m = give (value.Super at) m

unfoldable pub this_super : ℕ → Step Value
this_super line m = super_of line m.frame.this m

-- `super()`; no default has one
unfoldable pub super_called : ℕ → Arguments → Step Value
super_called line args = do
  _ ← no_argument line args
  this_super line

abbrev pub is_system_there : Option Module → Bool
is_system_there None = false
is_system_there (Some x) = is_system x.kind

unfoldable pub plain_init : ℕ → Arguments → Step Value
plain_init line args = do
  _ ← no_argument line args
  give value.Nothing

-- `super().__init__()`, with the options of a system
unfoldable pub init_called : ℕ → ℕ → Arguments → Step Value
init_called line at args m = if is_system_there (slice_get m.modules at) then options_called line args m else plain_init line args m
