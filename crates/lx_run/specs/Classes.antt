-- Classes: going through them, and making their modules.
use Rattle.std.specs.Prelude.{◌≡◌, ℕ, zero, suc, Bool, true, false, not, ◌||◌, ◌+◌, ◌-◌, List, [], ◌∷◌, ◌++◌, length, map, codes, slice_get, Option, Some, None, if◌then◌else◌}
use Rattle.std.specs.List.{list_all, list_any}
use Rattle.std.specs.Str.{bytes_eq}
use Rattle.lx_text.specs.declared.faults.LimitKind.TheVariants as limit
use Rattle.lx_text.specs.declared.faults.Kind.TheVariants as kind
use Rattle.lx_value.specs.declared.arguments.Param.{Param}
use Rattle.lx_fhdl.specs.Keeping.{is_distinct}
use Rattle.lx_syntax.specs.Ast as ast
use Rattle.lx_syntax.specs.Ast.{Exprs}
use Rattle.lx_state.specs.declared.values.Value.{Value}
use Rattle.lx_state.specs.declared.values.Value.TheVariants as value
use Rattle.lx_state.specs.declared.machine.Class.{Class}
use Rattle.lx_state.specs.declared.machine.Machine.{Machine}
use Rattle.lx_state.specs.declared.machine.Module.{Module}
use Rattle.lx_state.specs.declared.machine.ModuleKind.{ModuleKind}
use Rattle.lx_state.specs.declared.machine.ModuleKind.TheVariants as bases
use Rattle.lx_state.specs.Changes.{changed}
use Rattle.lx_state.specs.Frames.{enter, leave, or_else, set_param}
use Rattle.lx_state.specs.Step.{Step, give, fault, or_fault, ◌>>=◌}
use Rattle.lx_state.specs.Work.{name_fits}
use Rattle.lx_objects.specs.Modules.{module_made}
use Rattle.lx_objects.specs.Systems.{system_begun}
use Rattle.lx_builtins.specs.Arguments.{argument, bound_to}
use Rattle.lx_run.specs.Calls.{Make}
use Rattle.lx_run.specs.Running.{eval, execs}

-- ---- parameters

abbrev pub is_none : Exprs → Bool
is_none ast.none = true
is_none _ = false

abbrev pub param_of : ast.Param → Param
param_of p = record { name = p.name; by_place = true; required = is_none p.default }

abbrev pub param_name : ast.Param → List ℕ
param_name p = p.name

abbrev pub defaults_of : Option Class → List (Option Value)
defaults_of None = []
defaults_of (Some c) = c.defaults

-- what is given, else the default
unfoldable pub param_value : ℕ → ℕ → List (Option Value) → ℕ → Step Value
param_value line class values at m =
    or_fault (or_else (argument values at) (argument (defaults_of (slice_get m.classes class)) at)) line kind.WrongCount m

unfoldable pub param_bound : ℕ → ℕ → List (Option Value) → ℕ → List ℕ → Step (Unit {0})
param_bound line class values at name = do
  v ← param_value line class values at
  set_param line name v

-- the parameters from this place on
unfoldable pub params_bound : ℕ → ℕ → List (Option Value) → ℕ → List (List ℕ) → Step (Unit {0})
params_bound line class values at [] = give tt
params_bound line class values at (name ∷ names) = do
  _ ← param_bound line class values at name
  params_bound line class values (at + 1) names

-- ---- modules

abbrev pub kind_in : Option Class → Option ModuleKind
kind_in None = None
kind_in (Some c) = Some c.kind

abbrev pub object_in : Option Module → Option ℕ
object_in None = None
object_in (Some x) = Some x.object

-- the body of an `__init__`; parameters are bound on the line of its `def`
unfoldable pub body_run : Make → ℕ → ast.Class → List (Option Value) → Value → Step (Unit {0})
body_run make at c values self = do
  _ ← set_param c.init_line (codes "self") self
  _ ← params_bound c.init_line at values 0 (map param_name c.params)
  execs make c.body

unfoldable pub class_kind : ℕ → ℕ → Step ModuleKind
class_kind line at m = or_fault (kind_in (slice_get m.classes at)) line kind.WrongKind m

unfoldable pub module_object : ℕ → ℕ → Step ℕ
module_object line made m = or_fault (object_in (slice_get m.modules made)) line kind.WrongKind m

-- a further module of the class at a place, and its object
unfoldable pub module_begun : ℕ → ℕ → Step (ℕ × ℕ)
module_begun line at = do
  kind_ ← class_kind line at
  made ← module_made line at kind_
  object ← module_object line made
  give (made, object)

-- a module of the class at a place
unfoldable pub module_run : Make → ℕ → ℕ → ast.Class → List (Option Value) → Step Value
module_run make line at c values = do
  begun ← module_begun line at
  frame ← enter (Some begun.0) at
  _ ← body_run make at c values (value.Object begun.1)
  _ ← leave frame
  give (value.Object begun.1)

-- ---- calls of classes

abbrev pub Run : Type 0
Run = ℕ → ℕ → ast.Class → List (Option Value) → Step Value

-- the arguments are bound before anything is made
unfoldable pub class_called : List ast.Class → Run → Make
class_called classes run line at args = do
  c ← or_fault (slice_get classes at) line kind.WrongKind
  values ← bound_to line (map param_of c.params) args
  run line at c values

-- so many may still be made one within another
unfoldable pub make_within : List ast.Class → ℕ → Make
make_within classes zero = class_called classes (λ line at c values. fault line (kind.Limit limit.Depth))
make_within classes (suc levels) = class_called classes (module_run (make_within classes levels))

-- ---- going through the classes

abbrev pub with_lite : ModuleKind → ModuleKind
with_lite bases.Soc = bases.Soc
with_lite bases.Lite = bases.Lite
with_lite bases.Plain = bases.Lite

-- only the last class may be a system
abbrev pub as_system : ℕ → Bool → Step ModuleKind
as_system line true = give bases.Soc
as_system line false = fault line kind.WrongKind

abbrev pub with_base : Bool → ast.Base → ModuleKind → Step ModuleKind
with_base last base so_far =
    if bytes_eq base.name (codes "Module") || bytes_eq base.name (codes "AutoCSR") then give so_far
    else (if bytes_eq base.name (codes "LiteXModule") then give (with_lite so_far)
    else (if bytes_eq base.name (codes "SoCCore") then as_system base.line last
    else fault base.line (kind.UnknownName base.name)))

unfoldable pub bases_run : Bool → ModuleKind → List ast.Base → Step ModuleKind
bases_run last so_far [] = give so_far
bases_run last so_far (base ∷ rest) = do
  more ← with_base last base so_far
  bases_run last more rest

unfoldable pub default_run : Make → Exprs → Step (Option Value)
default_run make ast.none = give None
default_run make (ast.more e es) = do
  v ← eval make e
  give (Some v)

unfoldable pub defaults_run : Make → List ast.Param → Step (List (Option Value))
defaults_run make [] = give []
defaults_run make (p ∷ ps) = do
  v ← default_run make p.default
  vs ← defaults_run make ps
  give (v ∷ vs)

abbrev pub are_params : List ast.Param → Bool
are_params params = is_distinct (codes "self" ∷ map param_name params)

unfoldable pub params_fit : ast.Class → Step (Unit {0})
params_fit c m = if are_params c.params then give tt m else fault c.init_line kind.WrongCount m

-- a further class, which no module is of yet
unfoldable pub keep_class : Class → Step ℕ
keep_class c m = give (length m.classes) (record m { classes = m.classes ++ c ∷ [] })

abbrev pub with_defaults : List (Option Value) → Class → Class
with_defaults defaults c = record c { defaults = defaults }

unfoldable pub keep_defaults : ℕ → List (Option Value) → Step (Unit {0})
keep_defaults at defaults m = give tt (record m { classes = changed m.classes at (with_defaults defaults) })

-- a class sees those above it; its defaults see no parameter and no `self`
unfoldable pub class_defaults : Make → ℕ → ast.Class → Step (Unit {0})
class_defaults make at c = do
  frame ← enter None at
  defaults ← defaults_run make c.params
  _ ← leave frame
  keep_defaults at defaults

-- it is kept before its defaults are run: so modules of the last class that is kept are the top alone
unfoldable pub class_run : Make → Bool → ast.Class → Step (Unit {0})
class_run make last c = do
  _ ← name_fits c.line c.name
  kind_ ← bases_run last bases.Plain c.bases
  _ ← params_fit c
  at ← keep_class (record { name = c.name; kind = kind_; defaults = [] })
  class_defaults make at c

abbrev pub is_end : {A : Type 0} → List A → Bool
is_end [] = true
is_end (x ∷ xs) = false

unfoldable pub classes_run : Make → List ast.Class → Step (Unit {0})
classes_run make [] = give tt
classes_run make (c ∷ cs) = do
  _ ← class_run make (is_end cs) c
  classes_run make cs

-- ---- the top

abbrev pub all_have_defaults : List ast.Param → Bool
all_have_defaults params = list_all (λ p. not (is_none p.default)) params

unfoldable pub top_made : List ast.Class → ℕ → ast.Class → Step Value
top_made classes at c m = if all_have_defaults c.params then module_run (make_within classes 63) c.line at c [] m else fault c.init_line kind.WrongCount m

abbrev pub is_system_base : ast.Base → Bool
is_system_base base = bytes_eq base.name (codes "SoCCore")

abbrev pub is_system_class : Option ast.Class → Bool
is_system_class None = false
is_system_class (Some c) = list_any is_system_base c.bases

-- a system begins before anything is run
abbrev pub begun : Bool → Step (Unit {0})
begun true = system_begun
begun false = give tt

-- The classes in their order, and the last one's module.
unfoldable pub description_run : List ast.Class → Step Value
description_run classes = do
  _ ← begun (is_system_class (slice_get classes (length classes - 1)))
  _ ← classes_run (make_within classes 64) classes
  c ← or_fault (slice_get classes (length classes - 1)) 0 kind.NoTop
  top_made classes (length classes - 1) c
