-- Event managers and sources of events.
use Rattle.std.specs.Prelude.{ℕ, if◌then◌else◌, List, [], ◌∷◌, Option, Some, None, codes}
use Rattle.std.specs.Str.{bytes_eq}
use Rattle.lx_text.specs.declared.faults.Kind.TheVariants as kind
use Rattle.lx_value.specs.declared.arguments.Param.{Param}
use Rattle.lx_description.specs.declared.registers.SourceKind.{SourceKind}
use Rattle.lx_description.specs.declared.registers.SourceKind.TheVariants as source
use Rattle.lx_state.specs.declared.values.Value.{Value}
use Rattle.lx_state.specs.declared.values.Value.TheVariants as value
use Rattle.lx_state.specs.Lists.{text_of}
use Rattle.lx_state.specs.Step.{Step, give, or_fault, ◌>>=◌}
use Rattle.lx_objects.specs.Events.{manager_made, source_made}
use Rattle.lx_builtins.specs.Arguments.{argument, bound_to, no_argument, optional}
use Rattle.lx_builtins.specs.declared.arguments.Arguments.{Arguments}

-- `EventManager()`
unfoldable pub event_manager_called : ℕ → Arguments → Step Value
event_manager_called line args = do
  _ ← no_argument line args
  manager_made line

-- `finalize()` of an event manager, which has no effect
unfoldable pub finalize_called : ℕ → Arguments → Step Value
finalize_called line args = do
  _ ← no_argument line args
  give value.Nothing

-- ---- sources

-- `EventSourcePulse()` and `EventSourceLevel()`
unfoldable pub source_called : ℕ → SourceKind → Arguments → Step Value
source_called line kind_ args = do
  _ ← no_argument line args
  source_made line kind_

abbrev pub process_params : List Param
process_params = optional (codes "edge") ∷ []

abbrev pub edge_named : List ℕ → Option SourceKind
edge_named name =
    if bytes_eq name (codes "falling") then Some source.Falling
    else if bytes_eq name (codes "rising") then Some source.Rising
    else None

unfoldable pub edge_of : ℕ → Value → Step SourceKind
edge_of line v = do
  name ← text_of line v
  or_fault (edge_named name) line kind.WrongKind

abbrev pub edge_or : ℕ → Option Value → Step SourceKind
edge_or line None m = give source.Falling m
edge_or line (Some v) m = edge_of line v m

-- `EventSourceProcess(edge="falling")`
unfoldable pub source_process_called : ℕ → Arguments → Step Value
source_process_called line args = do
  values ← bound_to line process_params args
  edge ← edge_or line (argument values 0)
  source_made line edge
