-- Event managers and their sources: what `EventManager()` and the sources' calls make, and what is bound to a manager.
use Rattle.std.specs.Prelude.{ℕ, pos, true, false, List, [], ◌∷◌, ◌++◌, length, codes, slice_get, Option, Some, None}
use Rattle.lx_text.specs.declared.faults.LimitKind.TheVariants as limit
use Rattle.lx_text.specs.declared.faults.Kind.TheVariants as kind
use Rattle.lx_names.specs.Tables.{with_name}
use Rattle.lx_fhdl.specs.declared.exprs.SigId.{SigId}
use Rattle.lx_description.specs.Wires.{given, source_wires}
use Rattle.lx_description.specs.declared.registers.SourceKind.{SourceKind}
use Rattle.lx_state.specs.declared.machine.Machine.{Machine}
use Rattle.lx_state.specs.declared.machine.ManagerState.{ManagerState}
use Rattle.lx_state.specs.declared.machine.Object.{Object}
use Rattle.lx_state.specs.declared.machine.SourceState.{SourceState}
use Rattle.lx_state.specs.declared.machine.What.{What}
use Rattle.lx_state.specs.declared.machine.What.TheVariants as what
use Rattle.lx_state.specs.declared.machine.Binding.TheVariants as binding
use Rattle.lx_state.specs.declared.values.Value.{Value}
use Rattle.lx_state.specs.declared.values.Value.TheVariants as value
use Rattle.lx_state.specs.Changes.{changed}
use Rattle.lx_state.specs.Naming.{bind_name, object_made}
use Rattle.lx_state.specs.Step.{Step, give, or_fault, reads, ◌>>=◌}
use Rattle.lx_state.specs.Work.{name_fits, one_more}
use Rattle.lx_objects.specs.Fsms.{keep_stand_in, one_bit}
use Rattle.lx_objects.specs.Registers.{pin_reads, pin_signals, wire_made, wires_made}
use Rattle.lx_objects.specs.Signals.{new_signal}
use Rattle.lx_objects.specs.declared.registers.Pin.{Pin}

-- ---- sources

abbrev pub source_parts : List (List ℕ)
source_parts = codes "trigger" ∷ codes "status" ∷ codes "pending" ∷ codes "clear" ∷ []

abbrev pub new_source : ℕ → SourceKind → List Pin → SourceState
new_source object kind_ pins = record { object = object; kind = kind_; signals = pin_signals pins; reads = pin_reads pins; bound = false }

unfoldable pub keep_source : SourceState → Step (Unit {0})
keep_source s m = give tt (record m { sources = m.sources ++ s ∷ [] })

-- `EventSourcePulse()`, `EventSourceProcess(..)`, `EventSourceLevel()`
unfoldable pub source_made : ℕ → SourceKind → Step Value
source_made line kind_ = do
  k ← reads (λ m. length m.sources)
  object ← object_made (what.Source k) line None
  pins ← wires_made line object source_wires source_parts
  _ ← keep_source (new_source object kind_ pins)
  give (value.Object object)

-- ---- managers

-- a manager without sources
abbrev pub new_manager : ℕ → ℕ → Pin → SigId → ManagerState
new_manager object place irq enable = record { object = object; «module» = place; sources = []; names = []; irq = irq.signal; read = irq.read; enable = enable }

unfoldable pub keep_manager : ManagerState → Step (Unit {0})
keep_manager x m = give tt (record m { managers = m.managers ++ x ∷ [] })

-- `EventManager()`; `enable` has one bit until all sources are known, and is of no line
unfoldable pub manager_made : ℕ → Step Value
manager_made line = do
  k ← reads (λ m. length m.managers)
  object ← object_made (what.Manager k) line None
  place ← keep_stand_in object
  irq ← wire_made line object (given 1 (pos 0)) (codes "irq")
  enable ← new_signal line (one_bit 0) object (Some (codes "enable"))
  _ ← keep_manager (new_manager object place irq enable)
  give (value.Object object)

-- ---- binding a source to a manager

abbrev pub free_source : ℕ → Option SourceState → Option ℕ
free_source k None = None
free_source k (Some s) = elim s.bound as (λ _. Option ℕ) [ true ↦ None | false ↦ Some k ]

abbrev pub source_of_what : Machine → What → Option ℕ
source_of_what m (what.Source k) = free_source k (slice_get m.sources k)
source_of_what m _ = None

abbrev pub source_of_object : Machine → Option Object → Option ℕ
source_of_object m None = None
source_of_object m (Some o) = source_of_what m o.what

-- the source that a value is, where no manager has it yet
abbrev pub source_of : Machine → Value → Option ℕ
source_of m (value.Object at) = source_of_object m (slice_get m.objects at)
source_of m _ = None

unfoldable pub some_source : ℕ → Value → Step ℕ
some_source line v m = or_fault (source_of m v) line kind.WrongKind m

abbrev pub with_source : List ℕ → ℕ → ManagerState → ManagerState
with_source name s x = record x { sources = x.sources ++ s ∷ []; names = with_name x.names name s }

abbrev pub bound_source : SourceState → SourceState
bound_source s = record s { bound = true }

unfoldable pub put_source : ℕ → List ℕ → ℕ → Step (Unit {0})
put_source k name s m = give tt (record m { managers = changed m.managers k (with_source name s); sources = changed m.sources s bound_source })

abbrev pub source_count : Option ManagerState → ℕ
source_count None = 0
source_count (Some x) = length x.sources

-- `manager.name = v`: sources alone, each once, at most 32
unfoldable pub bind_source : ℕ → ℕ → List ℕ → Value → Step (Unit {0})
bind_source line k name v m = (do
  s ← some_source line v
  _ ← one_more line limit.Sources (source_count (slice_get m.managers k))
  _ ← name_fits line name
  _ ← bind_name binding.Attribute name v
  put_source k name s) m
