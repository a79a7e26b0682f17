-- Event managers and their sources, worked by hand.
use Rattle.std.specs.Prelude.{◌≡◌, ℕ, zero, suc, pos, Bool, true, false, List, [], ◌∷◌, map, codes, Some, None, Ok, Err}
use Rattle.lx_text.specs.declared.faults.LimitKind.TheVariants as limit
use Rattle.lx_text.specs.declared.faults.Kind.TheVariants as kind
use Rattle.lx_fhdl.specs.Instance.{the_expr, the_signal}
use Rattle.lx_description.specs.declared.registers.SourceKind.TheVariants as fires
use Rattle.lx_state.specs.declared.machine.Machine.{Machine}
use Rattle.lx_state.specs.declared.machine.ManagerState.{ManagerState}
use Rattle.lx_state.specs.declared.machine.ModuleKind.TheVariants as bases
use Rattle.lx_state.specs.declared.machine.SourceState.{SourceState}
use Rattle.lx_state.specs.declared.machine.What.TheVariants as what
use Rattle.lx_state.specs.declared.values.Value.{Value}
use Rattle.lx_state.specs.declared.values.Value.TheVariants as value
use Rattle.lx_state.specs.Step.{Outcome, Step, give, ◌>>=◌}
use Rattle.lx_state.specs.Worked.{attribute_names, seen, start}
use Rattle.lx_objects.specs.Events.{bind_source, manager_made, source_made}
use Rattle.lx_objects.specs.Modules.{add_modules, module_count, set_attribute}
use Rattle.lx_objects.specs.Worked.{a_module, a_part, an_object, nodes, owners, rooms, submodules}
use Rattle.lx_objects.specs.WorkedMemories.{kinds, signals}
use Rattle.lx_objects.specs.WorkedRegisters.{a_wire}

abbrev pub managers : Machine → List ManagerState
managers m = m.managers

abbrev pub sources : Machine → List SourceState
sources m = m.sources

abbrev pub are_bound : Machine → List Bool
are_bound m = map (λ (s : SourceState). s.bound) m.sources

abbrev pub source_places : Machine → List (List ℕ)
source_places m = map (λ (x : ManagerState). x.sources) m.managers

-- a manager and its first source, of which the object 0 is the manager
abbrev pub with_one : Step (Unit {0})
with_one = manager_made 9 >>= λ _. source_made 9 fires.Level >>= bind_source 9 0 (codes "a")

abbrev pub with_two : Outcome (Unit {0})
with_two = (with_one >>= λ _. source_made 9 fires.Pulse >>= bind_source 9 0 (codes "b")) start

-- a manager that has so many sources, and one that no manager has
abbrev pub places : ℕ → List ℕ
places zero = []
places (suc k) = k ∷ places k

abbrev pub full : ℕ → Machine
full count = record start {
  objects = an_object (what.Source 0) ∷ [];
  managers = record { object = 0; «module» = 0; sources = places count; names = []; irq = the_signal 0; read = the_expr 0; enable = the_signal 1 } ∷ [];
  sources = record { object = 0; kind = fires.Level; signals = []; reads = []; bound = false } ∷ [];
}

-- the source of that machine is bound to its manager
abbrev pub bind_free : List ℕ → Step (Unit {0})
bind_free name = bind_source 9 0 name (value.Object 0)

-- a name of 65 bytes
abbrev pub long_name : List ℕ
long_name = codes "a2345678901234567890123456789012345678901234567890123456789012345"

-- a manager in a `LiteXModule`
abbrev pub within_module : (Value → Step (Unit {0})) → Outcome (Unit {0})
within_module add = (manager_made 9 >>= add) (record start { modules = record (a_module None 63) { kind = bases.Lite } ∷ [] })

-- Of event managers and sources.
pub record AreBound : Type 0 where
  -- a source takes `trigger`
  pub source_signals : seen signals (source_made 9 fires.Rising start) ≡ Ok (a_wire 1 (pos 0) false ∷ a_wire 1 (pos 0) true ∷ a_wire 1 (pos 0) true ∷ a_wire 1 (pos 0) true ∷ [])
  pub source_parts : seen owners (source_made 9 fires.Rising start) ≡ Ok (a_part (codes "trigger") ∷ a_part (codes "status") ∷ a_part (codes "pending") ∷ a_part (codes "clear") ∷ [])
  pub source : seen sources (source_made 9 fires.Rising start) ≡ Ok (record { object = 0; kind = fires.Rising; signals = the_signal 0 ∷ the_signal 1 ∷ the_signal 2 ∷ the_signal 3 ∷ []; reads = the_expr 0 ∷ the_expr 1 ∷ the_expr 2 ∷ the_expr 3 ∷ []; bound = false } ∷ [])
  -- a manager gives `irq`; `enable` is of no line
  pub manager_signals : seen signals (manager_made 9 start) ≡ Ok (a_wire 1 (pos 0) true ∷ record (a_wire 1 (pos 0) false) { line = 0 } ∷ [])
  pub manager_parts : seen owners (manager_made 9 start) ≡ Ok (a_part (codes "irq") ∷ a_part (codes "enable") ∷ [])
  pub objects : seen kinds with_two ≡ Ok (what.Manager 0 ∷ what.Source 0 ∷ what.Source 1 ∷ [])
  -- sources stand in the order of binding, and are named by it
  pub two_sources : seen managers with_two ≡ Ok (record { object = 0; «module» = 0; sources = 0 ∷ 1 ∷ []; names = (codes "a", 0) ∷ (codes "b", 1) ∷ []; irq = the_signal 0; read = the_expr 0; enable = the_signal 1 } ∷ [])
  pub named : seen attribute_names with_two ≡ Ok (None ∷ Some (codes "a") ∷ Some (codes "b") ∷ [])
  pub bound : seen are_bound with_two ≡ Ok (true ∷ true ∷ [])
  -- under one name the later one is read, and both are there
  pub same_name : seen source_places ((with_one >>= λ _. source_made 9 fires.Pulse >>= bind_source 9 0 (codes "a")) start) ≡ Ok ((0 ∷ 1 ∷ []) ∷ [])
  -- a source is bound once, to whichever manager
  pub bound_again : seen nodes ((with_one >>= λ _. bind_source 8 0 (codes "b") (value.Object 1)) start) ≡ Err (record { line = 8; kind = kind.WrongKind })
  pub bound_to_another : seen nodes ((with_one >>= λ _. manager_made 9 >>= λ _. bind_source 8 1 (codes "a") (value.Object 1)) start) ≡ Err (record { line = 8; kind = kind.WrongKind })
  pub another_object : seen nodes ((manager_made 9 >>= bind_source 8 0 (codes "a")) start) ≡ Err (record { line = 8; kind = kind.WrongKind })
  pub no_object : seen nodes ((manager_made 9 >>= λ _. bind_source 8 0 (codes "a") value.Nothing) start) ≡ Err (record { line = 8; kind = kind.WrongKind })
  pub last_source : seen nodes (bind_free (codes "a") (full 31)) ≡ Ok 0
  pub too_many_sources : seen nodes (bind_free (codes "a") (full 32)) ≡ Err (record { line = 9; kind = kind.Limit limit.Sources })
  pub too_long : seen nodes (bind_free long_name (full 31)) ≡ Err (record { line = 9; kind = kind.Limit limit.Name })
  pub many_before_long : seen nodes (bind_free long_name (full 32)) ≡ Err (record { line = 9; kind = kind.Limit limit.Sources })
  -- a manager is no module of its own and no level, and is added as modules are
  pub no_module : seen module_count (within_module (λ v. give tt)) ≡ Ok 1
  pub no_level : seen rooms (within_module (add_modules 9 0)) ≡ Ok (63 ∷ 64 ∷ [])
  pub added : seen submodules (within_module (set_attribute 9 0 (codes "ev"))) ≡ Ok ((record { place = 1; named = true } ∷ []) ∷ [] ∷ [])
  pub added_twice : seen submodules (within_module (λ v. add_modules 9 0 v >>= λ _. add_modules 9 0 v)) ≡ Err (record { line = 9; kind = kind.WrongKind })
