-- Names and paths worked by hand.
use Rattle.std.specs.Prelude.{◌≡◌, ℕ, pos, false, true, List, [], ◌∷◌, codes, map, Option, Some, None, Ok}
use Rattle.lx_fhdl.specs.Drafts.{started}
use Rattle.lx_fhdl.specs.Instance.{signal_of, the_expr, the_signal}
use Rattle.lx_description.specs.declared.registers.RegDecl.{RegDecl}
use Rattle.lx_description.specs.declared.registers.RegKind.{RegKind}
use Rattle.lx_description.specs.declared.registers.RegKind.TheVariants as register
use Rattle.lx_description.specs.declared.registers.SourceKind.{SourceKind}
use Rattle.lx_description.specs.declared.registers.SourceKind.TheVariants as source
use Rattle.lx_state.specs.declared.values.Value.TheVariants as value
use Rattle.lx_state.specs.declared.machine.Binding.TheVariants as binding
use Rattle.lx_state.specs.declared.machine.Fsm.{Fsm}
use Rattle.lx_state.specs.declared.machine.Machine.{Machine}
use Rattle.lx_state.specs.declared.machine.ManagerState.{ManagerState}
use Rattle.lx_state.specs.declared.machine.Module.{Module}
use Rattle.lx_state.specs.declared.machine.ModuleKind.TheVariants as bases
use Rattle.lx_state.specs.declared.machine.Object.{Object}
use Rattle.lx_state.specs.declared.machine.Owner.{Owner}
use Rattle.lx_state.specs.declared.machine.RegisterState.{RegisterState}
use Rattle.lx_state.specs.declared.machine.SourceState.{SourceState}
use Rattle.lx_state.specs.declared.machine.What.{What}
use Rattle.lx_state.specs.declared.machine.What.TheVariants as what
use Rattle.lx_state.specs.Naming.{bind_name}
use Rattle.lx_state.specs.Step.{◌>>=◌}
use Rattle.lx_state.specs.Worked.{a_class, items, seen, start}
use Rattle.lx_paths.specs.Paths.{own_name, path_of, signal_paths}

abbrev pub Name : Type 0
Name = Option (List ℕ)

-- a signal, or a module, with its maker, and the names that it was bound to
abbrev pub a_signal : Option ℕ → Name → Name → Object
a_signal maker attribute local = record { what = what.Signal (the_signal 0); line = 1; maker = maker; given = None; by_attribute = attribute; by_local = local; home = None }

abbrev pub a_module : ℕ → Option ℕ → Name → Name → Object
a_module at maker attribute local = record { what = what.Module at; line = 1; maker = maker; given = None; by_attribute = attribute; by_local = local; home = None }

abbrev pub the_module : ℕ → ℕ → Module
the_module object class = record { object = object; class = class; kind = bases.Plain; attributes = []; bound = []; comb = []; sync = []; submodules = []; added = None; room = 63 }

abbrev pub whose : ℕ → Name → Owner
whose object part = record { object = object; part = part }

-- two signals of the top, and two modules `Inv` of two signals each, which a loop of the top made and bound to `m`
abbrev pub inverters : Machine
inverters = record start {
  classes = a_class (codes "Inv") ∷ a_class (codes "Top") ∷ [];
  objects = a_module 0 None None None
      ∷ a_signal (Some 0) (Some (codes "x")) None ∷ a_signal (Some 0) (Some (codes "y")) None
      ∷ a_module 1 (Some 0) None (Some (codes "m")) ∷ a_signal (Some 1) (Some (codes "i")) None ∷ a_signal (Some 1) (Some (codes "o")) None
      ∷ a_module 2 (Some 0) None (Some (codes "m")) ∷ a_signal (Some 2) (Some (codes "i")) None ∷ a_signal (Some 2) (Some (codes "o")) None ∷ [];
  modules = the_module 0 1 ∷ the_module 3 0 ∷ the_module 6 0 ∷ [];
  owners = whose 1 None ∷ whose 2 None ∷ whose 4 None ∷ whose 5 None ∷ whose 7 None ∷ whose 8 None ∷ [];
  shaped = started (signal_of [] 2 0 ∷ signal_of [] 2 0 ∷ signal_of [] 2 0 ∷ signal_of [] 2 0 ∷ signal_of [] 2 0 ∷ signal_of [] 2 0 ∷ []) [];
}

-- the top, its module `row`, and in that a module `Cell` with a signal, all three of them unbound; a `Cell` with a signal
-- that a default made, and a signal that one made; two of the design's signals are a part of the row, and nobody's
abbrev pub rows : Machine
rows = record start {
  classes = a_class (codes "Cell") ∷ a_class (codes "Row") ∷ a_class (codes "Top") ∷ [];
  objects = a_module 0 None None None
      ∷ a_module 1 (Some 0) (Some (codes "row")) None ∷ a_module 2 (Some 1) None None ∷ a_signal (Some 2) None None
      ∷ a_module 3 None (Some (codes "spare")) None ∷ a_signal (Some 3) None (Some (codes "s")) ∷ a_signal None None (Some (codes "d")) ∷ [];
  modules = the_module 0 2 ∷ the_module 1 1 ∷ the_module 2 0 ∷ the_module 4 0 ∷ [];
  lists = items (value.Object 2 ∷ value.Object 3 ∷ []) 1 ∷ [];
  owners = whose 1 (Some (codes "re")) ∷ [];
  shaped = started (signal_of [] 2 0 ∷ signal_of [] 2 0 ∷ []) [];
}

-- the path of the signal in the cell
abbrev pub inner : Machine → List (List ℕ)
inner m = path_of m 3 None

-- an FSM of the top with two states, bound to `ctl`; a second one with none, unbound; and a signal
abbrev pub an_fsm : ℕ → ℕ → List (List ℕ × ℕ) → Fsm
an_fsm object state names = record { object = object; «module» = 0; state = the_signal state; start = None; names = names; bodies = []; asked = [] }

abbrev pub fsms : Machine
fsms = record start {
  classes = a_class (codes "Top") ∷ [];
  objects = a_module 0 None None None ∷ record (a_signal (Some 0) (Some (codes "ctl")) None) { what = what.Fsm 0 } ∷ record (a_signal (Some 0) None None) { what = what.Fsm 1 } ∷ a_signal (Some 0) None (Some (codes "s")) ∷ [];
  modules = the_module 0 0 ∷ [];
  fsms = an_fsm 1 0 ((codes "IDLE", 0) ∷ (codes "RUN", 1) ∷ []) ∷ an_fsm 2 2 [] ∷ [];
  owners = whose 1 None ∷ whose 1 (Some (codes "RUN")) ∷ whose 2 None ∷ whose 3 None ∷ whose 1 (Some (codes "IDLE")) ∷ [];
  shaped = started (signal_of [] 1 0 ∷ signal_of [] 1 0 ∷ signal_of [] 1 0 ∷ signal_of [] 1 0 ∷ signal_of [] 1 0 ∷ []) [];
}

-- a memory that the top bound to a local `table`, with a port `rd`; and in its module `row` an unbound memory, with a port
-- that is unbound too
abbrev pub an_object : What → Option ℕ → Name → Name → Object
an_object what_ maker attribute local = record (a_signal maker attribute local) { what = what_ }

abbrev pub memories : Machine
memories = record start {
  classes = a_class (codes "Row") ∷ a_class (codes "Top") ∷ [];
  objects = a_module 0 None None None
      ∷ an_object (what.Memory 0) (Some 0) None (Some (codes "table")) ∷ an_object (what.Port 0) (Some 0) (Some (codes "rd")) None
      ∷ a_module 1 (Some 0) (Some (codes "row")) None ∷ an_object (what.Memory 1) (Some 1) None None ∷ an_object (what.Port 1) (Some 1) None None ∷ [];
  modules = the_module 0 1 ∷ the_module 3 0 ∷ [];
  memory_objects = 1 ∷ 4 ∷ [];
  owners = whose 2 (Some (codes "adr")) ∷ whose 2 (Some (codes "dat_r")) ∷ whose 5 (Some (codes "adr")) ∷ whose 5 (Some (codes "dat_r")) ∷ [];
  shaped = started (signal_of [] 2 0 ∷ signal_of [] 2 0 ∷ signal_of [] 2 0 ∷ signal_of [] 2 0 ∷ []) [];
}

-- ---- registers and events

abbrev pub no_reset : ℕ → RegKind → RegDecl
no_reset size kind_ = record { name = []; kind = kind_; size = size; reset = pos 0; atomic = false; from_dev = false; fields = []; signals = []; line = 1 }

abbrev pub a_register : RegKind → RegisterState
a_register kind_ = record { decl = no_reset 8 kind_; reads = [] }

abbrev pub a_source : ℕ → SourceKind → SourceState
a_source object kind_ = record { object = object; kind = kind_; signals = []; reads = []; bound = true }

abbrev pub a_manager : ℕ → ManagerState
a_manager object = record { object = object; «module» = 2; sources = 0 ∷ []; names = []; irq = the_signal 3; read = the_expr 0; enable = the_signal 4 }

-- In its module `t` the top has a storage `_load`, a status `__2nd`, a raw register that nothing binds, and an event manager
-- `ev` with a source `_zero`. A source that nothing binds has `enable` as a local name.
abbrev pub registers : Machine
registers = record start {
  classes = a_class (codes "Timer") ∷ a_class (codes "Top") ∷ [];
  objects = a_module 0 None None None ∷ a_module 1 (Some 0) (Some (codes "t")) None
      ∷ an_object (what.Register 0) (Some 1) (Some (codes "_load")) None ∷ an_object (what.Register 1) (Some 1) (Some (codes "__2nd")) None ∷ an_object (what.Register 2) (Some 1) None None
      ∷ an_object (what.Manager 0) (Some 1) (Some (codes "ev")) None ∷ an_object (what.Source 0) (Some 1) (Some (codes "_zero")) None ∷ an_object (what.Source 1) (Some 1) None (Some (codes "enable")) ∷ [];
  modules = the_module 0 1 ∷ the_module 1 0 ∷ the_module 5 0 ∷ [];
  registers = a_register register.Storage ∷ a_register register.Status ∷ a_register register.Raw ∷ [];
  managers = a_manager 5 ∷ [];
  sources = a_source 6 source.Pulse ∷ a_source 7 source.Rising ∷ [];
  owners = whose 2 (Some (codes "storage")) ∷ whose 3 (Some (codes "status")) ∷ whose 4 (Some (codes "r")) ∷ whose 5 (Some (codes "irq")) ∷ whose 5 (Some (codes "enable")) ∷ whose 6 (Some (codes "trigger")) ∷ whose 7 (Some (codes "enable")) ∷ [];
  shaped = started (signal_of [] 8 0 ∷ signal_of [] 8 0 ∷ signal_of [] 8 0 ∷ signal_of [] 1 0 ∷ signal_of [] 1 0 ∷ signal_of [] 1 0 ∷ signal_of [] 1 0 ∷ []) [];
}

-- the name of what nothing names
abbrev pub nameless : What → List ℕ
nameless what_ = own_name registers (an_object what_ (Some 1) None None)

-- the name of what an attribute binds
abbrev pub bound_to : List ℕ → What → List ℕ
bound_to name what_ = own_name registers (an_object what_ (Some 1) (Some name) None)

-- What the names and paths are.
pub record AreWorked : Type 0 where
  -- modules of a loop have the loop's name, and their paths needn't differ
  pub in_a_loop : signal_paths inverters ≡ (codes "x" ∷ []) ∷ (codes "y" ∷ []) ∷ (codes "m" ∷ codes "i" ∷ []) ∷ (codes "m" ∷ codes "o" ∷ []) ∷ (codes "m" ∷ codes "i" ∷ []) ∷ (codes "m" ∷ codes "o" ∷ []) ∷ []
  -- the outermost module comes first, without the top; what nothing names has the name of its kind
  pub unnamed : inner rows ≡ codes "row" ∷ codes "cell" ∷ codes "sig" ∷ []
  pub unnamed_module : path_of rows 2 None ≡ codes "row" ∷ codes "cell" ∷ []
  -- an attribute's name goes before a local one, whichever was first
  pub by_local : seen inner (bind_name binding.Local (codes "a") (value.Object 3) rows) ≡ Ok (codes "row" ∷ codes "cell" ∷ codes "a" ∷ [])
  pub by_attribute : seen inner ((bind_name binding.Local (codes "a") (value.Object 3) >>= λ _. bind_name binding.Attribute (codes "b") (value.Object 3)) rows) ≡ Ok (codes "row" ∷ codes "cell" ∷ codes "b" ∷ [])
  -- the items of a list are named from it
  pub in_a_list : seen inner (bind_name binding.Attribute (codes "c") (value.List 0) rows) ≡ Ok (codes "row" ∷ codes "c_0" ∷ codes "c_1" ∷ [])
  pub unnamed_crossing : own_name rows (record (a_signal (Some 2) None None) { what = what.MultiReg }) ≡ codes "multireg"
  -- `name=` goes before both
  pub given : own_name rows (record (a_signal (Some 2) (Some (codes "b")) (Some (codes "a"))) { given = Some (codes "g") }) ≡ codes "g"
  -- what is handed to another module keeps the modules in which it was made
  pub handed : seen (λ m. path_of m 6 None) (bind_name binding.Attribute (codes "in") (value.Object 6) rows) ≡ Ok (codes "in" ∷ [])
  -- what a default made is in no module, but a module that it made is one
  pub in_a_default : path_of rows 6 None ≡ codes "d" ∷ []
  pub in_a_spare : path_of rows 5 None ≡ codes "spare" ∷ codes "s" ∷ []
  -- a part comes last, and what is nobody's has no path
  pub part : signal_paths rows ≡ (codes "row" ∷ codes "re" ∷ []) ∷ [] ∷ []
  pub nothing : path_of rows 9 (Some (codes "re")) ≡ []
  -- an FSM's own signal is its part `state`; what is `ongoing` of a state has the state's number, whichever was asked for first
  pub of_fsms : signal_paths fsms ≡ (codes "ctl" ∷ codes "state" ∷ []) ∷ (codes "ctl" ∷ codes "ongoing_1" ∷ []) ∷ (codes "fsm" ∷ codes "state" ∷ []) ∷ (codes "s" ∷ []) ∷ (codes "ctl" ∷ codes "ongoing_0" ∷ []) ∷ []
  -- a port goes by its own name and not by its memory's; the parts of a port are its signals
  pub memory : path_of memories 1 None ≡ codes "table" ∷ []
  pub unnamed_memory : path_of memories 4 None ≡ codes "row" ∷ codes "mem" ∷ []
  pub of_ports : signal_paths memories ≡ (codes "rd" ∷ codes "adr" ∷ []) ∷ (codes "rd" ∷ codes "dat_r" ∷ []) ∷ (codes "row" ∷ codes "port" ∷ codes "adr" ∷ []) ∷ (codes "row" ∷ codes "port" ∷ codes "dat_r" ∷ []) ∷ []
  -- registers lose the underscores that their names begin with, where a name is left; what else there is keeps them, and the
  -- `enable` of a manager has no path
  pub of_registers : signal_paths registers ≡ (codes "t" ∷ codes "load" ∷ codes "storage" ∷ []) ∷ (codes "t" ∷ codes "__2nd" ∷ codes "status" ∷ []) ∷ (codes "t" ∷ codes "csr" ∷ codes "r" ∷ [])
      ∷ (codes "t" ∷ codes "ev" ∷ codes "irq" ∷ []) ∷ [] ∷ (codes "t" ∷ codes "_zero" ∷ codes "trigger" ∷ []) ∷ (codes "t" ∷ codes "enable" ∷ codes "enable" ∷ []) ∷ []
  pub underscores : bound_to (codes "__") (what.Register 0) ≡ codes "__"
  pub inner_underscore : bound_to (codes "_a_b_") (what.Register 0) ≡ codes "a_b_"
  pub given_underscore : own_name registers (record (an_object (what.Register 0) (Some 1) (Some (codes "b")) None) { given = Some (codes "_g") }) ≡ codes "g"
  pub constant_underscore : bound_to (codes "_k") (what.Constant 0) ≡ codes "k"
  pub manager_underscore : bound_to (codes "_ev") (what.Manager 0) ≡ codes "_ev"
  pub kinds : map nameless (what.Register 0 ∷ what.Register 1 ∷ what.Register 2 ∷ what.Field 0 ∷ what.Constant 0 ∷ what.Manager 0 ∷ []) ≡ codes "csrstorage" ∷ codes "csrstatus" ∷ codes "csr" ∷ codes "csrfield" ∷ codes "csrconstant" ∷ codes "eventmanager" ∷ []
  pub kinds_of_sources : map nameless (what.Source 0 ∷ what.Source 1 ∷ []) ≡ codes "eventsourcepulse" ∷ codes "eventsourceprocess" ∷ []
