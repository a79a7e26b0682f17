-- Descriptions of machines, worked by hand.
use Rattle.std.specs.Prelude.{◌≡◌, ℕ, Bool, false, true, pos, List, [], ◌∷◌, codes, flat_map, map, Option, Some, None, Result, Ok, Err}
use Rattle.lx_num.specs.Ints.{unsigned}
use Rattle.lx_text.specs.declared.faults.Fault.{Fault}
use Rattle.lx_text.specs.declared.faults.Kind.TheVariants as kind
use Rattle.lx_fhdl.specs.Drafts.{started}
use Rattle.lx_fhdl.specs.Instance.{the_expr, the_signal, the_stmt, the_target}
use Rattle.lx_fhdl.specs.declared.design.Design.{Design}
use Rattle.lx_fhdl.specs.declared.design.Memory.{Memory}
use Rattle.lx_fhdl.specs.declared.design.Port.{Port}
use Rattle.lx_fhdl.specs.declared.design.PortMode.TheVariants as mode
use Rattle.lx_fhdl.specs.declared.design.Signal.{Signal}
use Rattle.lx_fhdl.specs.declared.exprs.Expr.TheVariants as expr
use Rattle.lx_fhdl.specs.declared.exprs.SigId.{SigId}
use Rattle.lx_fhdl.specs.declared.places.Fix.{Fix}
use Rattle.lx_fhdl.specs.declared.stmts.Stmt.TheVariants as stmt
use Rattle.lx_fhdl.specs.declared.stmts.Target.TheVariants as target
use Rattle.lx_state.specs.declared.values.Value.{Value}
use Rattle.lx_state.specs.declared.values.Value.TheVariants as value
use Rattle.lx_state.specs.declared.machine.Form.{Form}
use Rattle.lx_state.specs.declared.machine.Form.TheVariants as form
use Rattle.lx_state.specs.declared.machine.Machine.{Machine}
use Rattle.lx_state.specs.declared.machine.Made.{Made}
use Rattle.lx_state.specs.declared.machine.ManagerState.{ManagerState}
use Rattle.lx_state.specs.declared.machine.Module.{Module}
use Rattle.lx_state.specs.declared.machine.ModuleKind.{ModuleKind}
use Rattle.lx_state.specs.declared.machine.ModuleKind.TheVariants as bases
use Rattle.lx_state.specs.declared.machine.Object.{Object}
use Rattle.lx_state.specs.declared.machine.Owner.{Owner}
use Rattle.lx_state.specs.declared.machine.RegisterState.{RegisterState}
use Rattle.lx_state.specs.declared.machine.SourceState.{SourceState}
use Rattle.lx_state.specs.declared.machine.Submodule.{Submodule}
use Rattle.lx_state.specs.declared.machine.SystemState.{SystemState}
use Rattle.lx_state.specs.declared.machine.What.{What}
use Rattle.lx_state.specs.declared.machine.What.TheVariants as what
use Rattle.lx_state.specs.Worked.{a_class, items}
use Rattle.lx_description.specs.declared.description.Description.{Description}
use Rattle.lx_description.specs.Instance.{the_fsm_stmt}
use Rattle.lx_description.specs.declared.fsms.FsmDecl.{FsmDecl}
use Rattle.lx_description.specs.declared.fsms.FsmPlace.{FsmPlace}
use Rattle.lx_description.specs.declared.fsms.FsmStmt.TheVariants as fsm
use Rattle.lx_description.specs.declared.modules.ConstValue.TheVariants as constant
use Rattle.lx_description.specs.declared.modules.Part.{Part}
use Rattle.lx_description.specs.declared.modules.Part.TheVariants as part
use Rattle.lx_description.specs.declared.registers.Field.{Field}
use Rattle.lx_description.specs.declared.registers.ManagerDecl.{ManagerDecl}
use Rattle.lx_description.specs.declared.registers.RegDecl.{RegDecl}
use Rattle.lx_description.specs.declared.registers.RegKind.{RegKind}
use Rattle.lx_description.specs.declared.registers.RegKind.TheVariants as register
use Rattle.lx_description.specs.declared.registers.SourceKind.{SourceKind}
use Rattle.lx_description.specs.declared.registers.SourceKind.TheVariants as source
use Rattle.lx_description.specs.Laws.{no_wishes}
use Rattle.lx_description.specs.Wires.{Wire, interface_wires}
use Rattle.lx_description.specs.declared.slaves.SlaveKind.TheVariants as slave
use Rattle.lx_objects.specs.Modules.{object_of}
use Rattle.lx_objects.specs.Systems.{interface_parts}
use Rattle.lx_describe.specs.Answers.{answer}
use Rattle.lx_describe.specs.Apart.{state_bits}
use Rattle.lx_describe.specs.Describing.{described}
use Rattle.lx_describe.specs.Order.{in_order}
use Rattle.lx_describe.specs.Signals.{named_signals}
use Rattle.lx_describe.specs.Start.{start}
use Rattle.lx_describe.specs.Submodules.{submodules}
use Rattle.lx_describe.specs.Systems.{is_bus_given}

-- ---- machines

abbrev pub an_object : What → ℕ → Option ℕ → Option (List ℕ) → Option (List ℕ) → Object
an_object what_ line maker attribute local = record { what = what_; line = line; maker = maker; given = None; by_attribute = attribute; by_local = local; home = None }

abbrev pub a_module : ℕ → ℕ → List (List ℕ × Value) → List ℕ → List Submodule → Option ℕ → Module
a_module object class attributes comb below added = record { object = object; class = class; kind = bases.Plain; attributes = attributes; bound = flat_map (λ (e : List ℕ × Value). object_of e.1) attributes; comb = comb; sync = []; submodules = below; added = added; room = 63 }

abbrev pub submodule : ℕ → Submodule
submodule place = record { place = place; named = false }

abbrev pub named_submodule : ℕ → Submodule
named_submodule place = record { place = place; named = true }

-- two signals of four bits, the first of which the second one drives
abbrev pub unnamed : ℕ → Signal
unnamed line = record { path = []; shape = unsigned 4; reset = pos 0; reset_less = false; by_bus = false; line = line }

abbrev pub design : Design
design = record (started (unnamed 3 ∷ unnamed 4 ∷ []) []) {
  exprs = expr.Sig (the_signal 0) ∷ expr.Sig (the_signal 1) ∷ [];
  targets = target.Whole (the_signal 0) ∷ [];
}

-- The top bound a module to `b`, in which `c` stands, and a local one to `m`; it added `m`, then `b`. It bound `b` again, and
-- `c`, which isn't its own. The first signal is its port `s`, the second one stands in `m`. The domain `sys` was mentioned.
abbrev pub whole : Machine
whole = record start {
  classes = a_class (codes "Leaf") ∷ a_class (codes "Top") ∷ [];
  shaped = design;
  owners = record { object = 4; part = None } ∷ record { object = 5; part = None } ∷ [];
  objects = an_object (what.Module 0) 7 None None None
      ∷ an_object (what.Module 1) 8 (Some 0) (Some (codes "b")) (Some (codes "m"))
      ∷ an_object (what.Module 2) 9 (Some 0) None (Some (codes "m"))
      ∷ an_object (what.Module 3) 9 (Some 1) (Some (codes "c")) None
      ∷ an_object (what.Signal (the_signal 0)) 3 (Some 0) (Some (codes "s")) None
      ∷ an_object (what.Signal (the_signal 1)) 4 (Some 2) (Some (codes "t")) None
      ∷ [];
  modules = a_module 0 1 ((codes "n", value.Int (pos 1)) ∷ (codes "b", value.Object 1) ∷ (codes "ios", value.List 0) ∷ (codes "again", value.Object 1) ∷ (codes "c", value.Object 3) ∷ []) (0 ∷ []) (submodule 2 ∷ submodule 1 ∷ []) None
      ∷ a_module 1 0 ((codes "c", value.Object 3) ∷ []) [] (named_submodule 3 ∷ []) (Some 0)
      ∷ a_module 2 0 [] [] [] (Some 0)
      ∷ a_module 3 0 [] [] [] (Some 1)
      ∷ [];
  lists = items (value.Expr (the_expr 0) ∷ []) 1 ∷ [];
  made = record { form = form.Assign (the_target 0) (the_expr 1); line = 5; size = 1; depth = 1; in_state = false } ∷ [];
  domains = (codes "sys", record { declared = false; reset = true }) ∷ [];
}

abbrev pub a_top : ModuleKind → List (List ℕ × Value) → Machine
a_top kind_ attributes = record start {
  classes = a_class (codes "Top") ∷ [];
  objects = an_object (what.Module 0) 7 None None None ∷ [];
  modules = record (a_module 0 0 attributes [] [] None) { kind = kind_ } ∷ [];
}

-- ---- what they describe

abbrev pub named_as : List (List ℕ) → Signal → Signal
named_as path s = record s { path = path }

abbrev pub reset : Signal
reset = record { path = codes "sys_rst" ∷ []; shape = unsigned 1; reset = pos 0; reset_less = false; by_bus = false; line = 0 }

abbrev pub the_whole : Description
the_whole = record {
  top = codes "Top";
  soc = false;
  design = record design {
    signals = named_as (codes "s" ∷ []) (unnamed 3) ∷ named_as (codes "m" ∷ codes "t" ∷ []) (unnamed 4) ∷ reset ∷ [];
    stmts = stmt.Assign (the_target 0) (the_expr 1) 5 ∷ [];
    comb = the_stmt 0 ∷ [];
    domains = record { name = codes "sys"; reset = Some (the_signal 2) } ∷ [];
    ios = the_signal 0 ∷ [];
  };
  modules = record { name = codes "Top"; named = true; parts = part.Module 1 ∷ part.Module 3 ∷ [] }
      ∷ record { name = codes "b"; named = true; parts = part.Module 2 ∷ [] }
      ∷ record { name = codes "c"; named = true; parts = [] }
      ∷ record { name = codes "m"; named = false; parts = [] }
      ∷ [];
  slaves = [];
  wishes = no_wishes;
  constants = [];
  fsm_stmts = [];
  fsms = [];
}

abbrev pub empty_top : Description
empty_top = record {
  top = codes "Top";
  soc = false;
  design = started [] [];
  modules = record { name = codes "Top"; named = true; parts = [] } ∷ [];
  slaves = [];
  wishes = no_wishes;
  constants = [];
  fsm_stmts = [];
  fsms = [];
}

-- ---- an FSM

abbrev pub bit : ℕ → Signal
bit line = record (unnamed line) { shape = unsigned 1 }

abbrev pub fsm_design : Design
fsm_design = record (started (bit 8 ∷ bit 9 ∷ unnamed 3 ∷ []) []) {
  exprs = expr.Sig (the_signal 2) ∷ expr.Sig (the_signal 1) ∷ [];
  targets = target.Whole (the_signal 2) ∷ [];
}

abbrev pub on_line : ℕ → Form → Made
on_line line form_ = record { form = form_; line = line; size = 1; depth = 1; in_state = false }

-- The top assigns its signal `a`, and added an FSM of three states, which it bound to `ctl`. In `A` it goes to `B`, in `B` it
-- assigns `a` at the next rise; `ongoing("B")` was asked for.
abbrev pub with_fsm : Machine
with_fsm = record start {
  classes = a_class (codes "Top") ∷ [];
  shaped = fsm_design;
  owners = record { object = 1; part = None } ∷ record { object = 1; part = Some (codes "B") } ∷ record { object = 2; part = None } ∷ [];
  objects = an_object (what.Module 0) 1 None None None
      ∷ an_object (what.Fsm 0) 8 (Some 0) (Some (codes "ctl")) None
      ∷ an_object (what.Signal (the_signal 2)) 3 (Some 0) (Some (codes "a")) None
      ∷ [];
  modules = a_module 0 0 ((codes "ctl", value.Object 1) ∷ []) (0 ∷ []) (named_submodule 1 ∷ []) None
      ∷ a_module 1 0 [] [] [] (Some 0)
      ∷ [];
  fsms = record {
    object = 1;
    «module» = 1;
    state = the_signal 0;
    start = Some (codes "B");
    names = (codes "A", 0) ∷ (codes "B", 1) ∷ (codes "C", 2) ∷ [];
    bodies = (1 ∷ []) ∷ (2 ∷ []) ∷ [] ∷ [];
    asked = (codes "B", record { signal = the_signal 1; read = the_expr 1; line = 9 }) ∷ [];
  } ∷ [];
  texts = codes "B" ∷ [];
  made = on_line 5 (form.Assign (the_target 0) (the_expr 0)) ∷ on_line 6 (form.NextState 0) ∷ on_line 7 (form.NextValue (the_target 0) (the_expr 0)) ∷ [];
  domains = (codes "sys", record { declared = false; reset = true }) ∷ [];
}

-- `state` has two bits, and `ongoing` is named by the number of its state; no module is there but the top
abbrev pub the_fsm : Description
the_fsm = record empty_top {
  design = record fsm_design {
    signals = named_as (codes "ctl" ∷ codes "state" ∷ []) (record (bit 8) { shape = unsigned 2 }) ∷ named_as (codes "ctl" ∷ codes "ongoing_1" ∷ []) (bit 9) ∷ named_as (codes "a" ∷ []) (unnamed 3) ∷ reset ∷ [];
    stmts = stmt.Assign (the_target 0) (the_expr 0) 5 ∷ [];
    comb = the_stmt 0 ∷ [];
    domains = record { name = codes "sys"; reset = Some (the_signal 3) } ∷ [];
  };
  fsm_stmts = fsm.NextState (codes "B") 6 ∷ fsm.NextValue (the_target 0) (the_expr 0) 7 ∷ [];
  fsms = record {
    state = the_signal 0;
    start = Some (codes "B");
    states = record { name = codes "A"; body = the_fsm_stmt 0 ∷ [] } ∷ record { name = codes "B"; body = the_fsm_stmt 1 ∷ [] } ∷ record { name = codes "C"; body = [] } ∷ [];
    asked = record { name = codes "B"; signal = the_signal 1; line = 9 } ∷ [];
    place = Some (record { comb = 1; sync = 0 });
    line = 8;
  } ∷ [];
}

-- ---- memories

abbrev pub bits_of : ℕ → ℕ → Signal
bits_of line bits = record (unnamed line) { shape = unsigned bits }

abbrev pub memory_design : Design
memory_design = record (started (bits_of 6 2 ∷ bits_of 6 8 ∷ bits_of 6 8 ∷ bits_of 6 2 ∷ bit 9 ∷ bits_of 9 4 ∷ []) []) {
  exprs = expr.Sig (the_signal 0) ∷ expr.Sig (the_signal 1) ∷ expr.Sig (the_signal 2) ∷ expr.Sig (the_signal 3) ∷ expr.Sig (the_signal 4) ∷ expr.Sig (the_signal 5) ∷ [];
}

abbrev pub whose : ℕ → List ℕ → Owner
whose object part_ = record { object = object; part = Some part_ }

-- three words of eight bits, which a clocked port writes in parts of four bits; and one word of four bits, which a port
-- reads at once
abbrev pub a_memory : List (List ℕ) → Memory
a_memory path = record { path = path; width = 8; depth = 3; init = 1 ∷ 255 ∷ []; line = 5 }

abbrev pub a_word : List (List ℕ) → Memory
a_word path = record { path = path; width = 4; depth = 1; init = []; line = 8 }

abbrev pub a_writer : Port
a_writer = record { memory = 0; domain = Some 0; adr = the_signal 0; dat_r = Some (the_signal 1); dat_w = Some (the_signal 2); we = Some (the_signal 3); part = 4; mode = mode.ReadFirst }

abbrev pub a_reader : Port
a_reader = record { memory = 1; domain = None; adr = the_signal 4; dat_r = Some (the_signal 5); dat_w = None; we = None; part = 4; mode = mode.Async }

-- the top bound the first memory to its attribute `store` and its port to `wr`, and the second memory to a local one, `rom`
abbrev pub with_memories : Machine
with_memories = record start {
  classes = a_class (codes "Top") ∷ [];
  shaped = memory_design;
  owners = whose 2 (codes "adr") ∷ whose 2 (codes "dat_r") ∷ whose 2 (codes "dat_w") ∷ whose 2 (codes "we") ∷ whose 4 (codes "adr") ∷ whose 4 (codes "dat_r") ∷ [];
  objects = an_object (what.Module 0) 1 None None None
      ∷ an_object (what.Memory 0) 5 (Some 0) (Some (codes "store")) None
      ∷ an_object (what.Port 0) 6 (Some 0) (Some (codes "wr")) None
      ∷ an_object (what.Memory 1) 8 (Some 0) None (Some (codes "rom"))
      ∷ an_object (what.Port 1) 9 (Some 0) None None
      ∷ [];
  modules = a_module 0 0 ((codes "store", value.Object 1) ∷ (codes "wr", value.Object 2) ∷ []) [] [] None ∷ [];
  memories = a_memory [] ∷ a_word [] ∷ [];
  memory_objects = 1 ∷ 3 ∷ [];
  words = 4;
  ports = record { port = a_writer; adr = the_expr 0; dat_r = the_expr 1; writing = Some (record { dat_w = the_expr 2; we = the_expr 3 }) }
      ∷ record { port = a_reader; adr = the_expr 4; dat_r = the_expr 5; writing = None }
      ∷ [];
  domains = (codes "sys", record { declared = false; reset = true }) ∷ [];
}

-- a memory goes by its own name and not by its port's; a port that nothing binds is `port`
abbrev pub the_memories : Description
the_memories = record empty_top {
  design = record memory_design {
    signals = named_as (codes "wr" ∷ codes "adr" ∷ []) (bits_of 6 2)
        ∷ named_as (codes "wr" ∷ codes "dat_r" ∷ []) (bits_of 6 8)
        ∷ named_as (codes "wr" ∷ codes "dat_w" ∷ []) (bits_of 6 8)
        ∷ named_as (codes "wr" ∷ codes "we" ∷ []) (bits_of 6 2)
        ∷ named_as (codes "port" ∷ codes "adr" ∷ []) (bit 9)
        ∷ named_as (codes "port" ∷ codes "dat_r" ∷ []) (bits_of 9 4)
        ∷ reset
        ∷ [];
    memories = a_memory (codes "store" ∷ []) ∷ a_word (codes "rom" ∷ []) ∷ [];
    ports = a_writer ∷ a_reader ∷ [];
    domains = record { name = codes "sys"; reset = Some (the_signal 6) } ∷ [];
  };
}

-- an expression reads a word by itself
abbrev pub fetched : Machine
fetched = record with_memories { shaped = record memory_design { exprs = expr.Sig (the_signal 4) ∷ expr.Fetch 1 4 (the_expr 0) ∷ [] } }

-- ---- registers and events

abbrev pub a_decl : RegKind → ℕ → List ℕ → List SigId → ℕ → RegDecl
a_decl kind_ size name signals line = record { name = name; kind = kind_; size = size; reset = pos 5; atomic = true; from_dev = false; fields = []; signals = signals; line = line }

abbrev pub a_field : Field
a_field = record { name = codes "low"; offset = 0; size = 2; reset = pos 1; line = 4 }

-- a storage of four bits with a field, and a status of eight
abbrev pub a_storage : List ℕ → RegDecl
a_storage name = record (a_decl register.Storage 4 name (the_signal 0 ∷ the_signal 1 ∷ []) 3) { fields = a_field ∷ [] }

abbrev pub a_status : List ℕ → RegDecl
a_status name = a_decl register.Status 8 name (the_signal 2 ∷ []) 5

abbrev pub register_state : RegDecl → RegisterState
register_state decl = record { decl = decl; reads = [] }

abbrev pub a_source : ℕ → SourceKind → List SigId → SourceState
a_source object kind_ signals = record { object = object; kind = kind_; signals = signals; reads = []; bound = true }

abbrev pub a_manager : ℕ → ℕ → List ℕ → ManagerState
a_manager object at sources = record { object = object; «module» = at; sources = sources; names = []; irq = the_signal 3; read = the_expr 0; enable = the_signal 4 }

abbrev pub at_home : ℕ → Object → Object
at_home at o = record o { home = Some at }

abbrev pub bound_in : List ℕ → List Submodule → Module → Module
bound_in bound below x = record x { bound = bound; submodules = below }

-- The top has the module `t`, which it bound to `t`. That has a storage, which it bound to `_first` and then to another attribute,
-- a module of its own, `sub`, a status `last`, a constant `_k`, an event manager `ev` of two sources, and a module without a name.
-- The top and `sub` bind the storage later, and a list of `t` holds a register that no attribute binds.
abbrev pub equipped : Machine
equipped = record start {
  classes = a_class (codes "Leaf") ∷ a_class (codes "Timer") ∷ a_class (codes "Top") ∷ [];
  shaped = started (unnamed 3 ∷ bit 3 ∷ unnamed 5 ∷ bit 6 ∷ bit 0 ∷ bit 7 ∷ bit 7 ∷ []) [];
  owners = whose 2 (codes "storage") ∷ whose 2 (codes "re") ∷ whose 4 (codes "status") ∷ whose 6 (codes "irq") ∷ whose 6 (codes "enable") ∷ whose 7 (codes "trigger") ∷ whose 8 (codes "trigger") ∷ [];
  objects = an_object (what.Module 0) 1 None None None
      ∷ an_object (what.Module 1) 2 (Some 0) (Some (codes "t")) None
      ∷ at_home 1 (an_object (what.Register 0) 3 (Some 1) (Some (codes "_first")) None)
      ∷ at_home 1 (an_object (what.Module 2) 4 (Some 1) (Some (codes "sub")) None)
      ∷ at_home 1 (an_object (what.Register 1) 5 (Some 1) (Some (codes "last")) None)
      ∷ at_home 1 (an_object (what.Constant 0) 8 (Some 1) (Some (codes "_k")) None)
      ∷ at_home 1 (an_object (what.Manager 0) 6 (Some 1) (Some (codes "ev")) None)
      ∷ an_object (what.Source 0) 7 (Some 1) (Some (codes "_zero")) None
      ∷ an_object (what.Source 1) 7 (Some 1) (Some (codes "tick")) None
      ∷ an_object (what.Module 4) 9 (Some 1) None (Some (codes "m"))
      ∷ an_object (what.Register 2) 10 (Some 1) (Some (codes "list_0")) None
      ∷ [];
  modules = bound_in (1 ∷ 2 ∷ []) (named_submodule 1 ∷ []) (a_module 0 2 [] [] [] None)
      ∷ bound_in (2 ∷ 3 ∷ 4 ∷ 2 ∷ 5 ∷ 6 ∷ []) (submodule 4 ∷ named_submodule 2 ∷ named_submodule 3 ∷ []) (a_module 1 1 [] [] [] (Some 0))
      ∷ bound_in (2 ∷ []) [] (a_module 3 0 [] [] [] (Some 1))
      ∷ a_module 6 0 [] [] [] (Some 1)
      ∷ a_module 9 0 [] [] [] (Some 1)
      ∷ [];
  registers = register_state (a_storage []) ∷ register_state (a_status []) ∷ register_state (a_status []) ∷ [];
  constants = constant.Number (pos 9) ∷ [];
  managers = a_manager 6 3 (1 ∷ 0 ∷ []) ∷ [];
  sources = a_source 7 source.Pulse (the_signal 5 ∷ []) ∷ a_source 8 source.Rising (the_signal 6 ∷ []) ∷ [];
  domains = (codes "sys", record { declared = false; reset = true }) ∷ [];
}

-- the sources in the order of binding; `enable` has two bits and no path
abbrev pub the_manager : ManagerDecl
the_manager = record {
  sources = record { name = codes "tick"; kind = source.Rising; signals = the_signal 6 ∷ [] } ∷ record { name = codes "_zero"; kind = source.Pulse; signals = the_signal 5 ∷ [] } ∷ [];
  irq = the_signal 3;
  enable = the_signal 4;
  line = 6;
}

abbrev pub the_parts : List Part
the_parts = part.Reg (a_storage (codes "first")) ∷ part.Module 2 ∷ part.Reg (a_status (codes "last"))
    ∷ part.Constant (record { name = codes "k"; value = constant.Number (pos 9); line = 8 }) ∷ part.Manager (codes "ev") the_manager ∷ part.Module 3 ∷ []

abbrev pub the_equipped : Description
the_equipped = record empty_top {
  design = record (started [] []) {
    signals = named_as (codes "t" ∷ codes "first" ∷ codes "storage" ∷ []) (unnamed 3)
        ∷ named_as (codes "t" ∷ codes "first" ∷ codes "re" ∷ []) (bit 3)
        ∷ named_as (codes "t" ∷ codes "last" ∷ codes "status" ∷ []) (unnamed 5)
        ∷ named_as (codes "t" ∷ codes "ev" ∷ codes "irq" ∷ []) (bit 6)
        ∷ record (bit 0) { shape = unsigned 2 }
        ∷ named_as (codes "t" ∷ codes "_zero" ∷ codes "trigger" ∷ []) (bit 7)
        ∷ named_as (codes "t" ∷ codes "tick" ∷ codes "trigger" ∷ []) (bit 7)
        ∷ reset
        ∷ [];
    domains = record { name = codes "sys"; reset = Some (the_signal 7) } ∷ [];
  };
  modules = record { name = codes "Top"; named = true; parts = part.Module 1 ∷ [] }
      ∷ record { name = codes "t"; named = true; parts = the_parts }
      ∷ record { name = codes "sub"; named = true; parts = [] }
      ∷ record { name = codes "m"; named = false; parts = [] }
      ∷ [];
}

-- the same, where the second event manager, which was added nowhere, has no source, and neither has a third one
abbrev pub without_source : Machine
without_source = record equipped { managers = a_manager 6 3 (0 ∷ []) ∷ a_manager 9 4 [] ∷ a_manager 5 4 [] ∷ [] }

-- an expression reads `enable`
abbrev pub enable_read : Machine
enable_read = record equipped { shaped = record (started (unnamed 3 ∷ bit 3 ∷ unnamed 5 ∷ bit 6 ∷ bit 0 ∷ bit 7 ∷ bit 7 ∷ []) []) { exprs = expr.Sig (the_signal 4) ∷ [] } }

-- the top has the module 1 under `a`, and bound that attribute to another module later, which was added without a name first
abbrev pub bound_again : Machine
bound_again = record whole {
  modules = record (a_module 0 1 ((codes "a", value.Object 2) ∷ []) [] (submodule 2 ∷ named_submodule 1 ∷ []) None) { bound = 1 ∷ 2 ∷ [] }
      ∷ a_module 1 0 [] [] [] (Some 0) ∷ a_module 2 0 [] [] [] (Some 0) ∷ [];
}

-- ---- systems

abbrev pub a_fix : List ℕ → ℕ → Fix
a_fix name number = record { name = name; number = Some number; line = 4 }

-- a RAM of two words, a number for a bank and one for an interrupt, and a constant
abbrev pub the_declared : SystemState
the_declared = record {
  base = 0xe0000000;
  line = 2;
  regions = record { name = codes "sram"; origin = None; size = 8; cached = true; line = 3 } ∷ [];
  slaves = record { name = codes "sram"; kind = slave.Ram (7 ∷ []); line = 3 } ∷ [];
  fixes = a_fix (codes "leds") 1 ∷ [];
  irqs = a_fix (codes "timer") 0 ∷ [];
  constants = record { name = codes "RATE"; value = constant.Nothing; line = 5 } ∷ [];
}

abbrev pub a_system : SystemState → Machine
a_system system_ = record (a_top bases.Soc []) { system = system_ }

abbrev pub the_system : Description
the_system = record empty_top {
  soc = true;
  slaves = record { name = codes "sram"; kind = slave.Ram (7 ∷ []); line = 3 } ∷ [];
  wishes = record {
    regions = record { name = codes "csr"; origin = Some 0xe0000000; size = 65536; cached = false; line = 2 }
        ∷ record { name = codes "sram"; origin = None; size = 8; cached = true; line = 3 } ∷ [];
    banks = [];
    fixes = a_fix (codes "leds") 1 ∷ [];
    managers = [];
    irqs = a_fix (codes "timer") 0 ∷ [];
  };
  constants = record { name = codes "RATE"; value = constant.Nothing; line = 5 } ∷ [];
}

-- an interface, which was handed over to the bus or wasn't, and two of its signals
abbrev pub handing : Bool → Machine
handing handed = record start {
  objects = an_object (what.Interface 0) 4 None None None ∷ [];
  interfaces = record { signals = the_signal 0 ∷ the_signal 1 ∷ []; reads = []; handed = handed } ∷ [];
  owners = whose 0 (codes "adr") ∷ whose 0 (codes "dat_r") ∷ [];
}

-- ---- what is read

-- the FSM, and no module beside it, is nowhere
abbrev pub added_nowhere : Machine
added_nowhere = record with_fsm { modules = a_module 0 0 [] (0 ∷ []) [] None ∷ a_module 1 0 [] [] [] None ∷ [] }

abbrev pub its_places : Result Description Fault → Result (List (Option FsmPlace)) Fault
its_places (Ok d) = Ok (map (λ (f : FsmDecl). f.place) d.fsms)
its_places (Err f) = Err f

abbrev pub read : Machine → Value → Result Description Fault
read m top = answer (described top m)

-- What the machines describe.
pub record AreDescribed : Type 0 where
  -- each submodule once, those that attributes bind first; a module of another one isn't among them
  pub submodules_once : submodules whole 0 ≡ named_submodule 1 ∷ submodule 2 ∷ []
  -- each module stands right behind the one that it was added to, or behind a module of that
  pub order : in_order whole 0 ≡ named_submodule 0 ∷ named_submodule 1 ∷ named_submodule 3 ∷ submodule 2 ∷ []
  pub everything : read whole (value.Object 0) ≡ Ok the_whole
  pub no_ports : read (a_top bases.Lite []) (value.Object 0) ≡ Ok empty_top
  pub ports_of_no_list : read (a_top bases.Plain ((codes "ios", value.Int (pos 1)) ∷ [])) (value.Object 0) ≡ Err (record { line = 0; kind = kind.WrongKind })
  -- a system, with the region of its registers first
  pub system : read (a_system the_declared) (value.Object 0) ≡ Ok the_system
  pub plain_wishes : read (record (a_top bases.Plain []) { system = record the_declared { slaves = []; constants = [] } }) (value.Object 0) ≡ Ok empty_top
  -- the bus gives what a slave reads, once its interface was handed over
  pub interface_given : map (λ part_. is_bus_given (handing true) (Some (whose 0 part_))) interface_parts ≡ map (λ (w : Wire). w.given) interface_wires
  pub interface_kept : map (λ part_. is_bus_given (handing false) (Some (whose 0 part_))) interface_parts ≡ map (λ (w : Wire). false) interface_wires
  pub given_signals : named_signals (handing true) 0 (bits_of 4 30 ∷ bits_of 4 32 ∷ []) ≡ record (named_as (codes "interface" ∷ codes "adr" ∷ []) (bits_of 4 30)) { by_bus = true } ∷ named_as (codes "interface" ∷ codes "dat_r" ∷ []) (bits_of 4 32) ∷ []
  pub no_module : read whole (value.Object 4) ≡ Err (record { line = 0; kind = kind.WrongKind })
  pub fsm : read with_fsm (value.Object 0) ≡ Ok the_fsm
  pub fsm_nowhere : its_places (read added_nowhere (value.Object 0)) ≡ Ok (None ∷ [])
  -- an expression that names its state, and a target that does
  pub state_named : read (record with_fsm { shaped = record fsm_design { exprs = expr.Sig (the_signal 2) ∷ expr.Sig (the_signal 0) ∷ [] } }) (value.Object 0) ≡ Err (record { line = 0; kind = kind.NotYetBuilt })
  pub state_assigned : read (record with_fsm { shaped = record fsm_design { targets = target.Whole (the_signal 2) ∷ target.Part (the_signal 0) 0 1 ∷ [] } }) (value.Object 0) ≡ Err (record { line = 0; kind = kind.NotYetBuilt })
  pub memories : read with_memories (value.Object 0) ≡ Ok the_memories
  pub read_without_a_port : read fetched (value.Object 0) ≡ Err (record { line = 0; kind = kind.NotYetBuilt })
  -- the bits of so many states
  pub no_states : state_bits 0 ≡ 1
  pub two_states : state_bits 2 ≡ 1
  pub three_states : state_bits 3 ≡ 2
  pub five_states : state_bits 5 ≡ 3
  pub most_states : state_bits 256 ≡ 8
  -- registers in the order of the attributes that bound them first, a submodule between two of them, and what has no name last
  pub registers : read equipped (value.Object 0) ≡ Ok the_equipped
  pub no_source : read without_source (value.Object 0) ≡ Err (record { line = 9; kind = kind.WrongCount })
  pub enable_named : read enable_read (value.Object 0) ≡ Err (record { line = 0; kind = kind.NotYetBuilt })
  -- an attribute that is bound to something else later leaves what it bound first
  pub modules_bound_again : submodules bound_again 0 ≡ named_submodule 1 ∷ named_submodule 2 ∷ []
