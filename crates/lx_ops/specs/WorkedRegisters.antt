-- Attributes of registers, of event managers and of their sources, worked by hand.
use Rattle.std.specs.Prelude.{◌≡◌, ℕ, pos, Bool, true, false, List, [], ◌∷◌, ◌++◌, map, codes, None, Result, Ok}
use Rattle.lx_text.specs.declared.faults.Fault.{Fault}
use Rattle.lx_text.specs.declared.faults.Kind.TheVariants as kind
use Rattle.lx_text.specs.declared.faults.LimitKind.TheVariants as limit
use Rattle.lx_value.specs.declared.numbers.PyOp.TheVariants as op
use Rattle.lx_fhdl.specs.Below.{ExprId}
use Rattle.lx_fhdl.specs.Instance.{the_expr, the_signal}
use Rattle.lx_description.specs.declared.modules.ConstValue.TheVariants as constant
use Rattle.lx_description.specs.declared.registers.Field.{Field}
use Rattle.lx_description.specs.declared.registers.RegDecl.{RegDecl}
use Rattle.lx_description.specs.declared.registers.RegKind.TheVariants as register
use Rattle.lx_description.specs.declared.registers.SourceKind.TheVariants as source
use Rattle.lx_state.specs.declared.machine.Machine.{Machine}
use Rattle.lx_state.specs.declared.machine.ManagerState.{ManagerState}
use Rattle.lx_state.specs.declared.machine.ModuleKind.{ModuleKind}
use Rattle.lx_state.specs.declared.machine.ModuleKind.TheVariants as bases
use Rattle.lx_state.specs.declared.machine.SourceState.{SourceState}
use Rattle.lx_state.specs.declared.machine.What.TheVariants as what
use Rattle.lx_state.specs.declared.values.Hub.TheVariants as hub
use Rattle.lx_state.specs.declared.values.Method.TheVariants as method
use Rattle.lx_state.specs.declared.values.Value.{Value}
use Rattle.lx_state.specs.declared.values.Value.TheVariants as value
use Rattle.lx_state.specs.Worked.{seen}
use Rattle.lx_objects.specs.Fsms.{stand_in}
use Rattle.lx_ops.specs.Attributes.{attribute_of}
use Rattle.lx_ops.specs.Binary.{binary}
use Rattle.lx_ops.specs.Compare.{compare, negated}
use Rattle.lx_ops.specs.Items.{item_of}
use Rattle.lx_ops.specs.Places.{add_at, adds, bind_at, holder_of}
use Rattle.lx_ops.specs.Worked.{a_module, an_object, at_nine, int, own_bound, submodules, top, under, value_of}
use Rattle.lx_ops.specs.declared.attributes.Fragment.TheVariants as fragment
use Rattle.lx_ops.specs.declared.comparisons.Comparison.TheVariants as by_
use Rattle.lx_ops.specs.declared.places.Holder.TheVariants as holder

-- ---- registers

abbrev pub a_field : List ℕ → ℕ → Field
a_field name offset = record { name = name; offset = offset; size = 2; reset = pos 0; line = 1 }

-- a storage of 8 bits that the circuit may write, with the field mode
abbrev pub a_storage : RegDecl
a_storage = record { name = []; kind = register.Storage; size = 8; reset = pos 0; atomic = false; from_dev = true; fields = a_field (codes "mode") 0 ∷ []; signals = []; line = 1 }

-- a status with two fields x
abbrev pub a_status : RegDecl
a_status = record a_storage { kind = register.Status; from_dev = false; fields = a_field (codes "x") 0 ∷ a_field (codes "x") 4 ∷ [] }

abbrev pub a_raw : RegDecl
a_raw = record a_status { kind = register.Raw; fields = [] }

abbrev pub exprs : List ℕ → List ExprId
exprs ks = map the_expr ks

-- the top with these, the same storage as one that software alone writes, a `CSRField` and a `CSRConstant`
abbrev pub registered : Machine
registered = record top {
  objects = top.objects ++ an_object (what.Register 0) ∷ an_object (what.Register 1) ∷ an_object (what.Register 2) ∷ an_object (what.Register 3) ∷ an_object (what.Field 0) ∷ an_object (what.Constant 0) ∷ [];
  registers =
      record { decl = a_storage; reads = exprs (10 ∷ 11 ∷ 12 ∷ 13 ∷ 14 ∷ []) }
      ∷ record { decl = a_status; reads = exprs (20 ∷ 21 ∷ 22 ∷ 23 ∷ []) }
      ∷ record { decl = a_raw; reads = exprs (30 ∷ 31 ∷ 32 ∷ 33 ∷ []) }
      ∷ record { decl = record a_storage { from_dev = false }; reads = exprs (40 ∷ 41 ∷ 42 ∷ []) }
      ∷ [];
  fields = record { name = codes "mode"; size = 2; offset = None; reset = pos 0; line = 1 } ∷ [];
  constants = constant.Nothing ∷ [];
}

-- an attribute of the k-th object
abbrev pub of_object : ℕ → List ℕ → Machine → Result Value Fault
of_object k name m = value_of (attribute_of 9 (value.Object k) name m)

-- a field's signal of the k-th register
abbrev pub of_fields : ℕ → List ℕ → Result Value Fault
of_fields k name = value_of (attribute_of 9 (value.Fields k) name registered)

abbrev pub reading : ℕ → Result Value Fault
reading k = Ok (value.Expr (the_expr k))

abbrev pub unknown_at_nine : List ℕ → Result Value Fault
unknown_at_nine name = at_nine (kind.UnknownName name)

-- Of registers.
pub record HaveRegisters : Type 0 where
  pub storage : of_object 1 (codes "storage") registered ≡ reading 10
  pub access : of_object 1 (codes "re") registered ≡ reading 11
  pub device_writes : of_object 1 (codes "we") registered ≡ reading 12
  pub device_data : of_object 1 (codes "dat_w") registered ≡ reading 13
  pub fields : of_object 1 (codes "fields") registered ≡ Ok (value.Fields 0)
  pub field : of_fields 0 (codes "mode") ≡ reading 14
  pub field_by_itself : of_object 1 (codes "mode") registered ≡ unknown_at_nine (codes "mode")
  pub part_of_path : of_object 1 (codes "fields_mode") registered ≡ unknown_at_nine (codes "fields_mode")
  pub no_field : of_fields 0 (codes "storage") ≡ unknown_at_nine (codes "storage")
  -- one that the circuit doesn't write
  pub no_data : of_object 4 (codes "dat_w") registered ≡ unknown_at_nine (codes "dat_w")
  pub field_behind_two : of_fields 3 (codes "mode") ≡ reading 42
  -- a status; of two fields with one name the first
  pub status : of_object 2 (codes "status") registered ≡ reading 20
  pub read_access : of_object 2 (codes "we") registered ≡ reading 21
  pub no_storage : of_object 2 (codes "storage") registered ≡ unknown_at_nine (codes "storage")
  pub first_of_two : of_fields 1 (codes "x") ≡ reading 22
  -- a raw register, which has no fields
  pub written : of_object 3 (codes "r") registered ≡ reading 30
  pub write_access : of_object 3 (codes "re") registered ≡ reading 31
  pub shown : of_object 3 (codes "w") registered ≡ reading 32
  pub shown_access : of_object 3 (codes "we") registered ≡ reading 33
  pub fields_of_raw : of_object 3 (codes "fields") registered ≡ Ok (value.Fields 2)
  pub field_of_raw : of_fields 2 (codes "r") ≡ unknown_at_nine (codes "r")
  -- what a register is made from has no attributes
  pub size_of_field : of_object 5 (codes "size") registered ≡ unknown_at_nine (codes "size")
  pub value_of_constant : of_object 6 (codes "value") registered ≡ unknown_at_nine (codes "value")
  -- fields are no value of Python
  pub compared : value_of (compare 9 by_.Equal (value.Fields 0) (value.Fields 0) registered) ≡ at_nine kind.WrongKind
  pub as_condition : value_of (negated 9 (value.Fields 0) registered) ≡ at_nine kind.WrongKind
  pub added : value_of (binary 9 op.Add (value.Fields 0) (int 1) registered) ≡ at_nine kind.WrongKind
  pub item : value_of (item_of 9 (value.Fields 0) (int 0) registered) ≡ at_nine kind.WrongKind
  pub field_bound : value_of (bind_at 9 (holder.Plain (value.Fields 0)) (codes "mode") (int 1) registered) ≡ at_nine kind.WrongKind
  pub register_bound : value_of (bind_at 9 (holder.Plain (value.Object 1)) (codes "storage") (int 1) registered) ≡ at_nine kind.WrongKind

-- ---- events

abbrev pub a_source : ℕ → Bool → SourceState
a_source object bound = record { object = object; kind = source.Pulse; signals = []; reads = exprs (20 ∷ 21 ∷ 22 ∷ 23 ∷ []); bound = bound }

abbrev pub a_manager : ManagerState
a_manager = record { object = 1; «module» = 1; sources = 0 ∷ []; names = (codes "zero", 0) ∷ []; irq = the_signal 0; read = the_expr 10; enable = the_signal 1 }

-- the top with an event manager that has the source zero, and with another source
abbrev pub managed : Machine
managed = record top {
  objects = top.objects ++ an_object (what.Manager 0) ∷ an_object (what.Source 0) ∷ an_object (what.Source 1) ∷ [];
  modules = top.modules ++ stand_in 1 ∷ [];
  managers = a_manager ∷ [];
  sources = a_source 2 true ∷ a_source 3 false ∷ [];
}

abbrev pub a_manager_value : Value
a_manager_value = value.Object 1

-- this source, and the other one
abbrev pub zero_source : Value
zero_source = value.Object 2

abbrev pub free_source : Value
free_source = value.Object 3

-- Of event managers and sources.
pub record HaveSources : Type 0 where
  pub trigger : of_object 2 (codes "trigger") managed ≡ reading 20
  pub status : of_object 2 (codes "status") managed ≡ reading 21
  pub pending : of_object 2 (codes "pending") managed ≡ reading 22
  pub clear : of_object 2 (codes "clear") managed ≡ reading 23
  pub no_edge : of_object 2 (codes "edge") managed ≡ unknown_at_nine (codes "edge")
  pub irq : of_object 1 (codes "irq") managed ≡ reading 10
  pub finalize : of_object 1 (codes "finalize") managed ≡ Ok (value.Method method.Finalize)
  pub bound_source : of_object 1 (codes "zero") managed ≡ Ok zero_source
  pub no_enable : of_object 1 (codes "enable") managed ≡ unknown_at_nine (codes "enable")
  -- a source with the name of what each event manager has comes before it
  pub source_as_irq : of_object 1 (codes "irq") (record managed { managers = record a_manager { names = (codes "irq", 1) ∷ [] } ∷ [] }) ≡ Ok free_source

abbrev pub on_manager : List ℕ → Value → Machine → Result (Unit {0}) Fault
on_manager name v m = value_of (bind_at 9 (holder.Plain a_manager_value) name v m)

abbrev pub source_lists : Machine → List (List ℕ × List (List ℕ × ℕ))
source_lists m = map (λ (x : ManagerState). (x.sources, x.names)) m.managers

abbrev pub are_bound : Machine → List Bool
are_bound m = map (λ (s : SourceState). s.bound) m.sources

-- Of what is bound to event managers, and of where they are added.
pub record AreBound : Type 0 where
  pub second : seen source_lists (bind_at 9 (holder.Plain a_manager_value) (codes "one") free_source managed) ≡ Ok ((0 ∷ 1 ∷ [], (codes "zero", 0) ∷ (codes "one", 1) ∷ []) ∷ [])
  pub second_is_bound : seen are_bound (bind_at 9 (holder.Plain a_manager_value) (codes "one") free_source managed) ≡ Ok (true ∷ true ∷ [])
  pub again : on_manager (codes "one") zero_source managed ≡ at_nine kind.WrongKind
  pub an_integer : on_manager (codes "one") (int 1) managed ≡ at_nine kind.WrongKind
  pub itself : on_manager (codes "one") a_manager_value managed ≡ at_nine kind.WrongKind
  pub most : on_manager (codes "one") free_source (record managed { managers = record a_manager { sources = 0 ∷ 1 ∷ 2 ∷ 3 ∷ 4 ∷ 5 ∷ 6 ∷ 7 ∷ 8 ∷ 9 ∷ 10 ∷ 11 ∷ 12 ∷ 13 ∷ 14 ∷ 15 ∷ 16 ∷ 17 ∷ 18 ∷ 19 ∷ 20 ∷ 21 ∷ 22 ∷ 23 ∷ 24 ∷ 25 ∷ 26 ∷ 27 ∷ 28 ∷ 29 ∷ 30 ∷ 31 ∷ [] } ∷ [] }) ≡ at_nine (kind.Limit limit.Sources)
  -- a manager has no fragments, so a source may have the name of one
  pub named_as_a_fragment : on_manager (codes "sync") free_source managed ≡ Ok tt
  pub fragment_of_module : own_bound (codes "sync") free_source managed ≡ at_nine kind.WrongKind
  pub no_fragment : value_of (holder_of 9 a_manager_value (codes "sync") managed) ≡ at_nine (kind.UnknownName (codes "sync"))
  pub adds_nothing : adds managed (holder.Plain a_manager_value) (codes "sync") ≡ false
  -- it is added as a module is
  pub added_by_name : seen submodules (bind_at 9 (under fragment.Submodules) (codes "ev") a_manager_value managed) ≡ Ok ((record { place = 1; named = true } ∷ []) ∷ [] ∷ [])
  pub added_without : seen submodules (add_at 9 (holder.Plain (value.Object 0)) (codes "submodules") a_manager_value managed) ≡ Ok ((record { place = 1; named = false } ∷ []) ∷ [] ∷ [])
  pub added_by_binding : seen submodules (bind_at 9 (holder.Plain (value.Object 0)) (codes "ev") a_manager_value managed) ≡ Ok ((record { place = 1; named = true } ∷ []) ∷ [] ∷ [])
  pub source_as_module : value_of (bind_at 9 (under fragment.Submodules) (codes "s") free_source managed) ≡ at_nine kind.WrongKind
  pub as_special : value_of (bind_at 9 (under fragment.Specials) (codes "ev") a_manager_value managed) ≡ at_nine kind.WrongKind

-- ---- systems

-- a system's top with an interface of the bus and a region
abbrev pub bussed : Machine
bussed = record top {
  objects = top.objects ++ an_object (what.Interface 0) ∷ an_object (what.Region 0) ∷ [];
  interfaces = record { signals = []; reads = exprs (20 ∷ 21 ∷ 22 ∷ 23 ∷ 24 ∷ 25 ∷ 26 ∷ 27 ∷ 28 ∷ []); handed = false } ∷ [];
  regions = record { origin = None; size = 256; cached = true } ∷ [];
}

-- with one module of this kind, which has the attribute bus
abbrev pub with_bus : ModuleKind → Machine
with_bus kind_ = record bussed { modules = record (a_module kind_) { attributes = (codes "bus", int 5) ∷ [] } ∷ [] }

-- Of interfaces of the bus, and of what a system has besides its attributes.
pub record HaveInterfaces : Type 0 where
  pub adr : of_object 1 (codes "adr") bussed ≡ reading 20
  pub dat_w : of_object 1 (codes "dat_w") bussed ≡ reading 21
  pub dat_r : of_object 1 (codes "dat_r") bussed ≡ reading 22
  pub sel : of_object 1 (codes "sel") bussed ≡ reading 23
  pub cyc : of_object 1 (codes "cyc") bussed ≡ reading 24
  pub stb : of_object 1 (codes "stb") bussed ≡ reading 25
  pub we : of_object 1 (codes "we") bussed ≡ reading 26
  pub ack : of_object 1 (codes "ack") bussed ≡ reading 27
  pub err : of_object 1 (codes "err") bussed ≡ reading 28
  pub no_burst : of_object 1 (codes "cti") bussed ≡ unknown_at_nine (codes "cti")
  pub size_of_region : of_object 2 (codes "size") bussed ≡ unknown_at_nine (codes "size")
  pub ram : of_object 0 (codes "add_ram") bussed ≡ Ok (value.Method method.AddRam)
  pub rom : of_object 0 (codes "add_rom") bussed ≡ Ok (value.Method method.AddRom)
  pub constants : of_object 0 (codes "add_constant") bussed ≡ Ok (value.Method method.AddConstant)
  pub ports : of_object 0 (codes "ios") bussed ≡ unknown_at_nine (codes "ios")
  -- an attribute is read in place of what a system has, which other modules don't have
  pub bound_bus : of_object 0 (codes "bus") (with_bus bases.Soc) ≡ Ok (int 5)
  pub bus_of_a_module : of_object 0 (codes "csr") (with_bus bases.Lite) ≡ unknown_at_nine (codes "csr")
  pub bus_as_condition : value_of (negated 9 (value.Hub hub.Bus) bussed) ≡ at_nine kind.WrongKind
  pub bus_is_bound : value_of (bind_at 9 (holder.Plain (value.Hub hub.Bus)) (codes "x") (int 1) bussed) ≡ at_nine kind.WrongKind
