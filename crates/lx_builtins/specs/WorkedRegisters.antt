-- The built-in names of registers and events, worked by hand.
use Rattle.std.specs.Prelude.{◌≡◌, ℕ, ℤ, pos, negsuc, Bool, true, false, ◌^◌, List, [], ◌∷◌, ◌-◌, map, codes, Option, Some, None, Result, Ok}
use Rattle.lx_text.specs.declared.faults.Fault.{Fault}
use Rattle.lx_text.specs.declared.faults.Kind.TheVariants as kind
use Rattle.lx_text.specs.declared.faults.LimitKind.TheVariants as limit
use Rattle.lx_fhdl.specs.Instance.{the_expr, the_signal}
use Rattle.lx_description.specs.declared.modules.ConstValue.{ConstValue}
use Rattle.lx_description.specs.declared.modules.ConstValue.TheVariants as constant
use Rattle.lx_description.specs.declared.registers.Field.{Field}
use Rattle.lx_description.specs.declared.registers.RegKind.{RegKind}
use Rattle.lx_description.specs.declared.registers.RegKind.TheVariants as register
use Rattle.lx_description.specs.declared.registers.SourceKind.{SourceKind}
use Rattle.lx_description.specs.declared.registers.SourceKind.TheVariants as source
use Rattle.lx_state.specs.declared.machine.FieldState.{FieldState}
use Rattle.lx_state.specs.declared.machine.Machine.{Machine}
use Rattle.lx_state.specs.declared.machine.ManagerState.{ManagerState}
use Rattle.lx_state.specs.declared.machine.Object.{Object}
use Rattle.lx_state.specs.declared.machine.RegisterState.{RegisterState}
use Rattle.lx_state.specs.declared.machine.SourceState.{SourceState}
use Rattle.lx_state.specs.declared.machine.What.TheVariants as what
use Rattle.lx_state.specs.declared.values.Builtin.{Builtin}
use Rattle.lx_state.specs.declared.values.Builtin.TheVariants as builtin
use Rattle.lx_state.specs.declared.values.Method.TheVariants as method
use Rattle.lx_state.specs.declared.values.Value.{Value}
use Rattle.lx_state.specs.declared.values.Value.TheVariants as value
use Rattle.lx_state.specs.Step.{Outcome}
use Rattle.lx_state.specs.Worked.{seen, start}
use Rattle.lx_ops.specs.Worked.{an_object, at_nine, int, items, value_of}
use Rattle.lx_builtins.specs.Calls.{builtin_called, method_called}
use Rattle.lx_builtins.specs.Worked.{call, given, long, minus}

-- ---- fields

-- the texts "ctl", "1" and one of 65 bytes
abbrev pub named : Machine
named = record start { texts = codes "ctl" ∷ codes "1" ∷ long ∷ [] }

abbrev pub ctl : Value
ctl = value.Text 0

abbrev pub digit : Value
digit = value.Text 1

abbrev pub field_with : List Value → List (List ℕ) → List Value → Outcome Value
field_with placed names values = builtin_called 9 builtin.CsrField (given placed names values) named

abbrev pub field_fault : List Value → Result Value Fault
field_fault placed = value_of (call builtin.CsrField placed named)

abbrev pub fields : Machine → List FieldState
fields m = m.fields

abbrev pub a_field : ℕ → Option ℕ → ℤ → FieldState
a_field size offset reset = record { name = codes "ctl"; size = size; offset = offset; reset = reset; line = 9 }

-- Of `CSRField`.
pub record HaveFields : Type 0 where
  pub plain : seen fields (field_with (ctl ∷ []) [] []) ≡ Ok (a_field 1 None (pos 0) ∷ [])
  pub by_place : seen fields (field_with (ctl ∷ int 4 ∷ int 8 ∷ minus 0 ∷ []) [] []) ≡ Ok (a_field 4 (Some 8) (negsuc 0) ∷ [])
  pub by_name : seen fields (field_with [] (codes "offset" ∷ codes "name" ∷ []) (value.Nothing ∷ ctl ∷ [])) ≡ Ok (a_field 1 None (pos 0) ∷ [])
  -- its description and its values are anything
  pub anything : seen fields (field_with (ctl ∷ []) (codes "description" ∷ codes "values" ∷ []) (int 0 ∷ value.Nothing ∷ [])) ≡ Ok (a_field 1 None (pos 0) ∷ [])
  pub without_name : field_fault [] ≡ at_nine kind.WrongCount
  pub no_identifier : field_fault (digit ∷ []) ≡ at_nine kind.BadKey
  pub no_text : field_fault (int 0 ∷ []) ≡ at_nine kind.WrongKind
  pub long_name : field_fault (value.Text 2 ∷ []) ≡ at_nine (kind.Limit limit.Name)
  pub no_bits : field_fault (ctl ∷ int 0 ∷ []) ≡ at_nine kind.BadWidth
  pub below_zero : field_fault (ctl ∷ minus 0 ∷ []) ≡ at_nine kind.NumberRange
  pub most_bits : field_fault (ctl ∷ int 255 ∷ []) ≡ Ok (value.Object 0)
  pub many_bits : field_fault (ctl ∷ int 256 ∷ []) ≡ at_nine kind.NumberRange
  pub last_offset : field_fault (ctl ∷ int 1 ∷ int 255 ∷ []) ≡ Ok (value.Object 0)
  pub past_offsets : field_fault (ctl ∷ int 1 ∷ int 256 ∷ []) ≡ at_nine kind.NumberRange
  pub before_offsets : field_fault (ctl ∷ int 1 ∷ minus 0 ∷ []) ≡ at_nine kind.NumberRange
  pub offset_as_text : field_fault (ctl ∷ int 1 ∷ ctl ∷ []) ≡ at_nine kind.WrongKind
  pub no_reset : field_fault (ctl ∷ int 1 ∷ int 0 ∷ value.Nothing ∷ []) ≡ at_nine kind.WrongKind
  -- the argument that stands first has the first fault
  pub first_placed : field_fault (digit ∷ int 0 ∷ []) ≡ at_nine kind.BadKey
  pub first_named : value_of (field_with [] (codes "size" ∷ codes "name" ∷ []) (int 0 ∷ digit ∷ [])) ≡ at_nine kind.BadWidth

-- ---- registers

abbrev pub described_field : List ℕ → ℕ → Option ℕ → ℤ → FieldState
described_field name size offset reset = record { name = name; size = size; offset = offset; reset = reset; line = 1 }

-- the fields mode of 2 bits with the value 5, x of 3 bits from bit 4 on with the value 7, and wide of 64 bits; lists of mode
-- and x, of nothing, of mode and an integer, of wide and mode, and of wide
abbrev pub described : Machine
described = record named {
  objects = an_object (what.Field 0) ∷ an_object (what.Field 1) ∷ an_object (what.Field 2) ∷ [];
  fields = described_field (codes "mode") 2 None (pos 5) ∷ described_field (codes "x") 3 (Some 4) (pos 7) ∷ described_field (codes "wide") 64 None (pos 0) ∷ [];
  lists = items (value.Object 0 ∷ value.Object 1 ∷ []) ∷ items [] ∷ items (value.Object 0 ∷ int 1 ∷ []) ∷ items (value.Object 2 ∷ value.Object 0 ∷ []) ∷ items (value.Object 2 ∷ []) ∷ [];
}

abbrev pub register_with : Builtin → List Value → List (List ℕ) → List Value → Outcome Value
register_with b placed names values = builtin_called 9 b (given placed names values) described

abbrev pub register_fault : Builtin → List Value → List (List ℕ) → List Value → Result Value Fault
register_fault b placed names values = value_of (register_with b placed names values)

-- what each register is, its bits, and its first value
abbrev pub registers : Machine → List (RegKind × ℕ × ℤ)
registers m = map (λ (r : RegisterState). (r.decl.kind, r.decl.size, r.decl.reset)) m.registers

-- whether software writes it at once, and whether the circuit may write it
abbrev pub flags : Machine → List (Bool × Bool)
flags m = map (λ (r : RegisterState). (r.decl.atomic, r.decl.from_dev)) m.registers

-- the places of its fields' lowest bits
abbrev pub offsets : Machine → List (List ℕ)
offsets m = map (λ (r : RegisterState). map (λ (f : Field). f.offset) r.decl.fields) m.registers

abbrev pub names_given : Machine → List (Option (List ℕ))
names_given m = map (λ (o : Object). o.given) m.objects

abbrev pub fields_name : List (List ℕ)
fields_name = codes "fields" ∷ []

-- Of registers.
pub record HaveSizes : Type 0 where
  pub plain : seen registers (register_with builtin.CsrStorage [] [] []) ≡ Ok ((register.Storage, 1, pos 0) ∷ [])
  pub plain_status : seen registers (register_with builtin.CsrStatus [] [] []) ≡ Ok ((register.Status, 1, pos 0) ∷ [])
  pub plain_raw : seen registers (register_with builtin.Csr [] [] []) ≡ Ok ((register.Raw, 1, pos 0) ∷ [])
  -- the first value is taken modulo 2 to the bits
  pub wrapped : seen registers (register_with builtin.CsrStorage (int 8 ∷ int 511 ∷ []) [] []) ≡ Ok ((register.Storage, 8, pos 255) ∷ [])
  pub below_zero : seen registers (register_with builtin.CsrStatus (int 4 ∷ minus 0 ∷ []) [] []) ≡ Ok ((register.Status, 4, pos 15) ∷ [])
  pub software_alone : seen flags (register_with builtin.CsrStorage [] [] []) ≡ Ok ((false, false) ∷ [])
  pub at_once : seen flags (register_with builtin.CsrStorage [] (codes "atomic_write" ∷ []) (int 1 ∷ [])) ≡ Ok ((true, false) ∷ [])
  pub by_the_circuit : seen flags (register_with builtin.CsrStorage [] (codes "write_from_dev" ∷ []) (int 1 ∷ [])) ≡ Ok ((false, true) ∷ [])
  pub own_name : seen names_given (register_with builtin.Csr (int 1 ∷ ctl ∷ []) [] []) ≡ Ok (None ∷ None ∷ None ∷ Some (codes "ctl") ∷ [])
  pub described_by_anything : register_fault builtin.CsrStatus [] (codes "description" ∷ []) (value.Nothing ∷ []) ≡ Ok (value.Object 3)
  pub most_bits : register_fault builtin.CsrStorage (int 64 ∷ []) [] [] ≡ Ok (value.Object 3)
  pub many_bits : register_fault builtin.CsrStorage (int 65 ∷ []) [] [] ≡ at_nine kind.BadWidth
  pub no_bits : register_fault builtin.CsrStatus (int 0 ∷ []) [] [] ≡ at_nine kind.BadWidth
  pub fewer_than_no_bits : register_fault builtin.CsrStatus (minus 0 ∷ []) [] [] ≡ at_nine kind.BadWidth
  pub most_of_raw : register_fault builtin.Csr (int 32 ∷ []) [] [] ≡ Ok (value.Object 3)
  pub many_of_raw : register_fault builtin.Csr (int 33 ∷ []) [] [] ≡ at_nine kind.BadWidth
  -- fields give the bits and the first value; beside them both are looked at for their kind alone
  pub by_fields : seen registers (register_with builtin.CsrStorage [] fields_name (value.List 0 ∷ [])) ≡ Ok ((register.Storage, 7, pos 113) ∷ [])
  pub at_their_places : seen offsets (register_with builtin.CsrStatus [] fields_name (value.List 0 ∷ [])) ≡ Ok ((0 ∷ 4 ∷ []) ∷ [])
  pub beside_fields : seen registers (register_with builtin.CsrStatus (int 0 ∷ int 1 ∷ value.List 0 ∷ []) [] []) ≡ Ok ((register.Status, 7, pos 113) ∷ [])
  pub size_as_text : register_fault builtin.CsrStorage (ctl ∷ []) fields_name (value.List 0 ∷ []) ≡ at_nine kind.WrongKind
  pub reset_as_text : register_fault builtin.CsrStorage (int 1 ∷ ctl ∷ []) fields_name (value.List 0 ∷ []) ≡ at_nine kind.WrongKind
  pub without_fields : seen registers (register_with builtin.CsrStorage (int 8 ∷ []) fields_name (value.List 1 ∷ [])) ≡ Ok ((register.Storage, 8, pos 0) ∷ [])
  pub no_bits_without_fields : register_fault builtin.CsrStorage (int 0 ∷ []) fields_name (value.List 1 ∷ []) ≡ at_nine kind.BadWidth
  pub an_integer_among : register_fault builtin.CsrStorage [] fields_name (value.List 2 ∷ []) ≡ at_nine kind.WrongKind
  pub tuple_of_fields : register_fault builtin.CsrStorage [] fields_name (value.Tuple 0 ∷ []) ≡ at_nine kind.WrongKind
  pub no_list : register_fault builtin.CsrStatus [] fields_name (value.Nothing ∷ []) ≡ at_nine kind.WrongKind
  pub as_wide_as_a_register : seen registers (register_with builtin.CsrStatus [] fields_name (value.List 4 ∷ [])) ≡ Ok ((register.Status, 64, pos 0) ∷ [])
  pub too_wide : register_fault builtin.CsrStatus [] fields_name (value.List 3 ∷ []) ≡ at_nine kind.BadWidth
  pub no_such_name : register_fault builtin.CsrStatus [] (codes "atomic_write" ∷ []) (int 1 ∷ []) ≡ at_nine kind.WrongCount
  pub raw_without_fields : register_fault builtin.Csr [] fields_name (value.List 0 ∷ []) ≡ at_nine kind.WrongCount
  -- the argument that stands first has the first fault; fields that reach too far come after all of them
  pub first_placed : register_fault builtin.CsrStorage (int 0 ∷ ctl ∷ []) [] [] ≡ at_nine kind.BadWidth
  pub first_named : register_fault builtin.CsrStorage [] (codes "name" ∷ codes "size" ∷ []) (digit ∷ int 0 ∷ []) ≡ at_nine kind.BadKey
  pub size_before_tuple : register_fault builtin.CsrStorage (int 0 ∷ []) fields_name (value.Tuple 0 ∷ []) ≡ at_nine kind.BadWidth
  pub size_beside_an_integer : register_fault builtin.CsrStorage (int 0 ∷ []) fields_name (value.List 2 ∷ []) ≡ at_nine kind.WrongKind
  pub name_before_width : register_fault builtin.CsrStorage [] (codes "fields" ∷ codes "name" ∷ []) (value.List 3 ∷ digit ∷ []) ≡ at_nine kind.BadKey

-- ---- constants

-- the texts "v1.0 ~", `a"b`, `a\b`, "a,b", and one with a byte that isn't printable
abbrev pub told : Machine
told = record start { texts = codes "v1.0 ~" ∷ (97 ∷ 34 ∷ 98 ∷ []) ∷ (97 ∷ 92 ∷ 98 ∷ []) ∷ codes "a,b" ∷ (127 ∷ []) ∷ [] }

abbrev pub constant_of : Value → Result (List ConstValue) Fault
constant_of v = seen (λ m. m.constants) (call builtin.CsrConstant (v ∷ []) told)

-- Of `CSRConstant`.
pub record AreConstants : Type 0 where
  pub number : constant_of (int 5) ≡ Ok (constant.Number (pos 5) ∷ [])
  pub greatest : constant_of (int (2 ^ 64 - 1)) ≡ Ok (constant.Number (pos (2 ^ 64 - 1)) ∷ [])
  pub past_the_greatest : constant_of (int (2 ^ 64)) ≡ at_nine kind.NumberRange
  pub least : constant_of (minus (2 ^ 63 - 1)) ≡ Ok (constant.Number (negsuc (2 ^ 63 - 1)) ∷ [])
  pub past_the_least : constant_of (minus (2 ^ 63)) ≡ at_nine kind.NumberRange
  pub text : constant_of (value.Text 0) ≡ Ok (constant.Text (codes "v1.0 ~") ∷ [])
  pub quote : constant_of (value.Text 1) ≡ at_nine kind.BadKey
  pub backslash : constant_of (value.Text 2) ≡ at_nine kind.BadKey
  pub comma : constant_of (value.Text 3) ≡ at_nine kind.BadKey
  pub unprintable : constant_of (value.Text 4) ≡ at_nine kind.BadKey
  pub nothing : constant_of value.Nothing ≡ Ok (constant.Nothing ∷ [])
  pub no_value : constant_of (value.Object 0) ≡ at_nine kind.WrongKind
  pub without_value : value_of (call builtin.CsrConstant [] told) ≡ at_nine kind.WrongCount
  pub its_place : value_of (call builtin.CsrConstant (int 5 ∷ []) told) ≡ Ok (value.Object 0)

-- ---- events

-- the texts "falling", "rising", "both" and "one"
abbrev pub edged : Machine
edged = record start { texts = codes "falling" ∷ codes "rising" ∷ codes "both" ∷ codes "one" ∷ [] }

abbrev pub source_kinds : Machine → List SourceKind
source_kinds m = map (λ (s : SourceState). s.kind) m.sources

abbrev pub kind_of : Builtin → List Value → Result (List SourceKind) Fault
kind_of b placed = seen source_kinds (call b placed edged)

abbrev pub source_lists : Machine → List (List ℕ)
source_lists m = map (λ (x : ManagerState). x.sources) m.managers

abbrev pub finalized : List Value → Outcome Value
finalized placed = method_called 9 method.Finalize (given placed [] []) edged

-- with an event manager and a source that isn't bound
abbrev pub managed : Machine
managed = record edged {
  objects = an_object (what.Manager 0) ∷ an_object (what.Source 0) ∷ [];
  managers = record { object = 0; «module» = 0; sources = []; names = []; irq = the_signal 0; read = the_expr 0; enable = the_signal 1 } ∷ [];
  sources = record { object = 1; kind = source.Pulse; signals = []; reads = []; bound = false } ∷ [];
}

-- Of event managers and of sources.
pub record HaveSources : Type 0 where
  pub no_sources : seen source_lists (call builtin.EventManager [] edged) ≡ Ok ([] ∷ [])
  pub manager_of_one : value_of (call builtin.EventManager (int 1 ∷ []) edged) ≡ at_nine kind.WrongCount
  pub pulse : kind_of builtin.EventSourcePulse [] ≡ Ok (source.Pulse ∷ [])
  pub level : kind_of builtin.EventSourceLevel [] ≡ Ok (source.Level ∷ [])
  pub pulse_of_one : kind_of builtin.EventSourcePulse (value.Text 0 ∷ []) ≡ at_nine kind.WrongCount
  pub level_of_one : kind_of builtin.EventSourceLevel (value.Text 0 ∷ []) ≡ at_nine kind.WrongCount
  pub falling : kind_of builtin.EventSourceProcess (value.Text 0 ∷ []) ≡ Ok (source.Falling ∷ [])
  pub rising : seen source_kinds (builtin_called 9 builtin.EventSourceProcess (given [] (codes "edge" ∷ []) (value.Text 1 ∷ [])) edged) ≡ Ok (source.Rising ∷ [])
  pub without_edge : kind_of builtin.EventSourceProcess [] ≡ Ok (source.Falling ∷ [])
  pub another_edge : kind_of builtin.EventSourceProcess (value.Text 2 ∷ []) ≡ at_nine kind.WrongKind
  pub no_text : kind_of builtin.EventSourceProcess (int 1 ∷ []) ≡ at_nine kind.WrongKind
  pub two_edges : kind_of builtin.EventSourceProcess (value.Text 0 ∷ value.Text 1 ∷ []) ≡ at_nine kind.WrongCount
  -- it leaves everything as it is
  pub finalize : finalized [] ≡ Ok (value.Nothing, edged)
  pub finalize_of_one : value_of (finalized (int 1 ∷ [])) ≡ at_nine kind.WrongCount
  -- a manager holds attributes, which are sources alone, and a source holds none
  pub set : seen source_lists (call builtin.SetAttr (value.Object 0 ∷ value.Text 3 ∷ value.Object 1 ∷ []) managed) ≡ Ok ((0 ∷ []) ∷ [])
  pub set_to_an_integer : value_of (call builtin.SetAttr (value.Object 0 ∷ value.Text 3 ∷ int 1 ∷ []) managed) ≡ at_nine kind.WrongKind
  pub set_without_name : value_of (call builtin.SetAttr (value.Object 0 ∷ int 1 ∷ int 1 ∷ []) managed) ≡ at_nine kind.WrongKind
  pub set_on_a_source : value_of (call builtin.SetAttr (value.Object 1 ∷ value.Text 3 ∷ value.Object 1 ∷ []) managed) ≡ at_nine kind.WrongKind
  pub got : value_of (call builtin.GetAttr (value.Object 0 ∷ value.Text 3 ∷ []) managed) ≡ at_nine (kind.UnknownName (codes "one"))
