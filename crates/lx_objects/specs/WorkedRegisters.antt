-- Registers and constants, worked by hand.
use Rattle.std.specs.Prelude.{◌≡◌, ℕ, ℤ, pos, negsuc, Bool, true, false, List, [], ◌∷◌, map, codes, Option, Some, None, Ok}
use Rattle.lx_num.specs.Ints.{unsigned}
use Rattle.lx_fhdl.specs.Instance.{the_expr, the_signal, the_target}
use Rattle.lx_fhdl.specs.declared.design.Signal.{Signal}
use Rattle.lx_fhdl.specs.declared.stmts.Target.TheVariants as target
use Rattle.lx_description.specs.declared.modules.ConstValue.{ConstValue}
use Rattle.lx_description.specs.declared.modules.ConstValue.TheVariants as constant
use Rattle.lx_description.specs.declared.registers.Field.{Field}
use Rattle.lx_description.specs.declared.registers.RegDecl.{RegDecl}
use Rattle.lx_description.specs.declared.registers.RegKind.{RegKind}
use Rattle.lx_description.specs.declared.registers.RegKind.TheVariants as kind
use Rattle.lx_state.specs.declared.machine.FieldState.{FieldState}
use Rattle.lx_state.specs.declared.machine.Form.TheVariants as form
use Rattle.lx_state.specs.declared.machine.Machine.{Machine}
use Rattle.lx_state.specs.declared.machine.Made.{Made}
use Rattle.lx_state.specs.declared.machine.Module.{Module}
use Rattle.lx_state.specs.declared.machine.RegisterState.{RegisterState}
use Rattle.lx_state.specs.declared.machine.What.TheVariants as what
use Rattle.lx_state.specs.declared.values.Value.{Value}
use Rattle.lx_state.specs.Step.{Outcome, ◌>>=◌}
use Rattle.lx_state.specs.Worked.{homes, seen, start}
use Rattle.lx_objects.specs.Modules.{set_attribute}
use Rattle.lx_objects.specs.Registers.{constant_made, field_made, fields_end, fitting, laid, register_made, with_resets}
use Rattle.lx_objects.specs.Worked.{a_module, a_part, nodes, owners, specials, targets}
use Rattle.lx_objects.specs.WorkedMemories.{kinds, signals}

-- ---- fields

-- `CSRField("x", size=.., offset=..)`
abbrev pub asked : ℕ → Option ℕ → FieldState
asked size offset = record { name = codes "x"; size = size; offset = offset; reset = pos 0; line = 8 }

abbrev pub field : ℕ → ℕ → ℤ → Field
field offset size reset = record { name = codes "x"; offset = offset; size = size; reset = reset; line = 8 }

abbrev pub offsets : List FieldState → List ℕ
offsets fs = map (λ (f : Field). f.offset) (laid 0 fs)

abbrev pub fields_made : Machine → List FieldState
fields_made m = m.fields

-- ---- registers

abbrev pub a_register : RegKind → Bool → List Field → RegDecl
a_register kind_ from_dev fs = record { name = []; kind = kind_; size = 8; reset = pos 5; atomic = false; from_dev = from_dev; fields = fs; signals = []; line = 9 }

abbrev pub made : RegDecl → Outcome Value
made r = register_made r None start

abbrev pub registers : Machine → List RegisterState
registers m = m.registers

-- an unsigned signal
abbrev pub a_wire : ℕ → ℤ → Bool → Signal
a_wire bits reset given = record { path = []; shape = unsigned bits; reset = reset; reset_less = false; by_bus = given; line = 9 }

-- two fields of a status, the second one with a first value past its bits
abbrev pub two_fields : List Field
two_fields = record (field 0 1 (pos 1)) { name = codes "a"; line = 7 } ∷ record (field 1 3 (pos 10)) { name = codes "b" } ∷ []

abbrev pub statements : Machine → List Made
statements m = m.made

-- the bits of a status are driven at this line
abbrev pub a_drive : ℕ → ℕ → ℕ → Made
a_drive line to from = record { form = form.Assign (the_target to) (the_expr from); line = line; size = 1; depth = 1; in_state = false }

abbrev pub driving : Machine → List ℕ
driving m = (specials m).fields

-- ---- constants, and what attributes bind

abbrev pub constants : Machine → List ConstValue
constants m = m.constants

-- two modules without attributes
abbrev pub modules_of_two : Machine
modules_of_two = record start { modules = a_module None 63 ∷ a_module None 63 ∷ [] }

abbrev pub bound : Machine → List (List ℕ)
bound m = map (λ (x : Module). x.bound) m.modules

-- a raw register that these attributes bind
abbrev pub bind_twice : ℕ → Outcome (Unit {0})
bind_twice second = (register_made (a_register kind.Raw false []) None >>= λ r. set_attribute 9 0 (codes "a") r >>= λ _. set_attribute 9 second (codes "b") r) modules_of_two

-- Of fields.
pub record AreLaid : Type 0 where
  -- without an offset a field follows the one before it
  pub follow : offsets (asked 3 None ∷ asked 2 (Some 8) ∷ asked 4 None ∷ []) ≡ 0 ∷ 8 ∷ 10 ∷ []
  pub follow_back : offsets (asked 4 (Some 4) ∷ asked 2 (Some 0) ∷ asked 1 None ∷ []) ≡ 4 ∷ 0 ∷ 2 ∷ []
  pub whole : laid 0 (asked 3 None ∷ []) ≡ field 0 3 (pos 0) ∷ []
  -- the greatest end counts
  pub first_end : fields_end (field 4 4 (pos 0) ∷ field 0 2 (pos 0) ∷ []) ≡ 8
  pub last_bit : fitting (field 63 1 (pos 0) ∷ []) ≡ Some (field 63 1 (pos 0) ∷ [])
  pub past_the_bits : fitting (field 60 5 (pos 0) ∷ field 0 1 (pos 0) ∷ []) ≡ None
  -- where two share a bit the later one counts; each is taken modulo 2 to its bits
  pub later_counts : with_resets (pos 0) (field 0 4 (pos 15) ∷ field 2 4 (pos 1) ∷ []) ≡ pos 7
  pub modulo_bits : with_resets (pos 0) (field 1 3 (negsuc 0) ∷ field 4 1 (pos 2) ∷ []) ≡ pos 14
  pub field_kept : seen fields_made (field_made (asked 3 None) start) ≡ Ok (asked 3 None ∷ [])
  pub object : seen kinds (field_made (asked 3 None) start) ≡ Ok (what.Field 0 ∷ [])

-- Of registers.
pub record HaveWires : Type 0 where
  -- a storage gives its signals, but for what the circuit writes
  pub storage_signals : seen signals (made (a_register kind.Storage true (field 4 3 (pos 2) ∷ []))) ≡ Ok (a_wire 8 (pos 5) true ∷ a_wire 1 (pos 0) true ∷ a_wire 1 (pos 0) false ∷ a_wire 8 (pos 0) false ∷ a_wire 3 (pos 2) true ∷ [])
  pub storage_parts : seen owners (made (a_register kind.Storage true (field 4 3 (pos 2) ∷ []))) ≡ Ok (a_part (codes "storage") ∷ a_part (codes "re") ∷ a_part (codes "we") ∷ a_part (codes "dat_w") ∷ a_part (codes "fields_x") ∷ [])
  pub software_alone : seen owners (made (a_register kind.Storage false [])) ≡ Ok (a_part (codes "storage") ∷ a_part (codes "re") ∷ [])
  pub nothing_drives : seen statements (made (a_register kind.Storage true two_fields)) ≡ Ok []
  -- a status gives `we` alone, and its fields drive its bits
  pub status_signals : seen signals (made (a_register kind.Status false two_fields)) ≡ Ok (a_wire 8 (pos 5) false ∷ a_wire 1 (pos 0) true ∷ a_wire 1 (pos 1) false ∷ a_wire 3 (pos 2) false ∷ [])
  pub status_parts : seen owners (made (a_register kind.Status false two_fields)) ≡ Ok (a_part (codes "status") ∷ a_part (codes "we") ∷ a_part (codes "fields_a") ∷ a_part (codes "fields_b") ∷ [])
  pub driven : seen statements (made (a_register kind.Status false two_fields)) ≡ Ok (a_drive 7 0 2 ∷ a_drive 8 1 3 ∷ [])
  pub driven_bits : seen targets (made (a_register kind.Status false two_fields)) ≡ Ok (target.Part (the_signal 0) 0 1 ∷ target.Part (the_signal 0) 1 3 ∷ [])
  pub kept : seen driving (made (a_register kind.Status false two_fields)) ≡ Ok (0 ∷ 1 ∷ [])
  pub no_node : seen nodes (made (a_register kind.Status false two_fields)) ≡ Ok 0
  -- a raw register takes `w`
  pub raw_signals : seen signals (made (a_register kind.Raw false [])) ≡ Ok (a_wire 8 (pos 0) true ∷ a_wire 1 (pos 0) true ∷ a_wire 8 (pos 0) false ∷ a_wire 1 (pos 0) true ∷ [])
  pub raw_parts : seen owners (made (a_register kind.Raw false [])) ≡ Ok (a_part (codes "r") ∷ a_part (codes "re") ∷ a_part (codes "w") ∷ a_part (codes "we") ∷ [])
  pub register : seen registers (made (a_register kind.Storage false [])) ≡ Ok (record { decl = record (a_register kind.Storage false []) { signals = the_signal 0 ∷ the_signal 1 ∷ [] }; reads = the_expr 0 ∷ the_expr 1 ∷ [] } ∷ [])
  pub object : seen kinds (made (a_register kind.Raw false [])) ≡ Ok (what.Register 0 ∷ [])
  -- it stands where an attribute bound it first, and each binding is kept
  pub bound_twice : seen bound (bind_twice 0) ≡ Ok ((0 ∷ 0 ∷ []) ∷ [] ∷ [])
  pub bound_elsewhere : seen bound (bind_twice 1) ≡ Ok ((0 ∷ []) ∷ (0 ∷ []) ∷ [])
  pub home : seen homes (bind_twice 1) ≡ Ok (Some 0 ∷ [])
  pub constant_kept : seen constants (constant_made 9 (constant.Number (pos 7)) start) ≡ Ok (constant.Number (pos 7) ∷ [])
  pub constant_object : seen kinds (constant_made 9 constant.Nothing start) ≡ Ok (what.Constant 0 ∷ [])
