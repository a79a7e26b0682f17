-- Registers for software: what `CSRField(..)`, `CSRStorage(..)`, `CSRStatus(..)`, `CSR(..)` and `CSRConstant(..)` make.
use Rattle.std.specs.Prelude.{◌≡◌, ℕ, ℤ, Bool, true, false, ◌+◌, ◌≤◌, max, nat_le, unwrap_or, if◌then◌else◌, List, [], ◌∷◌, ◌++◌, length, map, codes, Option, Some, None}
use Rattle.lx_num.specs.Fields.{with_field_of}
use Rattle.lx_num.specs.Ints.{unsigned, wrapped}
use Rattle.lx_fhdl.specs.Below.{ExprId}
use Rattle.lx_fhdl.specs.declared.design.Signal.{Signal}
use Rattle.lx_fhdl.specs.declared.exprs.Expr.TheVariants as expr
use Rattle.lx_fhdl.specs.declared.exprs.SigId.{SigId}
use Rattle.lx_fhdl.specs.declared.stmts.Target.TheVariants as target
use Rattle.lx_description.specs.Wires.{Wire, register_wires}
use Rattle.lx_description.specs.declared.modules.ConstValue.{ConstValue}
use Rattle.lx_description.specs.declared.registers.Field.{Field}
use Rattle.lx_description.specs.declared.registers.RegDecl.{RegDecl}
use Rattle.lx_description.specs.declared.registers.RegKind.{RegKind}
use Rattle.lx_description.specs.declared.registers.RegKind.TheVariants as kind
use Rattle.lx_state.specs.declared.machine.FieldState.{FieldState}
use Rattle.lx_state.specs.declared.machine.Form.TheVariants as form
use Rattle.lx_state.specs.declared.machine.RegisterState.{RegisterState}
use Rattle.lx_state.specs.declared.machine.What.TheVariants as what
use Rattle.lx_state.specs.declared.values.Value.{Value}
use Rattle.lx_state.specs.declared.values.Value.TheVariants as value
use Rattle.lx_state.specs.Naming.{object_made}
use Rattle.lx_state.specs.Step.{Step, give, reads, ◌>>=◌}
use Rattle.lx_objects.specs.Exprs.{put_expr, put_target}
use Rattle.lx_objects.specs.Signals.{new_signal}
use Rattle.lx_objects.specs.Statements.{keep_made}
use Rattle.lx_objects.specs.declared.registers.Pin.{Pin}
use Rattle.lx_objects.specs.declared.registers.Plan.{Plan}

-- ---- fields

unfoldable pub keep_field : FieldState → Step (Unit {0})
keep_field f m = give tt (record m { fields = m.fields ++ f ∷ [] })

-- `CSRField(..)`
unfoldable pub field_made : FieldState → Step Value
field_made f = do
  k ← reads (λ m. length m.fields)
  object ← object_made (what.Field k) f.line None
  _ ← keep_field f
  give (value.Object object)

-- a field without an offset follows the one before it, which ends at this bit
abbrev pub lowest : ℕ → FieldState → ℕ
lowest end f = unwrap_or f.offset end

abbrev pub laid_at : ℕ → FieldState → Field
laid_at low f = record { name = f.name; offset = low; size = f.size; reset = f.reset; line = f.line }

-- the fields at their places, the first one from this bit on
unfoldable pub laid : ℕ → List FieldState → List Field
laid end [] = []
laid end (f ∷ fs) = laid_at (lowest end f) f ∷ laid (lowest end f + f.size) fs

-- the greatest end of these fields
unfoldable pub fields_end : List Field → ℕ
fields_end [] = 0
fields_end (f ∷ fs) = max (f.offset + f.size) (fields_end fs)

-- where they all lie in 64 bits
abbrev pub fitting : List Field → Option (List Field)
fitting fs = if nat_le (fields_end fs) 64 then Some fs else None

-- a value with the first values of these fields in it; where two share a bit the later one counts
unfoldable pub with_resets : ℤ → List Field → ℤ
with_resets v [] = v
with_resets v (f ∷ fs) = with_resets (with_field_of v f.offset f.size f.reset) fs

-- ---- signals

-- `fields_<field>`
abbrev pub field_part : Field → List ℕ
field_part f = codes "fields_" ++ f.name

abbrev pub device_parts : Bool → List (List ℕ)
device_parts true = codes "we" ∷ codes "dat_w" ∷ []
device_parts false = []

-- the names of a register's own signals, those of its fields aside
abbrev pub own_parts : RegDecl → RegKind → List (List ℕ)
own_parts r kind.Storage = codes "storage" ∷ codes "re" ∷ device_parts r.from_dev
own_parts r kind.Status = codes "status" ∷ codes "we" ∷ []
own_parts r kind.Raw = codes "r" ∷ codes "re" ∷ codes "w" ∷ codes "we" ∷ []
own_parts r kind.Pending = []

abbrev pub field_parts : RegDecl → RegKind → List (List ℕ)
field_parts r kind.Storage = map field_part r.fields
field_parts r kind.Status = map field_part r.fields
field_parts r _ = []

-- of each signal of a register
abbrev pub register_parts : RegDecl → RegKind → List (List ℕ)
register_parts r k = own_parts r k ++ field_parts r k

abbrev pub wire_signal : ℕ → Wire → Signal
wire_signal line w = record { path = []; shape = unsigned w.bits; reset = wrapped (unsigned w.bits) w.reset; reset_less = false; by_bus = w.given; line = line }

-- what is planned of a signal
abbrev pub wire_of : Plan → Wire
wire_of p = record { bits = p.bits; reset = p.reset; given = p.given }

abbrev pub part_of : Plan → List ℕ
part_of p = p.name

abbrev pub field_wire : Bool → Field → Wire
field_wire given_ f = record { bits = f.size; reset = f.reset; given = given_ }

-- the first value of a signal that can be made
abbrev pub IsReset : ℕ → ℤ → ℤ → Type 0
IsReset bits reset first = 1 ≤ bits → bits ≤ 64 → first ≡ wrapped (unsigned bits) reset

abbrev pub with_first : ℤ → Signal → Signal
with_first first s = record s { reset = first }

-- a signal that is a part of an object, and the expression that reads it
unfoldable pub wire_made : ℕ → ℕ → Wire → List ℕ → Step Pin
wire_made line object w part = do
  signal ← new_signal line (wire_signal line w) object (Some part)
  read ← put_expr line (expr.Sig signal)
  give (record { signal = signal; read = read })

-- one for each of these, under these names
unfoldable pub wires_made : ℕ → ℕ → List Wire → List (List ℕ) → Step (List Pin)
wires_made line object [] parts = give []
wires_made line object (w ∷ ws) [] = give []
wires_made line object (w ∷ ws) (part ∷ parts) = do
  pin ← wire_made line object w part
  pins ← wires_made line object ws parts
  give (pin ∷ pins)

abbrev pub pin_signals : List Pin → List SigId
pin_signals pins = map (λ (p : Pin). p.signal) pins

abbrev pub pin_reads : List Pin → List ExprId
pin_reads pins = map (λ (p : Pin). p.read) pins

-- ---- the fields of a status, which drive its bits

-- it counts no node, since the text has none there
unfoldable pub drive_field : ℕ → SigId → Field → Pin → Step (Unit {0})
drive_field line status f pin = do
  aim ← put_target line (target.Part status f.offset f.size)
  place ← reads (λ m. length m.made)
  _ ← keep_made (record { form = form.Assign aim pin.read; line = f.line; size = 1; depth = 1; in_state = false })
  λ m. give tt (record m { specials = record m.specials { fields = m.specials.fields ++ place ∷ [] } })

unfoldable pub drive_fields : ℕ → SigId → List Field → List Pin → Step (Unit {0})
drive_fields line status [] pins = give tt
drive_fields line status (f ∷ fs) [] = give tt
drive_fields line status (f ∷ fs) (pin ∷ pins) = do
  _ ← drive_field line status f pin
  drive_fields line status fs pins

-- `status` and `we` come first
abbrev pub drive_status : ℕ → List Field → List Pin → Step (Unit {0})
drive_status line fs (status ∷ we ∷ pins) = drive_fields line status.signal fs pins
drive_status line fs _ = give tt

-- the bits of a storage drive its fields, and those of a raw register have none
abbrev pub drive_bits : ℕ → RegDecl → RegKind → List Pin → Step (Unit {0})
drive_bits line r kind.Status pins = drive_status line r.fields pins
drive_bits line r _ pins = give tt

-- ---- registers

abbrev pub with_pins : RegDecl → List Pin → RegisterState
with_pins r pins = record { decl = record r { signals = pin_signals pins }; reads = pin_reads pins }

unfoldable pub keep_register : RegisterState → Step (Unit {0})
keep_register r m = give tt (record m { registers = m.registers ++ r ∷ [] })

-- the register that is declared so, without a name and signals, with its signals
unfoldable pub register_made : RegDecl → Option (List ℕ) → Step Value
register_made r given = do
  k ← reads (λ m. length m.registers)
  object ← object_made (what.Register k) r.line given
  pins ← wires_made r.line object (register_wires r r.kind) (register_parts r r.kind)
  _ ← drive_bits r.line r r.kind pins
  _ ← keep_register (with_pins r pins)
  give (value.Object object)

-- ---- constants

unfoldable pub keep_constant : ConstValue → Step (Unit {0})
keep_constant v m = give tt (record m { constants = m.constants ++ v ∷ [] })

-- `CSRConstant(..)`
unfoldable pub constant_made : ℕ → ConstValue → Step Value
constant_made line v = do
  k ← reads (λ m. length m.constants)
  object ← object_made (what.Constant k) line None
  _ ← keep_constant v
  give (value.Object object)
