-- `CSRField`, `CSRStorage`, `CSRStatus`, `CSR` and `CSRConstant`.
use Rattle.std.specs.Prelude.{ℕ, ℤ, pos, negsuc, Bool, false, not, ◌&&◌, ◌+◌, nat_le, if◌then◌else◌, List, [], ◌∷◌, map, slice_get, Option, Some, None, codes}
use Rattle.std.specs.Str.{bytes_eq}
use Rattle.lx_text.specs.declared.faults.Kind.TheVariants as kind
use Rattle.lx_num.specs.Ints.{unsigned, wrapped}
use Rattle.lx_value.specs.declared.arguments.Param.{Param}
use Rattle.lx_description.specs.Keeping.{is_value}
use Rattle.lx_description.specs.declared.modules.ConstValue.{ConstValue}
use Rattle.lx_description.specs.declared.modules.ConstValue.TheVariants as constant
use Rattle.lx_description.specs.declared.registers.Field.{Field}
use Rattle.lx_description.specs.declared.registers.RegDecl.{RegDecl}
use Rattle.lx_description.specs.declared.registers.RegKind.{RegKind}
use Rattle.lx_description.specs.declared.registers.RegKind.TheVariants as register
use Rattle.lx_state.specs.declared.machine.FieldState.{FieldState}
use Rattle.lx_state.specs.declared.machine.Machine.{Machine}
use Rattle.lx_state.specs.declared.machine.Object.{Object}
use Rattle.lx_state.specs.declared.machine.What.{What}
use Rattle.lx_state.specs.declared.machine.What.TheVariants as what
use Rattle.lx_state.specs.declared.values.Value.{Value}
use Rattle.lx_state.specs.declared.values.Value.TheVariants as value
use Rattle.lx_state.specs.Lists.{int_of, list_at, list_of, text_of}
use Rattle.lx_state.specs.Step.{Step, give, fault, or_fault, reads, ◌>>=◌}
use Rattle.lx_objects.specs.Registers.{constant_made, field_made, fields_end, fitting, laid, register_made, with_resets}
use Rattle.lx_ops.specs.Compare.{is_filled}
use Rattle.lx_builtins.specs.Arguments.{argument, bound_to, given, identifier_of, one, optional, required}
use Rattle.lx_builtins.specs.Domains.{name_there}
use Rattle.lx_builtins.specs.Numbers.{is_zero}
use Rattle.lx_builtins.specs.Signals.{integer_looked_at, integer_or, name_given, name_looked_at}
use Rattle.lx_builtins.specs.declared.arguments.Arguments.{Arguments}
use Rattle.lx_builtins.specs.declared.registers.Bits.{Bits}
use Rattle.lx_builtins.specs.declared.registers.Described.{Described}
use Rattle.lx_builtins.specs.declared.registers.Described.TheVariants as described
use Rattle.lx_builtins.specs.declared.registers.Sizing.{Sizing}
use Rattle.lx_builtins.specs.declared.registers.Sizing.TheVariants as sizing

-- ---- the arguments of `CSRField`, each by itself

abbrev pub field_params : List Param
field_params = required (codes "name") ∷ optional (codes "size") ∷ optional (codes "offset") ∷ optional (codes "reset") ∷ optional (codes "description") ∷ optional (codes "values") ∷ []

-- a number from 0 to 255
abbrev pub byte_of : ℤ → Option ℕ
byte_of (pos n) = if nat_le n 255 then Some n else None
byte_of (negsuc n) = None

abbrev pub byte_fits : ℕ → ℤ → Step ℕ
byte_fits line n = or_fault (byte_of n) line kind.NumberRange

-- a field has at least one bit
abbrev pub field_bits : ℕ → ℤ → Step ℕ
field_bits line n m = if is_zero n then fault line kind.BadWidth m else byte_fits line n m

unfoldable pub field_size_looked_at : ℕ → Value → Step (Unit {0})
field_size_looked_at line v = do
  n ← int_of line v
  _ ← field_bits line n
  give tt

unfoldable pub stated_offset : ℕ → Value → Step (Option ℕ)
stated_offset line v = do
  n ← int_of line v
  low ← byte_fits line n
  give (Some low)

-- the place of the lowest bit, or None
abbrev pub offset_of : ℕ → Value → Step (Option ℕ)
offset_of line value.Nothing m = give None m
offset_of line v m = stated_offset line v m

unfoldable pub offset_looked_at : ℕ → Value → Step (Unit {0})
offset_looked_at line v = do
  _ ← offset_of line v
  give tt

-- `description` and `values` are anything
abbrev pub field_looked_at : ℕ → List ℕ → Value → Step (Unit {0})
field_looked_at line name v m =
    if bytes_eq name (codes "name") then name_looked_at line v m
    else if bytes_eq name (codes "size") then field_size_looked_at line v m
    else if bytes_eq name (codes "offset") then offset_looked_at line v m
    else if bytes_eq name (codes "reset") then integer_looked_at line v m
    else give tt m

-- ---- lists of fields

abbrev pub field_of_what : Machine → What → Option FieldState
field_of_what m (what.Field k) = slice_get m.fields k
field_of_what m _ = None

abbrev pub field_of_object : Machine → Option Object → Option FieldState
field_of_object m None = None
field_of_object m (Some o) = field_of_what m o.what

-- the field that a value is
abbrev pub field_at : Machine → Value → Option FieldState
field_at m (value.Object at) = field_of_object m (slice_get m.objects at)
field_at m _ = None

unfoldable pub field_of : ℕ → Value → Step FieldState
field_of line v m = or_fault (field_at m v) line kind.WrongKind m

-- all are fields
unfoldable pub fields_of : ℕ → List Value → Step (List FieldState)
fields_of line [] = give []
fields_of line (v ∷ vs) = do
  f ← field_of line v
  fs ← fields_of line vs
  give (f ∷ fs)

-- a list of fields
unfoldable pub field_list : ℕ → Value → Step (List FieldState)
field_list line v = do
  values ← list_of line v
  fields_of line values

unfoldable pub fields_looked_at : ℕ → Value → Step (Unit {0})
fields_looked_at line v = do
  _ ← field_list line v
  give tt

-- ---- the arguments of registers, each by itself

abbrev pub storage_params : List Param
storage_params = optional (codes "size") ∷ optional (codes "reset") ∷ optional (codes "atomic_write") ∷ optional (codes "write_from_dev") ∷ optional (codes "fields") ∷ optional (codes "name") ∷ optional (codes "description") ∷ []

abbrev pub status_params : List Param
status_params = optional (codes "size") ∷ optional (codes "reset") ∷ optional (codes "fields") ∷ optional (codes "name") ∷ optional (codes "description") ∷ []

abbrev pub raw_params : List Param
raw_params = optional (codes "size") ∷ optional (codes "name") ∷ []

-- a register has 1 to so many bits
abbrev pub width_of : ℕ → ℤ → Option ℕ
width_of most (pos n) = if nat_le 1 n && nat_le n most then Some n else None
width_of most (negsuc n) = None

abbrev pub width_fits : ℕ → ℕ → ℤ → Step ℕ
width_fits line most n = or_fault (width_of most n) line kind.BadWidth

unfoldable pub register_width_looked_at : ℕ → ℕ → Value → Step (Unit {0})
register_width_looked_at line most v = do
  n ← int_of line v
  _ ← width_fits line most n
  give tt

-- where fields give the size, the stated one is looked at for its kind alone
abbrev pub size_looked_at : ℕ → Sizing → Value → Step (Unit {0})
size_looked_at line (sizing.Stated most) v m = register_width_looked_at line most v m
size_looked_at line sizing.ByFields v m = integer_looked_at line v m

-- `description` is anything
abbrev pub register_looked_at : ℕ → Sizing → List ℕ → Value → Step (Unit {0})
register_looked_at line giver name v m =
    if bytes_eq name (codes "size") then size_looked_at line giver v m
    else if bytes_eq name (codes "fields") then fields_looked_at line v m
    else if bytes_eq name (codes "name") then name_looked_at line v m
    else if bytes_eq name (codes "description") then give tt m
    else integer_looked_at line v m

-- ---- all arguments of a call

abbrev pub argument_looked_at : ℕ → Described → List ℕ → Value → Step (Unit {0})
argument_looked_at line described.OfField name v m = field_looked_at line name v m
argument_looked_at line (described.OfRegister giver) name v m = register_looked_at line giver name v m

-- arguments that are bound to these names, from the i-th name on
unfoldable pub arguments_looked_at : ℕ → Described → List (List ℕ) → ℕ → List Value → Step (Unit {0})
arguments_looked_at line of names i [] = give tt
arguments_looked_at line of names i (v ∷ vs) = do
  _ ← argument_looked_at line of (name_there names i) v
  arguments_looked_at line of names (i + 1) vs

-- the names of parameters, in their order
abbrev pub names_of : List Param → List (List ℕ)
names_of params = map (λ (p : Param). p.name) params

-- the argument that stands first has the first fault
unfoldable pub call_looked_at : ℕ → Described → List Param → Arguments → Step (Unit {0})
call_looked_at line of params args = do
  _ ← arguments_looked_at line of (names_of params) 0 args.placed
  arguments_looked_at line of args.names 0 args.named

-- ---- `CSRField`

abbrev pub offset_or : ℕ → Option Value → Step (Option ℕ)
offset_or line None m = give None m
offset_or line (Some v) m = offset_of line v m

abbrev pub new_field : ℕ → List ℕ → ℕ → Option ℕ → ℤ → FieldState
new_field line name size offset reset = record { name = name; size = size; offset = offset; reset = reset; line = line }

unfoldable pub field_from : ℕ → Value → List (Option Value) → Step Value
field_from line v values = do
  name ← identifier_of line v
  n ← integer_or line (pos 1) (argument values 1)
  size ← field_bits line n
  offset ← offset_or line (argument values 2)
  reset ← integer_or line (pos 0) (argument values 3)
  field_made (new_field line name size offset reset)

-- `CSRField(name, size=1, offset=None, reset=0, description=, values=)`
unfoldable pub csr_field_called : ℕ → Arguments → Step Value
csr_field_called line args = do
  values ← bound_to line field_params args
  _ ← call_looked_at line described.OfField field_params args
  name ← given line values 0
  field_from line name values

-- ---- registers

abbrev pub has_items : Option (List Value) → Bool
has_items None = false
has_items (Some vs) = is_filled vs

-- fields give the size where there are any
abbrev pub sizing_of : Machine → Option Value → Sizing
sizing_of m None = sizing.Stated 64
sizing_of m (Some v) = if has_items (list_at m v) then sizing.ByFields else sizing.Stated 64

-- all fields lie in the lowest 64 bits
abbrev pub fields_within : ℕ → List Field → Step (List Field)
fields_within line fields = or_fault (fitting fields) line kind.BadWidth

-- the fields at their places
unfoldable pub fields_laid : ℕ → Value → Step (List Field)
fields_laid line v = do
  fields ← field_list line v
  fields_within line (laid 0 fields)

abbrev pub fields_or : ℕ → Option Value → Step (List Field)
fields_or line None m = give [] m
fields_or line (Some v) m = fields_laid line v m

unfoldable pub stated_bits : ℕ → ℕ → ℤ → ℤ → Step Bits
stated_bits line most size reset = do
  n ← width_fits line most size
  give (record { size = n; reset = wrapped (unsigned n) reset })

-- the bits that reach as far as all fields do, with the fields' first values
abbrev pub bits_of_fields : List Field → Bits
bits_of_fields fields = record { size = fields_end fields; reset = with_resets (pos 0) fields }

-- where there are fields, they give a register's size and its first value
abbrev pub bits_of : ℕ → ℤ → ℤ → List Field → Step Bits
bits_of line size reset [] m = stated_bits line 64 size reset m
bits_of line size reset (f ∷ fs) m = give (bits_of_fields (f ∷ fs)) m

-- a register that has neither a name nor signals yet
abbrev pub new_register : ℕ → RegKind → Bits → List Field → RegDecl
new_register line kind_ bits fields = record { name = []; kind = kind_; size = bits.size; reset = bits.reset; atomic = false; from_dev = false; fields = fields; signals = []; line = line }

unfoldable pub storage_from : ℕ → List (Option Value) → Step Value
storage_from line values = do
  size ← integer_or line (pos 1) (argument values 0)
  reset ← integer_or line (pos 0) (argument values 1)
  atomic ← integer_or line (pos 0) (argument values 2)
  from_dev ← integer_or line (pos 0) (argument values 3)
  fields ← fields_or line (argument values 4)
  bits ← bits_of line size reset fields
  name ← name_given line (argument values 5)
  register_made (record (new_register line register.Storage bits fields) { atomic = not (is_zero atomic); from_dev = not (is_zero from_dev) }) name

-- `CSRStorage(size=1, reset=0, atomic_write=False, write_from_dev=False, fields=[], name=, description=)`
unfoldable pub csr_storage_called : ℕ → Arguments → Step Value
csr_storage_called line args = do
  values ← bound_to line storage_params args
  giver ← reads (λ m. sizing_of m (argument values 4))
  _ ← call_looked_at line (described.OfRegister giver) storage_params args
  storage_from line values

unfoldable pub status_from : ℕ → List (Option Value) → Step Value
status_from line values = do
  size ← integer_or line (pos 1) (argument values 0)
  reset ← integer_or line (pos 0) (argument values 1)
  fields ← fields_or line (argument values 2)
  bits ← bits_of line size reset fields
  name ← name_given line (argument values 3)
  register_made (new_register line register.Status bits fields) name

-- `CSRStatus(size=1, reset=0, fields=[], name=, description=)`
unfoldable pub csr_status_called : ℕ → Arguments → Step Value
csr_status_called line args = do
  values ← bound_to line status_params args
  giver ← reads (λ m. sizing_of m (argument values 2))
  _ ← call_looked_at line (described.OfRegister giver) status_params args
  status_from line values

unfoldable pub raw_from : ℕ → List (Option Value) → Step Value
raw_from line values = do
  size ← integer_or line (pos 1) (argument values 0)
  bits ← stated_bits line 32 size (pos 0)
  name ← name_given line (argument values 1)
  register_made (new_register line register.Raw bits []) name

-- `CSR(size=1, name=)`
unfoldable pub csr_called : ℕ → Arguments → Step Value
csr_called line args = do
  values ← bound_to line raw_params args
  _ ← call_looked_at line (described.OfRegister (sizing.Stated 32)) raw_params args
  raw_from line values

-- ---- `CSRConstant`

abbrev pub constant_number : ℕ → ℤ → Step ConstValue
constant_number line n m = if is_value (constant.Number n) then give (constant.Number n) m else fault line kind.NumberRange m

abbrev pub constant_bytes : ℕ → List ℕ → Step ConstValue
constant_bytes line bytes m = if is_value (constant.Text bytes) then give (constant.Text bytes) m else fault line kind.BadKey m

unfoldable pub constant_text : ℕ → Value → Step ConstValue
constant_text line v = do
  bytes ← text_of line v
  constant_bytes line bytes

-- an integer, a text or None
abbrev pub constant_value : ℕ → Value → Step ConstValue
constant_value line value.Nothing m = give constant.Nothing m
constant_value line (value.Int n) m = constant_number line n m
constant_value line v m = constant_text line v m

-- `CSRConstant(value)`
unfoldable pub csr_constant_called : ℕ → Arguments → Step Value
csr_constant_called line args = do
  v ← one line (codes "value") args
  x ← constant_value line v
  constant_made line x
