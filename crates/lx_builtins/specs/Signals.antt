-- `Signal`.
use Rattle.std.specs.Prelude.{ℕ, ℤ, pos, negsuc, Bool, true, false, not, ◌&&◌, ◌||◌, ◌+◌, max, nat_le, if◌then◌else◌, List, [], ◌∷◌, slice_get, Option, Some, None, is_some, codes}
use Rattle.std.specs.Str.{bytes_eq}
use Rattle.lx_text.specs.declared.faults.Kind.TheVariants as kind
use Rattle.lx_num.specs.Fewest.{below_zero, magnitude_of}
use Rattle.lx_num.specs.Ints.{shape, wrapped}
use Rattle.lx_num.specs.declared.Shape.{Shape}
use Rattle.lx_value.specs.declared.arguments.Param.{Param}
use Rattle.lx_value.specs.declared.numbers.PyOp.TheVariants as op
use Rattle.lx_fhdl.specs.declared.design.Signal.{Signal}
use Rattle.lx_state.specs.declared.values.Value.{Value}
use Rattle.lx_state.specs.Lists.{int_of}
use Rattle.lx_state.specs.Step.{Step, give, fault, or_fault, ◌>>=◌}
use Rattle.lx_objects.specs.Signals.{signal_made}
use Rattle.lx_ops.specs.Binary.{python}
use Rattle.lx_ops.specs.Exprs.{fewest, numbered}
use Rattle.lx_builtins.specs.Arguments.{argument, bound_to, identifier_of, optional}
use Rattle.lx_builtins.specs.Exprs.{stated}
use Rattle.lx_builtins.specs.Numbers.{is_zero}
use Rattle.lx_builtins.specs.declared.arguments.Arguments.{Arguments}
use Rattle.lx_builtins.specs.declared.exprs.StatedShape.{StatedShape}

-- ---- shapes

-- a signal has 1 to 64 bits
abbrev pub is_size : ℤ → Bool
is_size (pos n) = nat_le 1 n && nat_le n 64
is_size (negsuc n) = false

unfoldable pub sized : ℕ → ℤ → Step (Unit {0})
sized line bits m = if is_size bits then give tt m else fault line kind.BadWidth m

-- the fewest bits of signed values that hold the number
abbrev pub signed_bits : ℤ → ℕ
signed_bits z = fewest (negsuc (magnitude_of z))

-- the fewest bits that hold both numbers, signed where one of them is below 0
abbrev pub span : ℤ → ℤ → StatedShape
span low high =
    if below_zero low || below_zero high
    then record { bits = pos (max (signed_bits low) (signed_bits high)); signed = true }
    else record { bits = pos (max (fewest low) (fewest high)); signed = false }

-- ---- arguments

abbrev pub named_only : List ℕ → Param
named_only name = record { name = name; by_place = false; required = false }

abbrev pub signal_params : List Param
signal_params = optional (codes "bits_sign") ∷ named_only (codes "min") ∷ named_only (codes "max") ∷ named_only (codes "reset") ∷ named_only (codes "reset_less") ∷ named_only (codes "name") ∷ []

-- its kind, and then its value
unfoldable pub shape_looked_at : ℕ → Value → Step (Unit {0})
shape_looked_at line v = do
  s ← stated line v
  sized line s.bits

unfoldable pub name_looked_at : ℕ → Value → Step (Unit {0})
name_looked_at line v = do
  _ ← identifier_of line v
  give tt

unfoldable pub integer_looked_at : ℕ → Value → Step (Unit {0})
integer_looked_at line v = do
  _ ← int_of line v
  give tt

abbrev pub is_bound : List ℕ → Bool
is_bound name = bytes_eq name (codes "min") || bytes_eq name (codes "max")

-- where the shape is stated, `min` and `max` are not looked at
abbrev pub looked_at : ℕ → Bool → List ℕ → Value → Step (Unit {0})
looked_at line is_stated name v m =
    if bytes_eq name (codes "bits_sign") then shape_looked_at line v m
    else if bytes_eq name (codes "name") then name_looked_at line v m
    else if is_stated && is_bound name then give tt m
    else integer_looked_at line v m

abbrev pub looked_at_place : ℕ → Bool → List Value → ℕ → List ℕ → Step (Unit {0})
looked_at_place line is_stated values i name m = (or_fault (slice_get values i) line kind.WrongCount >>= looked_at line is_stated name) m

-- the arguments with names, in the order of the text
unfoldable pub all_looked_at : ℕ → Bool → List Value → ℕ → List (List ℕ) → Step (Unit {0})
all_looked_at line is_stated values i [] = give tt
all_looked_at line is_stated values i (name ∷ names) = do
  _ ← looked_at_place line is_stated values i name
  all_looked_at line is_stated values (i + 1) names

abbrev pub first_looked_at : ℕ → List Value → Step (Unit {0})
first_looked_at line [] m = give tt m
first_looked_at line (v ∷ vs) m = shape_looked_at line v m

-- ---- the signal

abbrev pub integer_or : ℕ → ℤ → Option Value → Step ℤ
integer_or line missing None m = give missing m
integer_or line missing (Some v) m = int_of line v m

-- `min` is 0 and `max` is 2 where they aren't given; `max` itself is not held
unfoldable pub spanned : ℕ → Option Value → Option Value → Step StatedShape
spanned line low past = do
  a ← integer_or line (pos 0) low
  b ← integer_or line (pos 2) past
  high ← numbered line (python op.Sub b (pos 1))
  give (span a high)

abbrev pub signal_shape : ℕ → Option Value → Option Value → Option Value → Step StatedShape
signal_shape line (Some v) low past m = stated line v m
signal_shape line None low past m = spanned line low past m

abbrev pub name_given : ℕ → Option Value → Step (Option (List ℕ))
name_given line None m = give None m
name_given line (Some v) m = (identifier_of line v >>= λ name. give (Some name)) m

abbrev pub signal_with : ℕ → Shape → ℤ → ℤ → Signal
signal_with line s reset reset_less = record { path = []; shape = s; reset = wrapped s reset; reset_less = not (is_zero reset_less); by_bus = false; line = line }

unfoldable pub signal_of : ℕ → StatedShape → ℤ → ℤ → Step Signal
signal_of line s reset reset_less m =
    if is_size s.bits then give (signal_with line (shape (magnitude_of s.bits) s.signed) reset reset_less) m else fault line kind.BadWidth m

unfoldable pub signal_from : ℕ → StatedShape → List (Option Value) → Step Value
signal_from line s values = do
  reset ← integer_or line (pos 0) (argument values 3)
  reset_less ← integer_or line (pos 0) (argument values 4)
  name ← name_given line (argument values 5)
  x ← signal_of line s reset reset_less
  signal_made line x name

-- `Signal(bits_sign, min=, max=, reset=, reset_less=, name=)`
unfoldable pub signal_called : ℕ → Arguments → Step Value
signal_called line args = do
  values ← bound_to line signal_params args
  _ ← first_looked_at line args.placed
  _ ← all_looked_at line (is_some (argument values 0)) args.named 0 args.names
  s ← signal_shape line (argument values 0) (argument values 1) (argument values 2)
  signal_from line s values
