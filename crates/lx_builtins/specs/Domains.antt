-- `ClockDomain` and `MultiReg`.
use Rattle.std.specs.Prelude.{ℕ, ℤ, pos, ◌||◌, ◌+◌, nat_lt, if◌then◌else◌, List, [], ◌∷◌, slice_get, Option, Some, None, codes, unwrap_or}
use Rattle.std.specs.Str.{bytes_eq}
use Rattle.lx_num.specs.Fewest.{below_zero, magnitude_of}
use Rattle.lx_num.specs.declared.Shape.{Shape}
use Rattle.lx_text.specs.declared.faults.Kind.TheVariants as kind
use Rattle.lx_value.specs.declared.arguments.Param.{Param}
use Rattle.lx_fhdl.specs.Below.{ExprId}
use Rattle.lx_shaped.specs.Making.{shape_there}
use Rattle.lx_state.specs.declared.values.Value.{Value}
use Rattle.lx_state.specs.declared.values.Value.TheVariants as value
use Rattle.lx_state.specs.Lists.{int_of}
use Rattle.lx_state.specs.Step.{Step, give, fault, or_fault, ◌>>=◌}
use Rattle.lx_objects.specs.Crossings.{multireg_made}
use Rattle.lx_objects.specs.Domains.{clock_domain_made}
use Rattle.lx_objects.specs.Ios.{signal_of}
use Rattle.lx_ops.specs.Exprs.{expr_of, fewest}
use Rattle.lx_ops.specs.Items.{bits_of}
use Rattle.lx_builtins.specs.Arguments.{argument, bound_to, given, identifier_of, optional, required}
use Rattle.lx_builtins.specs.Numbers.{is_zero}
use Rattle.lx_builtins.specs.Signals.{integer_or, name_looked_at}
use Rattle.lx_builtins.specs.declared.arguments.Arguments.{Arguments}

abbrev pub clock_domain_params : List Param
clock_domain_params = optional (codes "reset_less") ∷ []

-- `ClockDomain(reset_less=False)`
unfoldable pub clock_domain_called : ℕ → Arguments → Step Value
clock_domain_called line args = do
  values ← bound_to line clock_domain_params args
  reset_less ← integer_or line (pos 0) (argument values 0)
  clock_domain_made line (is_zero reset_less)

-- ---- the arguments of `MultiReg`, each by itself

abbrev pub multireg_names : List (List ℕ)
multireg_names = codes "i" ∷ codes "o" ∷ codes "odomain" ∷ codes "n" ∷ []

abbrev pub multireg_params : List Param
multireg_params = required (codes "i") ∷ required (codes "o") ∷ optional (codes "odomain") ∷ optional (codes "n") ∷ []

abbrev pub operand_bits : ℕ → Value → Step ℕ
operand_bits line (value.Expr id) m = bits_of line id m
operand_bits line (value.Int n) m = give (fewest n) m
operand_bits line _ m = fault line kind.WrongKind m

-- an expression has at most 127 bits, and a register at most 64
abbrev pub register_fits : ℕ → ℕ → Step (Unit {0})
register_fits line bits m =
    if nat_lt 127 bits then fault line (kind.TooWide bits) m
    else if nat_lt 64 bits then fault line kind.BadWidth m
    else give tt m

-- an expression or an integer, of at most as many bits as a register
unfoldable pub source_looked_at : ℕ → Value → Step (Unit {0})
source_looked_at line v = do
  bits ← operand_bits line v
  register_fits line bits

unfoldable pub signal_looked_at : ℕ → Value → Step (Unit {0})
signal_looked_at line v = do
  _ ← signal_of line v
  give tt

-- a number of registers
abbrev pub some_registers : ℕ → ℤ → Step (Unit {0})
some_registers line n m = if below_zero n || is_zero n then fault line kind.BadWidth m else give tt m

unfoldable pub count_looked_at : ℕ → Value → Step (Unit {0})
count_looked_at line v = do
  n ← int_of line v
  some_registers line n

abbrev pub multireg_looked_at : ℕ → List ℕ → Value → Step (Unit {0})
multireg_looked_at line name v m =
    if bytes_eq name (codes "i") then source_looked_at line v m
    else if bytes_eq name (codes "o") then signal_looked_at line v m
    else if bytes_eq name (codes "odomain") then name_looked_at line v m
    else count_looked_at line v m

abbrev pub name_there : List (List ℕ) → ℕ → List ℕ
name_there names k = unwrap_or (slice_get names k) []

-- arguments that are bound to these names, from the i-th name on
unfoldable pub each_looked_at : ℕ → List (List ℕ) → ℕ → List Value → Step (Unit {0})
each_looked_at line names i [] = give tt
each_looked_at line names i (v ∷ vs) = do
  _ ← multireg_looked_at line (name_there names i) v
  each_looked_at line names (i + 1) vs

-- ---- `MultiReg`

abbrev pub domain_or : ℕ → Option Value → Step (List ℕ)
domain_or line None m = give (codes "sys") m
domain_or line (Some v) m = identifier_of line v m

unfoldable pub shape_of : ℕ → ExprId → Step Shape
shape_of line e m = or_fault (shape_there m.shaped e.place) line kind.WrongKind m

unfoldable pub multireg_from : ℕ → Value → Value → List (Option Value) → Step Value
multireg_from line i o values = do
  name ← domain_or line (argument values 2)
  count ← integer_or line (pos 2) (argument values 3)
  to ← signal_of line o
  source ← expr_of line i
  s ← shape_of line source
  multireg_made line source s to name (magnitude_of count)

-- `MultiReg(i, o, odomain="sys", n=2)`; the argument that stands first has the first fault
unfoldable pub multireg_called : ℕ → Arguments → Step Value
multireg_called line args = do
  values ← bound_to line multireg_params args
  _ ← each_looked_at line multireg_names 0 args.placed
  _ ← each_looked_at line args.names 0 args.named
  i ← given line values 0
  o ← given line values 1
  multireg_from line i o values
