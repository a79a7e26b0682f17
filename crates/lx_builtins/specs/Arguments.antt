-- The arguments of a call, and the parameters that they are bound to.
use Rattle.std.specs.Prelude.{ℕ, Bool, true, false, not, ◌&&◌, ◌||◌, if◌then◌else◌, List, [], ◌∷◌, length, map, slice_get, Option, Some, None}
use Rattle.lx_text.specs.declared.faults.Kind.TheVariants as kind
use Rattle.lx_value.specs.Arguments.{are_names_distinct, are_places_first, bounds_of, is_wrong_count}
use Rattle.lx_value.specs.declared.arguments.Bound.{Bound}
use Rattle.lx_value.specs.declared.arguments.Bound.TheVariants as bound
use Rattle.lx_value.specs.declared.arguments.Param.{Param}
use Rattle.lx_state.specs.declared.values.Value.{Value}
use Rattle.lx_fhdl.specs.Keeping.{is_identifier}
use Rattle.lx_state.specs.Lists.{text_of}
use Rattle.lx_state.specs.Work.{name_fits}
use Rattle.lx_state.specs.Step.{Step, give, fault, or_fault, ◌>>=◌}
use Rattle.lx_ops.specs.Compare.{is_filled}
use Rattle.lx_builtins.specs.declared.arguments.Arguments.{Arguments}
use Rattle.lx_builtins.specs.declared.arguments.Triple.{Triple}

-- ---- binding

abbrev pub value_of : Arguments → Bound → Option Value
value_of args (bound.Placed k) = slice_get args.placed k
value_of args (bound.Key k) = slice_get args.named k
value_of args bound.Missing = None

-- the number and the names of the arguments are right
abbrev pub is_bindable : List Param → Arguments → Bool
is_bindable params args =
    are_places_first params && are_names_distinct params && not (is_wrong_count params (length args.placed) args.names)

-- the argument of each parameter, in their order
unfoldable pub bound_to : ℕ → List Param → Arguments → Step (List (Option Value))
bound_to line params args m =
    if is_bindable params args
    then give (map (value_of args) (bounds_of params (length args.placed) args.names)) m
    else fault line kind.WrongCount m

-- arguments that have no name
unfoldable pub unnamed : ℕ → Arguments → Step (List Value)
unnamed line args m = if is_filled args.names then fault line kind.WrongCount m else give args.placed m

-- no arguments
unfoldable pub no_argument : ℕ → Arguments → Step (Unit {0})
no_argument line args m = if is_filled args.names || is_filled args.placed then fault line kind.WrongCount m else give tt m

-- ---- what most calls take

abbrev pub required : List ℕ → Param
required name = record { name = name; by_place = true; required = true }

abbrev pub optional : List ℕ → Param
optional name = record { name = name; by_place = true; required = false }

abbrev pub argument : List (Option Value) → ℕ → Option Value
argument values k = elim (slice_get values k) as (λ _. Option Value) [ None ↦ None | Some v ↦ v ]

-- one that must be there
abbrev pub given : ℕ → List (Option Value) → ℕ → Step Value
given line values k = or_fault (argument values k) line kind.WrongCount

-- one argument
unfoldable pub one : ℕ → List ℕ → Arguments → Step Value
one line name args = do
  values ← bound_to line (required name ∷ []) args
  given line values 0

-- two arguments
unfoldable pub two : ℕ → List ℕ → List ℕ → Arguments → Step (Value × Value)
two line a b args = do
  values ← bound_to line (required a ∷ required b ∷ []) args
  first ← given line values 0
  second ← given line values 1
  give (first, second)

-- an argument, and a second one that may be missing
unfoldable pub one_or_two : ℕ → List ℕ → List ℕ → Arguments → Step (Value × Option Value)
one_or_two line a b args = do
  values ← bound_to line (required a ∷ optional b ∷ []) args
  first ← given line values 0
  give (first, argument values 1)

-- three arguments
unfoldable pub three : ℕ → List ℕ → List ℕ → List ℕ → Arguments → Step Triple
three line a b c args = do
  values ← bound_to line (required a ∷ required b ∷ required c ∷ []) args
  first ← given line values 0
  second ← given line values 1
  third ← given line values 2
  give (record { first = first; second = second; third = third })

-- ---- names given as texts

abbrev pub an_identifier : ℕ → List ℕ → Step (List ℕ)
an_identifier line name m = if is_identifier name then (name_fits line name >>= λ _. give name) m else fault line kind.BadKey m

-- a text that is an identifier, of at most as many bytes as a name may have
unfoldable pub identifier_of : ℕ → Value → Step (List ℕ)
identifier_of line v = do
  name ← text_of line v
  an_identifier line name
