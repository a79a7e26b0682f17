-- Which argument each parameter of a call gets.
use Rattle.std.specs.Prelude.{◌≡◌, ℕ, ◌+◌, Bool, true, false, not, ◌&&◌, ◌||◌, List, [], map, count_by, position, drop, Option, Some, None, Result, Ok, Err, nat_lt, nat_eq, if◌then◌else◌}
use Rattle.std.specs.List.{list_any, list_all, enumerate_from}
use Rattle.std.specs.Str.{bytes_eq}
use Rattle.lx_value.specs.declared.arguments.Param.{Param}
use Rattle.lx_value.specs.declared.arguments.Bound.{Bound}
use Rattle.lx_value.specs.declared.arguments.Bound.TheVariants.{Placed, Key, Missing}
use Rattle.lx_value.specs.Seen.{are_new}
use Rattle.lx_value.specs.declared.arguments.BindFault.{BindFault}
use Rattle.lx_value.specs.declared.arguments.BindFault.TheVariants.{WrongCount, NoMemory}

-- the name is the parameter's
abbrev pub is_named : Param → List ℕ → Bool
is_named p name = bytes_eq name p.name

-- how many parameters take a place
abbrev pub places : List Param → ℕ
places params = count_by (λ p. p.by_place) params

-- behind as many parameters none takes a place: those that take one come first
abbrev pub are_places_first : List Param → Bool
are_places_first params = list_all (λ p. not p.by_place) (drop (places params) params)

-- each name is that of one parameter
abbrev pub are_names_distinct : List Param → Bool
are_names_distinct params = list_all (λ p. nat_eq (count_by (λ q. is_named q p.name) params) 1) params

-- the key is the name of a parameter
abbrev pub is_known : List Param → List ℕ → Bool
is_known params key = list_any (λ p. is_named p key) params

-- how many arguments the parameter at a place has: the one at its place, and those with its name
abbrev pub arguments : ℕ → List (List ℕ) → ℕ → Param → ℕ
arguments placed keys place p = (if nat_lt place placed then 1 else 0) + count_by (is_named p) keys

-- it has two, or none where one is required
abbrev pub is_miscounted : ℕ → List (List ℕ) → ℕ → Param → Bool
is_miscounted placed keys place p =
    nat_lt 1 (arguments placed keys place p) || (p.required && nat_eq (arguments placed keys place p) 0)

-- too many arguments have no name, a name is no parameter's, or a parameter has a wrong number of arguments
unfoldable pub is_wrong_count : List Param → ℕ → List (List ℕ) → Bool
is_wrong_count params placed keys =
    nat_lt (places params) placed
    || list_any (λ key. not (is_known params key)) keys
    || list_any (λ e. is_miscounted placed keys e.0 e.1) (enumerate_from 0 params)

abbrev pub bound_by_key : Option ℕ → Bound
bound_by_key (Some k) = Key k
bound_by_key None = Missing

-- the argument of the parameter at a place
abbrev pub bound_of : ℕ → List (List ℕ) → ℕ → Param → Bound
bound_of placed keys place p =
    if nat_lt place placed then Placed place else bound_by_key (position (is_named p) keys)

-- the argument of each parameter, in their order
unfoldable pub bounds_of : List Param → ℕ → List (List ℕ) → List Bound
bounds_of params placed keys = map (λ e. bound_of placed keys e.0 e.1) (enumerate_from 0 params)

-- want of memory aside, the arguments are bound exactly where their count isn't wrong
abbrev pub Binds : List Param → ℕ → List (List ℕ) → Result (List Bound) BindFault → Type 0
Binds params placed keys (Ok bounds) =
    (is_wrong_count params placed keys ≡ false) × (bounds ≡ bounds_of params placed keys)
Binds params placed keys (Err WrongCount) = is_wrong_count params placed keys ≡ true
Binds params placed keys (Err NoMemory) = Unit {0}

-- the names of arguments, each once, where none stands twice
abbrev pub AreGiven : List (List ℕ) → Option (List (List ℕ)) → Type 0
AreGiven keys (Some given) = (given ≡ keys) × (are_new [] keys ≡ true)
AreGiven keys None = are_new [] keys ≡ false

-- the names of parameters
abbrev pub AreKnown : List Param → List (List ℕ) → Type 0
AreKnown params known = (key : List ℕ) → list_any (bytes_eq key) known ≡ is_known params key
