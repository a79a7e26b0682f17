-- Built-in names on integers.
use Rattle.std.specs.Prelude.{ℕ, ℤ, zero, suc, pos, negsuc, Bool, false, ◌^◌, ◌+ℤ◌, int_lt, nat_eq, nat_lt, ◌&&◌, if◌then◌else◌, List, [], ◌∷◌, length, map, Option, Some, None, codes}
use Rattle.std.specs.Fmt.{signed_decimal}
use Rattle.lx_text.specs.declared.faults.Kind.TheVariants as kind
use Rattle.lx_num.specs.Fewest.{below_zero}
use Rattle.lx_state.specs.declared.values.Value.{Value}
use Rattle.lx_state.specs.declared.values.Value.TheVariants as value
use Rattle.lx_state.specs.Lists.{int_of, ints_of, list_made, text_made}
use Rattle.lx_state.specs.Step.{Step, give, fault, or_fault, ◌>>=◌}
use Rattle.lx_ops.specs.Exprs.{fewest}
use Rattle.lx_builtins.specs.Arguments.{one, unnamed}
use Rattle.lx_builtins.specs.declared.arguments.Arguments.{Arguments}

-- ---- range

-- a comes before the end, where the steps go up or down
abbrev pub comes_before : ℤ → ℤ → ℤ → Bool
comes_before step a past = if below_zero step then int_lt past a else int_lt a past

-- at most n numbers: a, and from it on each by a step further, as far as they come before the end
unfoldable pub steps_from : ℕ → ℤ → ℤ → ℤ → List ℤ
steps_from zero step a past = []
steps_from (suc n) step a past = if comes_before step a past then a ∷ steps_from n step (a +ℤ step) past else []

-- one number more than the units of work that there are
abbrev pub range_made : ℕ → ℤ → ℤ → ℤ → Step Value
range_made line a past step m = list_made line (map value.Int (steps_from 1000001 step a past)) m

abbrev pub is_zero : ℤ → Bool
is_zero (pos n) = nat_eq n 0
is_zero (negsuc n) = false

abbrev pub range_by : ℕ → ℤ → ℤ → ℤ → Step Value
range_by line a past step m = if is_zero step then fault line kind.NumberRange m else range_made line a past step m

abbrev pub range_of : ℕ → List ℤ → Step Value
range_of line (past ∷ []) m = range_by line (pos 0) past (pos 1) m
range_of line (a ∷ past ∷ []) m = range_by line a past (pos 1) m
range_of line (a ∷ past ∷ step ∷ []) m = range_by line a past step m
range_of line _ m = fault line kind.WrongCount m

abbrev pub is_range_count : ℕ → Bool
is_range_count n = nat_lt 0 n && nat_lt n 4

unfoldable pub counts : ℕ → Bool → Step (Unit {0})
counts line holds m = if holds then give tt m else fault line kind.WrongCount m

-- `range(a[, b[, c]])`
unfoldable pub range_called : ℕ → Arguments → Step Value
range_called line args = do
  values ← unnamed line args
  _ ← counts line (is_range_count (length values))
  numbers ← ints_of line values
  range_of line numbers

-- ---- least and greatest

abbrev pub least_of : ℤ → List ℤ → ℤ
least_of a [] = a
least_of a (b ∷ bs) = least_of (if int_lt b a then b else a) bs

abbrev pub greatest_of : ℤ → List ℤ → ℤ
greatest_of a [] = a
greatest_of a (b ∷ bs) = greatest_of (if int_lt a b then b else a) bs

abbrev pub least_made : ℕ → List ℤ → Step Value
least_made line [] m = fault line kind.WrongCount m
least_made line (a ∷ as_) m = give (value.Int (least_of a as_)) m

abbrev pub greatest_made : ℕ → List ℤ → Step Value
greatest_made line [] m = fault line kind.WrongCount m
greatest_made line (a ∷ as_) m = give (value.Int (greatest_of a as_)) m

-- `min(..)`
unfoldable pub min_called : ℕ → Arguments → Step Value
min_called line args = do
  values ← unnamed line args
  numbers ← ints_of line values
  least_made line numbers

-- `max(..)`
unfoldable pub max_called : ℕ → Arguments → Step Value
max_called line args = do
  values ← unnamed line args
  numbers ← ints_of line values
  greatest_made line numbers

-- ---- of one integer

unfoldable pub one_integer : ℕ → List ℕ → Arguments → Step ℤ
one_integer line name args = do
  v ← one line name args
  int_of line v

-- `int(i)`
unfoldable pub int_called : ℕ → Arguments → Step Value
int_called line args = do
  z ← one_integer line (codes "i") args
  give (value.Int z)

-- `str(i)`
unfoldable pub str_called : ℕ → Arguments → Step Value
str_called line args = do
  z ← one_integer line (codes "i") args
  text_made line (signed_decimal z)

-- `bits_for(i)`
unfoldable pub bits_for_called : ℕ → Arguments → Step Value
bits_for_called line args = do
  z ← one_integer line (codes "i") args
  give (value.Int (pos (fewest z)))

-- the greatest exponent below n whose power of 2 the number is
unfoldable pub exponent_below : ℕ → ℕ → Option ℕ
exponent_below z zero = None
exponent_below z (suc k) = if nat_eq z (2 ^ k) then Some k else exponent_below z k

-- k where the number is 2 ^ k
abbrev pub power_of_two : ℤ → Option ℕ
power_of_two (pos z) = exponent_below z 128
power_of_two (negsuc z) = None

-- `log2_int(n)`
unfoldable pub log2_int_called : ℕ → Arguments → Step Value
log2_int_called line args = do
  z ← one_integer line (codes "n") args
  k ← or_fault (power_of_two z) line kind.NumberRange
  give (value.Int (pos k))
