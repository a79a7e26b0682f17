-- Flat statements: each assignment has a signal or its bits as target, and each branch stands under its own condition.
use Rattle.std.specs.Prelude.{ℕ, ℤ, pos, Bool, false, not, ◌&&◌, ◌||◌, ◌+◌, ◌^◌, List, [], ◌∷◌, Option, Some, None, nat_eq, nat_lt, min, if◌then◌else◌}
use Rattle.std.specs.Ordering.{int_eq}
use Rattle.lx_num.specs.Ints.{unsigned, wrapped}
use Rattle.lx_tables.specs.declared.operators.Op.TheVariants as op
use Rattle.lx_circuit.specs.Terms.{Term, Constant, Binary}
use Rattle.lx_circuit.specs.Shapes.{Shapes, shape_of}
use Rattle.lx_circuit.specs.Statements.{Target, Targets, Whole, Part, CatTarget, PickTarget, NoTarget, MoreTargets, Stmt, Assign, If, Case, Branches, NoBranch, Branch, Arms, NoArm, Arm, Block, Done, Then, target_bits}
use Rattle.lx_lowering.specs.Terms.{never, is_item, lower_term}

abbrev pub append : Block → Block → Block
append Done bs = bs
append (Then s ss) bs = Then s (append ss bs)

abbrev pub one : Stmt → Block
one s = Then s Done

-- if (c) so
abbrev pub when : Term → Block → Block
when c so = one (If (Branch c so NoBranch) Done)

-- ---- conditions

-- statements under a condition, where there are any
abbrev pub some_when : Term → Block → Block
some_when c Done = Done
some_when c (Then s ss) = when c (Then s ss)

abbrev pub zero_of : Shapes → Term → Term
zero_of s c = Constant (pos 0) (shape_of s c)

-- the condition holds, and it fails, as one bit
abbrev pub holds : Shapes → Term → Term
holds s c = Binary op.Ne c (zero_of s c)

abbrev pub fails : Shapes → Term → Term
fails s c = Binary op.Eq c (zero_of s c)

-- ---- targets

-- the number without its lowest k bits, at most all bits of the expression
abbrev pub without_low : Shapes → ℕ → Term → Term
without_low s k e = Binary op.Shr e (Constant (pos (min k (shape_of s e).bits)) (unsigned 7))

-- the index is k or more
abbrev pub is_last : Shapes → Term → ℕ → Term
is_last s i k = if nat_lt k (2 ^ (shape_of s i).bits) then Binary op.Ge i (Constant (pos k) (shape_of s i)) else never

-- the item of number k with its assignments, and those of the items after it; a lone item needs no condition
abbrev pub item_assigns : Shapes → ℕ → Block → Targets → Block → Term → Block
item_assigns s k own NoTarget more i = if nat_eq k 0 then own else when (is_last s i k) own
item_assigns s k own (MoreTargets t ts) more i = append (when (is_item s i k) own) more

-- assignments to the parts of a target, each of them under the condition that picks it
abbrev mutual
  pub assigns : Shapes → Target → Term → Block
  assigns s (Whole x) e = one (Assign (Whole x) e)
  assigns s (Part x low len) e = one (Assign (Part x low len) e)
  assigns s (CatTarget parts) e = parts_assigns s parts e
  assigns s (PickTarget items index) e = items_assigns s 0 items (lower_term s index) e

  pub parts_assigns : Shapes → Targets → Term → Block
  parts_assigns s NoTarget e = Done
  parts_assigns s (MoreTargets t ts) e = append (assigns s t e) (parts_assigns s ts (without_low s (target_bits s t) e))

  -- the items from number k on
  pub items_assigns : Shapes → ℕ → Targets → Term → Term → Block
  items_assigns s k NoTarget i e = Done
  items_assigns s k (MoreTargets t ts) i e = item_assigns s k (assigns s t e) ts (items_assigns s (k + 1) ts i e) i

-- ---- branches

-- the first of several branches; a lone one keeps the rest beside it
abbrev pub first_branch : Term → Block → Branches → Block → Block → Block
first_branch c Done NoBranch chained Done = Done
first_branch c b NoBranch chained rest = one (If (Branch c b NoBranch) rest)
first_branch c b (Branch d e more) chained rest = append (some_when c b) chained

-- the expression is the key, which is never the case where the key isn't one of its values, or was a key before
abbrev pub is_among_keys : ℤ → List ℤ → Bool
is_among_keys key [] = false
is_among_keys key (k ∷ ks) = int_eq k key || is_among_keys key ks

abbrev pub is_value : Shapes → Term → ℤ → Bool
is_value s on key = int_eq (wrapped (shape_of s on) key) key

abbrev pub key_of : Shapes → Term → ℤ → Term
key_of s on key = Constant key (shape_of s on)

abbrev pub is_key : Shapes → Term → List ℤ → ℤ → Term
is_key s on seen key = if is_value s on key && not (is_among_keys key seen) then Binary op.Eq on (key_of s on key) else never

-- no key so far, and not this one
abbrev pub and_none : Option Term → Term → Option Term
and_none None c = Some c
and_none (Some none) c = Some (Binary op.And none c)

abbrev pub no_key : Shapes → Term → List ℤ → Option Term → ℤ → Option Term
no_key s on seen none key = if is_value s on key && not (is_among_keys key seen) then and_none none (Binary op.Ne on (key_of s on key)) else none

abbrev pub otherwise : Option Term → Block → Block
otherwise None rest = rest
otherwise (Some none) rest = some_when none rest

-- Flat statements.
abbrev mutual
  pub flat : Shapes → Stmt → Block
  flat s (Assign t e) = assigns s t (lower_term s e)
  flat s (If bs rest) = flat_if s bs (flat_block s rest)
  flat s (Case on arms rest) = flat_arms s (lower_term s on) [] None arms (flat_block s rest)

  pub flat_if : Shapes → Branches → Block → Block
  flat_if s NoBranch rest = rest
  flat_if s (Branch c b more) rest = first_branch (lower_term s c) (flat_block s b) more (flat_chain s (fails s (lower_term s c)) more rest) rest

  -- further branches, each where none before it was taken and its own condition holds
  pub flat_chain : Shapes → Term → Branches → Block → Block
  flat_chain s none NoBranch rest = some_when none rest
  flat_chain s none (Branch c b more) rest =
      append (some_when (Binary op.And none (holds s (lower_term s c))) (flat_block s b))
      (flat_chain s (Binary op.And none (fails s (lower_term s c))) more rest)

  pub flat_arms : Shapes → Term → List ℤ → Option Term → Arms → Block → Block
  flat_arms s on seen none NoArm rest = otherwise none rest
  flat_arms s on seen none (Arm key b more) rest =
      append (some_when (is_key s on seen key) (flat_block s b)) (flat_arms s on (key ∷ seen) (no_key s on seen none key) more rest)

  pub flat_block : Shapes → Block → Block
  flat_block s Done = Done
  flat_block s (Then x xs) = append (flat s x) (flat_block s xs)
