-- What an expression or a block hangs on: the places that it names, and the shapes of the signals that it names.
use Rattle.std.specs.Prelude.{◌≡◌, ℕ, Bool, true, false, ◌||◌}
use Rattle.lx_circuit.specs.Places.{Place, Values, At, Word, is_at}
use Rattle.lx_circuit.specs.Terms.{Term}
use Rattle.lx_circuit.specs.Shapes.{Shapes, shape_of, fault_of}
use Rattle.lx_circuit.specs.Values.{value_of}
use Rattle.lx_circuit.specs.Statements.{Target, Targets, Whole, Part, CatTarget, PickTarget, NoTarget, MoreTargets, Stmt, Assign, If, Case, Branches, NoBranch, Branch, Arms, NoArm, Arm, Block, Done, Then, taken_block}
use Rattle.lx_circuit.specs.Reads.{names}

-- two pairs of shapes and values are alike where a test holds
pub record Alike (s t : Shapes) (v w : Values) (p : Place → Bool) : Type 0 where
  pub shapes : (x : ℕ) → p (At x) ≡ true → s x ≡ t x
  pub signals : (x : ℕ) → p (At x) ≡ true → v (At x) ≡ w (At x)
  pub words : (m k : ℕ) → p (Word m k) ≡ true → v (Word m k) ≡ w (Word m k)

-- an expression has the same shape, fault and value
pub record TermSame (s t : Shapes) (v w : Values) (e : Term) : Type 0 where
  pub shape : shape_of s e ≡ shape_of t e
  pub fault : fault_of s e ≡ fault_of t e
  pub value : value_of s v e ≡ value_of t w e

-- a target, a statement, a block mentions a place: as a target, in an index, a condition or a value
abbrev mutual
  pub target_mentions : Place → Target → Bool
  target_mentions y (Whole x) = is_at x y
  target_mentions y (Part x low len) = is_at x y
  target_mentions y (CatTarget parts) = targets_mention y parts
  target_mentions y (PickTarget items index) = targets_mention y items || names y index

  pub targets_mention : Place → Targets → Bool
  targets_mention y NoTarget = false
  targets_mention y (MoreTargets t ts) = target_mentions y t || targets_mention y ts

abbrev mutual
  pub mentions : Place → Stmt → Bool
  mentions y (Assign t e) = target_mentions y t || names y e
  mentions y (If bs rest) = branches_mention y bs || block_mentions y rest
  mentions y (Case on arms rest) = names y on || (arms_mention y arms || block_mentions y rest)

  pub branches_mention : Place → Branches → Bool
  branches_mention y NoBranch = false
  branches_mention y (Branch c b more) = names y c || (block_mentions y b || branches_mention y more)

  pub arms_mention : Place → Arms → Bool
  arms_mention y NoArm = false
  arms_mention y (Arm key b more) = block_mentions y b || arms_mention y more

  pub block_mentions : Place → Block → Bool
  block_mentions y Done = false
  block_mentions y (Then s ss) = mentions y s || block_mentions y ss

-- An expression has the same shape, fault and value, and a block the same taken assignments, where shapes and values are alike
-- on the places that are named.
pub record IsLocal : Type 0 where
  pub terms : (s t : Shapes) (v w : Values) (e : Term) → Alike s t v w (λ y. names y e) → TermSame s t v w e
  pub blocks : (s t : Shapes) (v w : Values) (b : Block) → Alike s t v w (λ y. block_mentions y b) → taken_block s v b ≡ taken_block t w b
