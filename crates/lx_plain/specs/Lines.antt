-- Where the assignments to a signal stand, in their order: one for each time that a target names the signal.
use Rattle.std.specs.Prelude.{ℕ, Bool, true, false, List, [], ◌∷◌, ◌++◌, ◌||◌, Option, Some, None, map, nat_eq, if◌then◌else◌}
use Rattle.std.specs.Ordering.{int_eq}
use Rattle.lx_num.specs.declared.Shape.{Shape}
use Rattle.lx_num.specs.Ints.{wrapped}
use Rattle.lx_arena.specs.Folds.{fold_at}
use Rattle.lx_circuit.specs.Shapes.{shape_of}
use Rattle.lx_circuit.specs.Statements.{Target, Targets, Whole, Part, CatTarget, PickTarget, NoTarget, MoreTargets}
use Rattle.lx_fhdl.specs.Below.{StmtId}
use Rattle.lx_fhdl.specs.Designs.{shapes, target, term}
use Rattle.lx_fhdl.specs.declared.design.Design.{Design}
use Rattle.lx_fhdl.specs.declared.stmts.Arm.{Arm}
use Rattle.lx_fhdl.specs.declared.stmts.Branch.{Branch}
use Rattle.lx_fhdl.specs.declared.stmts.Stmt.{Stmt}
use Rattle.lx_fhdl.specs.declared.stmts.Stmt.TheVariants.{Assign, If, Case}

-- an assignment: its line, and the lines of the conditions that it stands under, the outermost first
pub record Assigned : Type 0 where
  pub line : ℕ
  pub conds : List ℕ

-- one that stands under no condition
abbrev pub alone : ℕ → Assigned
alone line = record { line = line; conds = [] }

-- under a condition more, which has this line
abbrev pub within : ℕ → Assigned → Assigned
within line a = record { line = a.line; conds = line ∷ a.conds }

abbrev pub under : ℕ → List Assigned → List Assigned
under line assigned = map (within line) assigned

-- ---- targets

-- an item of several is assigned under a condition, which has the line of the assignment
abbrev pub picked : Targets → ℕ → List Assigned → List Assigned
picked NoTarget line items = items
picked (MoreTargets t NoTarget) line items = items
picked (MoreTargets t (MoreTargets u more)) line items = under line items

-- the assignments to the signal x by an assignment to a target, and to some targets
abbrev mutual
  pub target_lines : Target → ℕ → ℕ → List Assigned
  target_lines (Whole y) line x = if nat_eq y x then alone line ∷ [] else []
  target_lines (Part y low len) line x = if nat_eq y x then alone line ∷ [] else []
  target_lines (CatTarget parts) line x = targets_lines parts line x
  target_lines (PickTarget items index) line x = picked items line (targets_lines items line x)

  pub targets_lines : Targets → ℕ → ℕ → List Assigned
  targets_lines NoTarget line x = []
  targets_lines (MoreTargets t ts) line x = target_lines t line x ++ targets_lines ts line x

-- ---- statements

-- the assignments of statements, from those of the statement at each place
abbrev pub lines_in : (ℕ → List Assigned) → List StmtId → List Assigned
lines_in f [] = []
lines_in f (i ∷ is) = f i.place ++ lines_in f is

abbrev pub branch_lines : (ℕ → List Assigned) → List Branch → List Assigned
branch_lines f [] = []
branch_lines f (b ∷ bs) = lines_in f b.body ++ branch_lines f bs

abbrev pub arm_lines : (ℕ → List Assigned) → List Arm → List Assigned
arm_lines f [] = []
arm_lines f (a ∷ arms) = lines_in f a.body ++ arm_lines f arms

-- each list under a condition
abbrev pub under_each : ℕ → (ℕ → List Assigned) → ℕ → List Assigned
under_each line f k = under line (f k)

-- where there is one
abbrev pub inside : Bool → ℕ → (ℕ → List Assigned) → ℕ → List Assigned
inside true line f = under_each line f
inside false line f = f

-- an `If` without branches is no condition
abbrev pub has_branch : List Branch → Bool
has_branch [] = false
has_branch (b ∷ bs) = true

-- the default of a `Case` stands under a condition where some key is a value of the shape
abbrev pub has_key : Shape → List Arm → Bool
has_key a [] = false
has_key a (m ∷ more) = int_eq (wrapped a m.key) m.key || has_key a more

-- the assignments of a statement: t has those to the target at each place, s the shape of the expression at each place
abbrev pub node_lines : (ℕ → ℕ → List Assigned) → (ℕ → Shape) → (ℕ → List Assigned) → Stmt → List Assigned
node_lines t s f (Assign target value line) = t target.place line
node_lines t s f (If branches rest line) = branch_lines (inside (has_branch branches) line f) branches ++ lines_in (inside (has_branch branches) line f) rest
node_lines t s f (Case on arms rest line) = arm_lines (inside true line f) arms ++ lines_in (inside (has_key (s on.place) arms) line f) rest

-- ---- designs

abbrev pub assigned_by : Design → ℕ → ℕ → ℕ → List Assigned
assigned_by d x k line = target_lines (target d k) line x

abbrev pub expr_shape : Design → ℕ → Shape
expr_shape d k = shape_of (shapes d) (term d k)

-- the assignments to the signal x in the statement at a place
unfoldable pub lines_at : Design → ℕ → ℕ → List Assigned
lines_at d x k = fold_at [] (node_lines (assigned_by d x) (expr_shape d)) d.stmts k

-- and in some statements
abbrev pub lines : Design → ℕ → List StmtId → List Assigned
lines d x ids = lines_in (lines_at d x) ids

-- ---- statements that are folded to one assignment

abbrev pub first_line : List Assigned → Option ℕ
first_line [] = None
first_line (a ∷ more) = Some a.line

-- one assignment from the line of the first, under no condition
abbrev pub from_first : List Assigned → List Assigned
from_first [] = []
from_first (a ∷ more) = alone a.line ∷ []

-- where they are folded
abbrev pub folded_lines : Bool → List Assigned → List Assigned
folded_lines true assigned = from_first assigned
folded_lines false assigned = assigned

-- ---- for each signal

abbrev pub no_lines : ℕ → List Assigned
no_lines x = []

abbrev pub both_lines : (ℕ → List Assigned) → (ℕ → List Assigned) → ℕ → List Assigned
both_lines f g x = f x ++ g x
