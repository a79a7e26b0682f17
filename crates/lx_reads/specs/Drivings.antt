-- Which signals are driven, where, and on which lines.
use Rattle.std.specs.Prelude.{ℕ, Bool, ◌+◌, ◌&&◌, List, [], ◌∷◌, ◌++◌, Option, map, nat_eq}
use Rattle.std.specs.List.{find}
use Rattle.lx_arena.specs.Folds.{fold_at}
use Rattle.lx_circuit.specs.Statements.{Target, Targets, Whole, Part, CatTarget, PickTarget, NoTarget, MoreTargets}
use Rattle.lx_fhdl.specs.Below.{StmtId}
use Rattle.lx_fhdl.specs.Designs.{stmts_of, target}
use Rattle.lx_fhdl.specs.declared.design.Design.{Design}
use Rattle.lx_fhdl.specs.declared.design.Domain.{Domain}
use Rattle.lx_fhdl.specs.declared.stmts.Arm.{Arm}
use Rattle.lx_fhdl.specs.declared.stmts.Branch.{Branch}
use Rattle.lx_fhdl.specs.declared.stmts.Stmt.{Stmt}
use Rattle.lx_fhdl.specs.declared.stmts.Stmt.TheVariants.{Assign, If, Case}

-- An assignment drives a signal, on its line; the driver is 0 in the combinatorial statements, and k + 1 in those of
-- the domain of number k.
pub record Driving : Type 0 where
  pub signal : ℕ
  pub driver : ℕ
  pub line : ℕ

-- ---- targets

-- the signals that a target names, each as often as it does
abbrev mutual
  pub target_signals : Target → List ℕ
  target_signals (Whole x) = x ∷ []
  target_signals (Part x low len) = x ∷ []
  target_signals (CatTarget parts) = targets_signals parts
  target_signals (PickTarget items index) = targets_signals items

  pub targets_signals : Targets → List ℕ
  targets_signals NoTarget = []
  targets_signals (MoreTargets t ts) = target_signals t ++ targets_signals ts

-- ---- statements

-- what statements drive, from what the statement at each place does
abbrev pub drivings_in : (ℕ → List Driving) → List StmtId → List Driving
drivings_in f [] = []
drivings_in f (i ∷ is) = f i.place ++ drivings_in f is

abbrev pub branch_drivings : (ℕ → List Driving) → List Branch → List Driving
branch_drivings f [] = []
branch_drivings f (b ∷ bs) = drivings_in f b.body ++ branch_drivings f bs

abbrev pub arm_drivings : (ℕ → List Driving) → List Arm → List Driving
arm_drivings f [] = []
arm_drivings f (a ∷ arms) = drivings_in f a.body ++ arm_drivings f arms

abbrev pub driving : ℕ → ℕ → ℕ → Driving
driving driver line x = record { signal = x; driver = driver; line = line }

-- what an assignment drives
abbrev pub assign_drivings : ℕ → ℕ → Target → List Driving
assign_drivings driver line t = map (driving driver line) (target_signals t)

abbrev pub node_drivings : Design → ℕ → (ℕ → List Driving) → Stmt → List Driving
node_drivings d driver f (Assign t value line) = assign_drivings driver line (target d t.place)
node_drivings d driver f (If branches rest line) = branch_drivings f branches ++ drivings_in f rest
node_drivings d driver f (Case on arms rest line) = arm_drivings f arms ++ drivings_in f rest

-- what the statement at a place drives, in the order of the text
unfoldable pub drivings_at : Design → ℕ → ℕ → List Driving
drivings_at d driver k = fold_at [] (node_drivings d driver) d.stmts k

abbrev pub drivings_of : Design → ℕ → List StmtId → List Driving
drivings_of d driver ids = drivings_in (drivings_at d driver) ids

-- ---- designs

-- what the domains from number k on drive
abbrev pub domains_drivings : Design → ℕ → List Domain → List Driving
domains_drivings d k [] = []
domains_drivings d k (x ∷ xs) = drivings_of d (k + 1) (stmts_of k d.sync) ++ domains_drivings d (k + 1) xs

-- All that a design drives: its combinatorial statements, then its domains in their order, each in the order of the text.
unfoldable pub drivings : Design → List Driving
drivings d = drivings_of d 0 d.comb ++ domains_drivings d 0 d.domains

-- the first that drives a signal and passes a test
abbrev pub first_driving : ℕ → (Driving → Bool) → List Driving → Option Driving
first_driving x test all = find (λ a. nat_eq a.signal x && test a) all
