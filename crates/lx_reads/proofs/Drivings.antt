-- What the statement at a place drives is made of what those inside it do.
use Rattle.std.proofs.Common.{◌≡◌, ℕ, true, Bool, ◌||◌, List, [], ◌∷◌, ◌++◌, Some, refl, sym, ◌∙◌, ap, nat_lt, nat_eq}
use Rattle.std.specs.Prelude.{slice_get}
use Rattle.std.proofs.Math.Bool.{or-false, or_assoc}
use Rattle.std.proofs.lemmas.Bool.{ltb-true, and_parts}
use Rattle.lx_arena.specs.Lower.{EachLower}
use Rattle.lx_arena.specs.Folds.{Same, IsLocal}
use Rattle.lx_arena.proofs.Folds.{fold_at-is}
use Rattle.lx_circuit.specs.Circuit.{is_among}
use Rattle.lx_circuit.specs.Statements as tree
use Rattle.lx_circuit.specs.Statements.{is_target, some_target}
use Rattle.lx_fhdl.specs.Below.{StmtId, all_stmts_below, all_branches_below, all_arms_below, stmt_below}
use Rattle.lx_fhdl.specs.declared.design.Design.{Design}
use Rattle.lx_fhdl.specs.declared.stmts.Arm.{Arm}
use Rattle.lx_fhdl.specs.declared.stmts.Branch.{Branch}
use Rattle.lx_fhdl.specs.declared.stmts.Stmt.{Stmt}
use Rattle.lx_fhdl.specs.declared.stmts.Stmt.TheVariants as stmt
use Rattle.lx_reads.specs.Drivings.{Driving, arm_drivings, branch_drivings, drivings_at, drivings_in, node_drivings, target_signals, targets_signals}

pub in_same : (f g : ℕ → List Driving) (n : ℕ) (is : List StmtId) → Same f g n → all_stmts_below n is ≡ true → drivings_in f is ≡ drivings_in g is
in_same f g n [] h e = refl
in_same f g n (i ∷ is) h e =
    let p = and_parts (nat_lt i.place n) (all_stmts_below n is) e in
    ap (λ (xs : List Driving). xs ++ drivings_in f is) (h i.place (ltb-true i.place n p.0)) ∙ ap (λ (xs : List Driving). g i.place ++ xs) (in_same f g n is h p.1)

pub branch_same : (f g : ℕ → List Driving) (n : ℕ) (bs : List Branch) → Same f g n → all_branches_below n bs ≡ true → branch_drivings f bs ≡ branch_drivings g bs
branch_same f g n [] h e = refl
branch_same f g n (b ∷ bs) h e =
    let p = and_parts (all_stmts_below n b.body) (all_branches_below n bs) e in
    ap (λ (xs : List Driving). xs ++ branch_drivings f bs) (in_same f g n b.body h p.0) ∙ ap (λ (xs : List Driving). drivings_in g b.body ++ xs) (branch_same f g n bs h p.1)

pub arm_same : (f g : ℕ → List Driving) (n : ℕ) (arms : List Arm) → Same f g n → all_arms_below n arms ≡ true → arm_drivings f arms ≡ arm_drivings g arms
arm_same f g n [] h e = refl
arm_same f g n (a ∷ arms) h e =
    let p = and_parts (all_stmts_below n a.body) (all_arms_below n arms) e in
    ap (λ (xs : List Driving). xs ++ arm_drivings f arms) (in_same f g n a.body h p.0) ∙ ap (λ (xs : List Driving). drivings_in g a.body ++ xs) (arm_same f g n arms h p.1)

node_same : (d : Design) (driver : ℕ) (f g : ℕ → List Driving) (n : ℕ) (x : Stmt) → Same f g n → stmt_below x n ≡ true → node_drivings d driver f x ≡ node_drivings d driver g x
node_same d driver f g n (stmt.Assign t value line) h e = refl
node_same d driver f g n (stmt.If branches rest line) h e =
    let p = and_parts (all_branches_below n branches) (all_stmts_below n rest) e in
    ap (λ (xs : List Driving). xs ++ drivings_in f rest) (branch_same f g n branches h p.0) ∙ ap (λ (xs : List Driving). branch_drivings g branches ++ xs) (in_same f g n rest h p.1)
node_same d driver f g n (stmt.Case on arms rest line) h e =
    let p = and_parts (all_arms_below n arms) (all_stmts_below n rest) e in
    ap (λ (xs : List Driving). xs ++ drivings_in f rest) (arm_same f g n arms h p.0) ∙ ap (λ (xs : List Driving). arm_drivings g arms ++ xs) (in_same f g n rest h p.1)

pub local : (d : Design) (driver : ℕ) → IsLocal stmt_below (node_drivings d driver)
local d driver = record { same = λ f g n x h e. node_same d driver f g n x h e }

pub drivings_at-is : (d : Design) (driver k : ℕ) (x : Stmt) → EachLower stmt_below d.stmts → slice_get d.stmts k ≡ Some x → drivings_at d driver k ≡ node_drivings d driver (drivings_at d driver) x
unfolding drivings_at
drivings_at-is d driver k x low e = fold_at-is stmt_below [] (node_drivings d driver) (local d driver) d.stmts low k x e

-- ---- the signals of targets

pub among_append : (x : ℕ) (xs ys : List ℕ) → is_among x (xs ++ ys) ≡ (is_among x xs || is_among x ys)
among_append x [] ys = refl
among_append x (z ∷ zs) ys = ap (λ (b : Bool). nat_eq z x || b) (among_append x zs ys) ∙ sym (or_assoc (nat_eq z x) (is_among x zs) (is_among x ys))

-- they are those that the target changes
mutual
  pub signals_are : (x : ℕ) (t : tree.Target) → is_among x (target_signals t) ≡ is_target x t
  signals_are x (tree.Whole y) = or-false (nat_eq y x)
  signals_are x (tree.Part y low len) = or-false (nat_eq y x)
  signals_are x (tree.CatTarget parts) = all_signals_are x parts
  signals_are x (tree.PickTarget items index) = all_signals_are x items

  all_signals_are : (x : ℕ) (ts : tree.Targets) → is_among x (targets_signals ts) ≡ some_target x ts
  all_signals_are x tree.NoTarget = refl
  all_signals_are x (tree.MoreTargets t ts) =
      among_append x (target_signals t) (targets_signals ts)
      ∙ ap (λ (b : Bool). b || is_among x (targets_signals ts)) (signals_are x t)
      ∙ ap (λ (b : Bool). is_target x t || b) (all_signals_are x ts)
