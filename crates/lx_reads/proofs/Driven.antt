-- A design drives what its statements do.
use Rattle.std.proofs.Common.{◌≡◌, ℕ, ◌<◌, Bool, true, ◌||◌, List, [], ◌∷◌, ◌++◌, length, map, refl, sym, ap, ◌∙◌, nat_eq, nat_lt}
use Rattle.std.specs.List.{list_any}
use Rattle.std.proofs.Math.Bool.{or_assoc}
use Rattle.std.proofs.lemmas.Bool.{and_parts, ltb-true}
use Rattle.lx_arena.proofs.Places.{by_places, lower_at}
use Rattle.lx_circuit.specs.Circuit.{is_among}
use Rattle.lx_circuit.specs.Statements.{drives, drives_arm, drives_block, drives_branch}
use Rattle.lx_fhdl.specs.Below.{StmtId, all_arms_below, all_branches_below, all_stmts_below, stmt_below}
use Rattle.lx_fhdl.specs.Designs.{block, stmt, target, term}
use Rattle.lx_fhdl.specs.Keeping.{Keeps}
use Rattle.lx_fhdl.specs.Stmts.{arms_at, branches_at, node_stmt}
use Rattle.lx_fhdl.specs.declared.design.Design.{Design}
use Rattle.lx_fhdl.specs.declared.stmts.Arm.{Arm}
use Rattle.lx_fhdl.specs.declared.stmts.Branch.{Branch}
use Rattle.lx_fhdl.specs.declared.stmts.Stmt.{Stmt}
use Rattle.lx_fhdl.specs.declared.stmts.Stmt.TheVariants as node
use Rattle.lx_fhdl.proofs.Drafts.{stmt_is}
use Rattle.lx_reads.specs.Drivings.{Driving, arm_drivings, branch_drivings, driving, drivings_at, drivings_of, node_drivings, target_signals}
use Rattle.lx_reads.proofs.Drivings.{drivings_at-is, signals_are}

abbrev is_for : ℕ → Driving → Bool
is_for x a = nat_eq a.signal x

-- some of these drive x
abbrev pub some_drive : ℕ → List Driving → Bool
some_drive x all = list_any (is_for x) all

pub some_append : (x : ℕ) (xs ys : List Driving) → some_drive x (xs ++ ys) ≡ (some_drive x xs || some_drive x ys)
some_append x [] ys = refl
some_append x (z ∷ zs) ys = ap (λ (b : Bool). is_for x z || b) (some_append x zs ys) ∙ sym (or_assoc (is_for x z) (some_drive x zs) (some_drive x ys))

assign_drives : (driver line x : ℕ) (xs : List ℕ) → some_drive x (map (driving driver line) xs) ≡ is_among x xs
assign_drives driver line x [] = refl
assign_drives driver line x (y ∷ ys) = ap (λ (b : Bool). nat_eq y x || b) (assign_drives driver line x ys)

-- the statement at this place drives what it should
abbrev Good : Design → ℕ → ℕ → ℕ → Type 0
Good d driver x k = some_drive x (drivings_at d driver k) ≡ drives x (stmt d k)

abbrev GoodBelow : Design → ℕ → ℕ → ℕ → Type 0
GoodBelow d driver x n = (k : ℕ) → k < n → Good d driver x k

list_drives : (d : Design) (driver x n : ℕ) (ids : List StmtId) → GoodBelow d driver x n → all_stmts_below n ids ≡ true → some_drive x (drivings_of d driver ids) ≡ drives_block x (block d ids)
list_drives d driver x n [] h e = refl
list_drives d driver x n (i ∷ is) h e =
    let p = and_parts (nat_lt i.place n) (all_stmts_below n is) e in
    some_append x (drivings_at d driver i.place) (drivings_of d driver is)
    ∙ ap (λ (b : Bool). b || some_drive x (drivings_of d driver is)) (h i.place (ltb-true i.place n p.0))
    ∙ ap (λ (b : Bool). drives x (stmt d i.place) || b) (list_drives d driver x n is h p.1)

branch_drives : (d : Design) (driver x n : ℕ) (bs : List Branch) → GoodBelow d driver x n → all_branches_below n bs ≡ true → some_drive x (branch_drivings (drivings_at d driver) bs) ≡ drives_branch x (branches_at (term d) (stmt d) bs)
branch_drives d driver x n [] h e = refl
branch_drives d driver x n (b ∷ bs) h e =
    let p = and_parts (all_stmts_below n b.body) (all_branches_below n bs) e in
    some_append x (drivings_of d driver b.body) (branch_drivings (drivings_at d driver) bs)
    ∙ ap (λ (v : Bool). v || some_drive x (branch_drivings (drivings_at d driver) bs)) (list_drives d driver x n b.body h p.0)
    ∙ ap (λ (v : Bool). drives_block x (block d b.body) || v) (branch_drives d driver x n bs h p.1)

arm_drives : (d : Design) (driver x n : ℕ) (arms : List Arm) → GoodBelow d driver x n → all_arms_below n arms ≡ true → some_drive x (arm_drivings (drivings_at d driver) arms) ≡ drives_arm x (arms_at (stmt d) arms)
arm_drives d driver x n [] h e = refl
arm_drives d driver x n (a ∷ arms) h e =
    let p = and_parts (all_stmts_below n a.body) (all_arms_below n arms) e in
    some_append x (drivings_of d driver a.body) (arm_drivings (drivings_at d driver) arms)
    ∙ ap (λ (v : Bool). v || some_drive x (arm_drivings (drivings_at d driver) arms)) (list_drives d driver x n a.body h p.0)
    ∙ ap (λ (v : Bool). drives_block x (block d a.body) || v) (arm_drives d driver x n arms h p.1)

node_drives : (d : Design) (driver x n : ℕ) (s : Stmt) → GoodBelow d driver x n → stmt_below s n ≡ true → some_drive x (node_drivings d driver (drivings_at d driver) s) ≡ drives x (node_stmt (term d) (target d) (stmt d) s)
node_drives d driver x n (node.Assign t value line) h e = assign_drives driver line x (target_signals (target d t.place)) ∙ signals_are x (target d t.place)
node_drives d driver x n (node.If branches rest line) h e =
    let p = and_parts (all_branches_below n branches) (all_stmts_below n rest) e in
    some_append x (branch_drivings (drivings_at d driver) branches) (drivings_of d driver rest)
    ∙ ap (λ (v : Bool). v || some_drive x (drivings_of d driver rest)) (branch_drives d driver x n branches h p.0)
    ∙ ap (λ (v : Bool). drives_branch x (branches_at (term d) (stmt d) branches) || v) (list_drives d driver x n rest h p.1)
node_drives d driver x n (node.Case on arms rest line) h e =
    let p = and_parts (all_arms_below n arms) (all_stmts_below n rest) e in
    some_append x (arm_drivings (drivings_at d driver) arms) (drivings_of d driver rest)
    ∙ ap (λ (v : Bool). v || some_drive x (drivings_of d driver rest)) (arm_drives d driver x n arms h p.0)
    ∙ ap (λ (v : Bool). drives_arm x (arms_at (stmt d) arms) || v) (list_drives d driver x n rest h p.1)

all_good : (d : Design) (driver x : ℕ) → Keeps d → GoodBelow d driver x (length d.stmts)
all_good d driver x keeps =
    by_places (Good d driver x) d.stmts
    (λ k s e below.
    ap (some_drive x) (drivings_at-is d driver k s keeps.arenas.stmts_lower e)
    ∙ node_drives d driver x k s below (lower_at stmt_below d.stmts keeps.arenas.stmts_lower k s e)
    ∙ ap (drives x) (sym (stmt_is d k s keeps.arenas.stmts_lower e)))

-- what statements drive
pub block_drives : (d : Design) (driver x : ℕ) (ids : List StmtId) → Keeps d → all_stmts_below (length d.stmts) ids ≡ true → some_drive x (drivings_of d driver ids) ≡ drives_block x (block d ids)
block_drives d driver x ids keeps e = list_drives d driver x (length d.stmts) ids (all_good d driver x keeps) e
