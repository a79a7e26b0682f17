-- What statements drive that are put, one after another.
use Rattle.std.proofs.Common.{◌≡◌, ℕ, ◌<◌, true, List, [], ◌∷◌, ◌++◌, Some, length, refl, sym, ap, ◌∙◌, append_assoc}
use Rattle.std.specs.Prelude.{slice_get}
use Rattle.std.proofs.lemmas.List.{append-nil}
use Rattle.lx_arena.proofs.Folds.{fold_at-front, fold_at-same}
use Rattle.lx_fhdl.specs.Below.{StmtId, all_arms_below, all_branches_below, stmt_below}
use Rattle.lx_fhdl.specs.Drafts.{DraftKeeps, StmtPut, Stays}
use Rattle.lx_fhdl.specs.Keeping.{StmtStands}
use Rattle.lx_fhdl.specs.declared.design.Design.{Design}
use Rattle.lx_fhdl.specs.declared.stmts.Arm.{Arm}
use Rattle.lx_fhdl.specs.declared.stmts.Branch.{Branch}
use Rattle.lx_fhdl.specs.declared.stmts.Stmt.{Stmt}
use Rattle.lx_fhdl.specs.declared.stmts.Stmt.TheVariants as stmt
use Rattle.lx_reads.specs.Drivings.{Driving, arm_drivings, assign_drivings, branch_drivings, drivings_at, drivings_in, drivings_of, node_drivings}
use Rattle.lx_reads.proofs.Drivings.{arm_same, branch_same, drivings_at-is, in_same, local}
use Rattle.lx_fsm.specs.Lowers.{AreThere, node_more}

abbrev pub Drivings : Type 0
Drivings = List Driving

-- ---- what is driven stays where a draft grows

-- a node's own drivings, where its target stays
node_stays : (x y : Design) (driver n : ℕ) (s : Stmt) (f : ℕ → Drivings) → Stays x y → StmtStands n (length x.targets) s → node_drivings y driver f s ≡ node_drivings x driver f s
node_stays x y driver n (stmt.Assign t value line) f g h = ap (assign_drivings driver line) (g.target_trees t.place h.0)
node_stays x y driver n (stmt.If branches rest line) f g h = refl
node_stays x y driver n (stmt.Case on arms rest line) f g h = refl

pub drivings_stay : (x y : Design) → DraftKeeps x → DraftKeeps y → Stays x y → (driver k : ℕ) → k < length x.stmts → drivings_at y driver k ≡ drivings_at x driver k
unfolding drivings_at
drivings_stay x y a b g driver k l =
    fold_at-front stmt_below [] (node_drivings y driver) (local y driver) x.stmts y.stmts b.arenas.stmts_lower g.stmt_nodes k l
    ∙ fold_at-same stmt_below [] (node_drivings y driver) (node_drivings x driver) (local x driver) x.stmts a.arenas.stmts_lower
    (λ f j s at. node_stays x y driver (length x.exprs) s f g (a.arenas.stmts j s at)) k

-- ---- lists

pub in_both : (f : ℕ → Drivings) (is js : List StmtId) → drivings_in f (is ++ js) ≡ drivings_in f is ++ drivings_in f js
in_both f [] js = refl
in_both f (i ∷ is) js = ap (λ (l : Drivings). f i.place ++ l) (in_both f is js) ∙ sym (append_assoc (f i.place) (drivings_in f is) (drivings_in f js))

pub list_stays : (x y : Design) (ids : List StmtId) → ((driver k : ℕ) → k < length x.stmts → drivings_at y driver k ≡ drivings_at x driver k) → AreThere x ids → (driver : ℕ) → drivings_of y driver ids ≡ drivings_of x driver ids
list_stays x y ids stay there driver = in_same (drivings_at y driver) (drivings_at x driver) (length x.stmts) ids (stay driver) (search there)

-- ---- a statement more: it drives what its node does, over the draft before it

parts_stay : (x y : Design) (driver n : ℕ) (node : Stmt) → Stays x y → ((k : ℕ) → k < length x.stmts → drivings_at y driver k ≡ drivings_at x driver k) → StmtStands n (length x.targets) node → stmt_below node (length x.stmts) ≡ true
    → node_drivings y driver (drivings_at y driver) node ≡ node_drivings x driver (drivings_at x driver) node
parts_stay x y driver n node g stay stands below = node_stays x y driver n node (drivings_at y driver) g stands ∙ (local x driver).same (drivings_at y driver) (drivings_at x driver) (length x.stmts) node stay below

-- behind other statements
pub last_drives : (x y : Design) (node : Stmt) (id : StmtId) (before after : List StmtId) (n : ℕ) → DraftKeeps x → DraftKeeps y → StmtPut x y node id.place → slice_get y.stmts id.place ≡ Some node
    → StmtStands n (length x.targets) node → stmt_below node (length x.stmts) ≡ true → AreThere x before → after ≡ before ++ id ∷ [] → (driver : ℕ) → drivings_of y driver after ≡ drivings_of x driver before ++ node_more x node driver
last_drives x y node id before after n a b p at stands below there e driver =
    let stay = drivings_stay x y a b p.stays in
    ap (drivings_of y driver) e
    ∙ in_both (drivings_at y driver) before (id ∷ [])
    ∙ ap (λ (l : Drivings). l ++ (drivings_at y driver id.place ++ [])) (list_stays x y before stay there driver)
    ∙ ap (λ (l : Drivings). drivings_of x driver before ++ l) (append-nil (drivings_at y driver id.place) ∙ drivings_at-is y driver id.place node b.arenas.stmts_lower at ∙ parts_stay x y driver n node p.stays (stay driver) stands below)

pub branches_stay : (x y : Design) (bs : List Branch) → ((driver k : ℕ) → k < length x.stmts → drivings_at y driver k ≡ drivings_at x driver k) → all_branches_below (length x.stmts) bs ≡ true → (driver : ℕ) → branch_drivings (drivings_at y driver) bs ≡ branch_drivings (drivings_at x driver) bs
branches_stay x y bs stay there driver = branch_same (drivings_at y driver) (drivings_at x driver) (length x.stmts) bs (stay driver) there

pub arms_stay : (x y : Design) (arms : List Arm) → ((driver k : ℕ) → k < length x.stmts → drivings_at y driver k ≡ drivings_at x driver k) → all_arms_below (length x.stmts) arms ≡ true → (driver : ℕ) → arm_drivings (drivings_at y driver) arms ≡ arm_drivings (drivings_at x driver) arms
arms_stay x y arms stay there driver = arm_same (drivings_at y driver) (drivings_at x driver) (length x.stmts) arms (stay driver) there

-- ---- branches and arms, one more

pub branches_both : (f : ℕ → Drivings) (bs : List Branch) (b : Branch) → branch_drivings f (bs ++ b ∷ []) ≡ branch_drivings f bs ++ drivings_in f b.body
branches_both f [] b = append-nil (drivings_in f b.body)
branches_both f (x ∷ xs) b = ap (λ (l : Drivings). drivings_in f x.body ++ l) (branches_both f xs b) ∙ sym (append_assoc (drivings_in f x.body) (branch_drivings f xs) (drivings_in f b.body))

pub arms_both : (f : ℕ → Drivings) (arms : List Arm) (a : Arm) → arm_drivings f (arms ++ a ∷ []) ≡ arm_drivings f arms ++ drivings_in f a.body
arms_both f [] a = append-nil (drivings_in f a.body)
arms_both f (x ∷ xs) a = ap (λ (l : Drivings). drivings_in f x.body ++ l) (arms_both f xs a) ∙ sym (append_assoc (drivings_in f x.body) (arm_drivings f xs) (drivings_in f a.body))
