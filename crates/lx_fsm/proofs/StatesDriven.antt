-- What the statements of FSMs drive: each drives what its node does, from those inside; and it stays while the draft grows.
use Rattle.std.proofs.Common.{◌≡◌, ℕ, List, [], ◌∷◌, ◌++◌, true, length, refl, ap, ◌∙◌, nat_lt}
use Rattle.std.specs.Prelude.{Some, slice_get}
use Rattle.std.proofs.lemmas.Bool.{and_parts, ltb-true}
use Rattle.lx_arena.specs.Folds.{IsLocal, Same}
use Rattle.lx_arena.specs.Lower.{EachLower}
use Rattle.lx_arena.proofs.Folds.{fold_at-is, fold_at-same}
use Rattle.lx_circuit.specs.Statements.{Target}
use Rattle.lx_fhdl.specs.Keeping.{EachOf}
use Rattle.lx_fhdl.specs.declared.design.Design.{Design}
use Rattle.lx_fhdl.proofs.Resets.{each_of_at}
use Rattle.lx_description.specs.Below.{FsmStmtId, all_fsm_arms_below, all_fsm_below, all_fsm_branches_below, fsm_below}
use Rattle.lx_description.specs.Keeping.{FsmStmtStands}
use Rattle.lx_description.specs.declared.fsms.FsmArm.{FsmArm}
use Rattle.lx_description.specs.declared.fsms.FsmBranch.{FsmBranch}
use Rattle.lx_description.specs.declared.fsms.FsmStmt.{FsmStmt}
use Rattle.lx_description.specs.declared.fsms.FsmStmt.TheVariants as fsm
use Rattle.lx_reads.specs.Drivings.{assign_drivings}
use Rattle.lx_fsm.specs.declared.states.Part.{Part}
use Rattle.lx_fsm.specs.Driven.{acts_driven, arms_driven, branches_driven, driven_at, later_driven, node_driven, now_driven}
use Rattle.lx_fsm.specs.Lowers.{Grows}
use Rattle.lx_fsm.proofs.Drives.{Drivings}

-- ---- one level

acts_same : (f g : ℕ → Drivings) (n : ℕ) (is : List FsmStmtId) → Same f g n → all_fsm_below n is ≡ true → acts_driven f is ≡ acts_driven g is
acts_same f g n [] h e = refl
acts_same f g n (i ∷ is) h e =
    let p = and_parts (nat_lt i.place n) (all_fsm_below n is) e in
    ap (λ (l : Drivings). l ++ acts_driven f is) (h i.place (ltb-true i.place n p.0)) ∙ ap (λ (l : Drivings). g i.place ++ l) (acts_same f g n is h p.1)

branches_same : (f g : ℕ → Drivings) (n : ℕ) (bs : List FsmBranch) → Same f g n → all_fsm_branches_below n bs ≡ true → branches_driven f bs ≡ branches_driven g bs
branches_same f g n [] h e = refl
branches_same f g n (b ∷ bs) h e =
    let p = and_parts (all_fsm_below n b.body) (all_fsm_branches_below n bs) e in
    ap (λ (l : Drivings). l ++ branches_driven f bs) (acts_same f g n b.body h p.0) ∙ ap (λ (l : Drivings). acts_driven g b.body ++ l) (branches_same f g n bs h p.1)

arms_same : (f g : ℕ → Drivings) (n : ℕ) (as_ : List FsmArm) → Same f g n → all_fsm_arms_below n as_ ≡ true → arms_driven f as_ ≡ arms_driven g as_
arms_same f g n [] h e = refl
arms_same f g n (a ∷ as_) h e =
    let p = and_parts (all_fsm_below n a.body) (all_fsm_arms_below n as_) e in
    ap (λ (l : Drivings). l ++ arms_driven f as_) (acts_same f g n a.body h p.0) ∙ ap (λ (l : Drivings). acts_driven g a.body ++ l) (arms_same f g n as_ h p.1)

level_same : (d : Design) (state : ℕ) (p : Part) (driver : ℕ) (f g : ℕ → Drivings) (n : ℕ) (x : FsmStmt) → Same f g n → fsm_below x n ≡ true → node_driven d state p driver f x ≡ node_driven d state p driver g x
level_same d state p driver f g n (fsm.Assign t value line) h e = refl
level_same d state p driver f g n (fsm.If branches rest line) h e =
    let q = and_parts (all_fsm_branches_below n branches) (all_fsm_below n rest) e in
    ap (λ (l : Drivings). l ++ acts_driven f rest) (branches_same f g n branches h q.0) ∙ ap (λ (l : Drivings). branches_driven g branches ++ l) (acts_same f g n rest h q.1)
level_same d state p driver f g n (fsm.Case on arms rest line) h e =
    let q = and_parts (all_fsm_arms_below n arms) (all_fsm_below n rest) e in
    ap (λ (l : Drivings). l ++ acts_driven f rest) (arms_same f g n arms h q.0) ∙ ap (λ (l : Drivings). arms_driven g arms ++ l) (acts_same f g n rest h q.1)
level_same d state p driver f g n (fsm.NextState name line) h e = refl
level_same d state p driver f g n (fsm.NextValue t value line) h e = refl

driven_local : (d : Design) (state : ℕ) (p : Part) (driver : ℕ) → IsLocal fsm_below (node_driven d state p driver)
driven_local d state p driver = record { same = level_same d state p driver }

-- a statement drives what its node does, from what those inside drive
pub driven_is : (d : Design) (state : ℕ) (p : Part) (driver : ℕ) (xs : List FsmStmt) → EachLower fsm_below xs → (k : ℕ) (x : FsmStmt) → slice_get xs k ≡ Some x → driven_at d state p driver xs k ≡ node_driven d state p driver (driven_at d state p driver xs) x
unfolding driven_at
driven_is d state p driver xs low k x e = fold_at-is fsm_below [] (node_driven d state p driver) (driven_local d state p driver) xs low k x e

-- ---- growth

node_same : (x y : Design) (state : ℕ) (p : Part) (driver n : ℕ) (f : ℕ → Drivings) (z : FsmStmt) → Grows x y → FsmStmtStands n (length x.targets) z → node_driven y state p driver f z ≡ node_driven x state p driver f z
node_same x y state p driver n f (fsm.Assign t value line) g h = ap (λ (u : Target). now_driven p (assign_drivings driver line u)) (g.stays.target_trees t.place h.0)
node_same x y state p driver n f (fsm.If branches rest line) g h = refl
node_same x y state p driver n f (fsm.Case on arms rest line) g h = refl
node_same x y state p driver n f (fsm.NextState name line) g h = refl
node_same x y state p driver n f (fsm.NextValue t value line) g h = ap (λ (u : Target). later_driven p (assign_drivings driver line u)) (g.stays.target_trees t.place h.0)

pub driven_kept : {x y : Design} (state : ℕ) (p : Part) (driver : ℕ) (xs : List FsmStmt) → Grows x y → EachLower fsm_below xs → EachOf (FsmStmtStands (length x.exprs) (length x.targets)) xs → (k : ℕ)
    → driven_at y state p driver xs k ≡ driven_at x state p driver xs k
unfolding driven_at
driven_kept {x} {y} state p driver xs g low h k =
    fold_at-same fsm_below [] (node_driven y state p driver) (node_driven x state p driver) (driven_local x state p driver) xs low
    (λ a j z at. node_same x y state p driver (length x.exprs) a z g (each_of_at (FsmStmtStands (length x.exprs) (length x.targets)) xs h j z at)) k
