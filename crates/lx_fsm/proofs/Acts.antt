-- The trees of the statements of FSMs: each is made of those of its node's children, and stays while the draft grows.
use Rattle.std.proofs.Common.{◌≡◌, ℕ, List, [], ◌∷◌, true, length, refl, ap, ◌∙◌, nat_lt}
use Rattle.std.specs.Prelude.{Some, slice_get}
use Rattle.std.proofs.lemmas.Bool.{and_parts, ltb-true}
use Rattle.lx_arena.specs.Folds.{IsLocal, Same}
use Rattle.lx_arena.specs.Lower.{EachLower}
use Rattle.lx_arena.proofs.Folds.{fold_at-is, fold_at-same}
use Rattle.lx_circuit.specs.Statements.{Target}
use Rattle.lx_circuit.specs.Terms.{Term}
use Rattle.lx_fhdl.specs.Designs as design
use Rattle.lx_fhdl.specs.Designs.{term}
use Rattle.lx_fhdl.specs.Keeping.{EachOf}
use Rattle.lx_fhdl.specs.declared.design.Design.{Design}
use Rattle.lx_fhdl.proofs.Resets.{each_of_at}
use Rattle.lx_description.specs.Below.{FsmStmtId, all_fsm_arms_below, all_fsm_below, all_fsm_branches_below, fsm_below}
use Rattle.lx_description.specs.Keeping.{FsmBranchesStand, FsmStmtStands}
use Rattle.lx_description.specs.declared.fsms.FsmArm.{FsmArm}
use Rattle.lx_description.specs.declared.fsms.FsmBranch.{FsmBranch}
use Rattle.lx_description.specs.declared.fsms.FsmStmt.{FsmStmt}
use Rattle.lx_description.specs.declared.fsms.FsmStmt.TheVariants as fsm
use Rattle.lx_fsm.specs.Actions.{Act, Do, If, Case, Branches, Branch, Arms, Arm, Acts, Then, Assign, NextValue}
use Rattle.lx_fsm.specs.Decls.{act, act_at, acts_at, arms_at, branches_at, no_act, node_act}
use Rattle.lx_fsm.specs.Lowers.{Grows}

-- ---- one level

acts_same : (f g : ℕ → Act) (n : ℕ) (is : List FsmStmtId) → Same f g n → all_fsm_below n is ≡ true → acts_at f is ≡ acts_at g is
acts_same f g n [] h e = refl
acts_same f g n (i ∷ is) h e =
    let p = and_parts (nat_lt i.place n) (all_fsm_below n is) e in
    ap (λ (x : Act). Then x (acts_at f is)) (h i.place (ltb-true i.place n p.0)) ∙ ap (Then (g i.place)) (acts_same f g n is h p.1)

branches_same : (t : ℕ → Term) (f g : ℕ → Act) (n : ℕ) (bs : List FsmBranch) → Same f g n → all_fsm_branches_below n bs ≡ true → branches_at t f bs ≡ branches_at t g bs
branches_same t f g n [] h e = refl
branches_same t f g n (b ∷ bs) h e =
    let p = and_parts (all_fsm_below n b.body) (all_fsm_branches_below n bs) e in
    ap (λ (x : Acts). Branch (t b.cond.place) x (branches_at t f bs)) (acts_same f g n b.body h p.0)
    ∙ ap (Branch (t b.cond.place) (acts_at g b.body)) (branches_same t f g n bs h p.1)

arms_same : (f g : ℕ → Act) (n : ℕ) (as_ : List FsmArm) → Same f g n → all_fsm_arms_below n as_ ≡ true → arms_at f as_ ≡ arms_at g as_
arms_same f g n [] h e = refl
arms_same f g n (a ∷ as_) h e =
    let p = and_parts (all_fsm_below n a.body) (all_fsm_arms_below n as_) e in
    ap (λ (x : Acts). Arm a.key x (arms_at f as_)) (acts_same f g n a.body h p.0) ∙ ap (Arm a.key (acts_at g a.body)) (arms_same f g n as_ h p.1)

node_act_same : (t : ℕ → Term) (w : ℕ → Target) (f g : ℕ → Act) (n : ℕ) (x : FsmStmt) → Same f g n → fsm_below x n ≡ true → node_act t w f x ≡ node_act t w g x
node_act_same t w f g n (fsm.Assign target value line) h e = refl
node_act_same t w f g n (fsm.If branches rest line) h e =
    let p = and_parts (all_fsm_branches_below n branches) (all_fsm_below n rest) e in
    ap (λ (bs : Branches). If bs (acts_at f rest)) (branches_same t f g n branches h p.0) ∙ ap (If (branches_at t g branches)) (acts_same f g n rest h p.1)
node_act_same t w f g n (fsm.Case on arms rest line) h e =
    let p = and_parts (all_fsm_arms_below n arms) (all_fsm_below n rest) e in
    ap (λ (bs : Arms). Case (t on.place) bs (acts_at f rest)) (arms_same f g n arms h p.0) ∙ ap (Case (t on.place) (arms_at g arms)) (acts_same f g n rest h p.1)
node_act_same t w f g n (fsm.NextState name line) h e = refl
node_act_same t w f g n (fsm.NextValue target value line) h e = refl

act_local : (t : ℕ → Term) (w : ℕ → Target) → IsLocal fsm_below (node_act t w)
act_local t w = record { same = node_act_same t w }

pub act_is : (d : Design) (xs : List FsmStmt) → EachLower fsm_below xs → (k : ℕ) (x : FsmStmt) → slice_get xs k ≡ Some x → act d xs k ≡ node_act (term d) (design.target d) (act d xs) x
unfolding act_at
act_is d xs low k x e = fold_at-is fsm_below no_act (node_act (term d) (design.target d)) (act_local (term d) (design.target d)) xs low k x e

-- ---- growth

pub terms_same : (f g : ℕ → Term) (a : ℕ → Act) (n : ℕ) (bs : List FsmBranch) → FsmBranchesStand n bs → Same f g n → branches_at f a bs ≡ branches_at g a bs
terms_same f g a n [] b e = refl
terms_same f g a n (x ∷ xs) b e =
    ap (λ (t : Term). Branch t (acts_at a x.body) (branches_at f a xs)) (e x.cond.place b.0) ∙ ap (Branch (g x.cond.place) (acts_at a x.body)) (terms_same f g a n xs b.1 e)

node_same : (f g : ℕ → Term) (v w : ℕ → Target) (a : ℕ → Act) (n m : ℕ) (x : FsmStmt) → FsmStmtStands n m x → Same f g n → Same v w m → node_act f v a x ≡ node_act g w a x
node_same f g v w a n m (fsm.Assign target value line) h e q = ap (λ (t : Target). Do (Assign t (f value.place))) (q target.place h.0) ∙ ap (λ (t : Term). Do (Assign (w target.place) t)) (e value.place h.1)
node_same f g v w a n m (fsm.If branches rest line) h e q = ap (λ (bs : Branches). If bs (acts_at a rest)) (terms_same f g a n branches h e)
node_same f g v w a n m (fsm.Case on arms rest line) h e q = ap (λ (t : Term). Case t (arms_at a arms) (acts_at a rest)) (e on.place h)
node_same f g v w a n m (fsm.NextState name line) h e q = refl
node_same f g v w a n m (fsm.NextValue target value line) h e q = ap (λ (t : Target). Do (NextValue t (f value.place))) (q target.place h.0) ∙ ap (λ (t : Term). Do (NextValue (w target.place) t)) (e value.place h.1)

pub act_kept : {x y : Design} (xs : List FsmStmt) → Grows x y → EachLower fsm_below xs → EachOf (FsmStmtStands (length x.exprs) (length x.targets)) xs → (k : ℕ) → act y xs k ≡ act x xs k
unfolding act_at
act_kept {x} {y} xs g low h k =
    fold_at-same fsm_below no_act (node_act (term y) (design.target y)) (node_act (term x) (design.target x)) (act_local (term x) (design.target x)) xs low
    (λ a j z at. node_same (term y) (term x) (design.target y) (design.target x) a (length x.exprs) (length x.targets) z (each_of_at (FsmStmtStands (length x.exprs) (length x.targets)) xs h j z at) g.stays.terms g.stays.target_trees) k
