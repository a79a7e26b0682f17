-- What is read stays while the draft grows, and so do its trees.
use Rattle.std.proofs.Common.{◌≡◌, ℕ, zero, suc, ◌<◌, ◌≤◌, true, ◌&&◌, List, [], ◌∷◌, get_or, length, sym, ap, subst, ◌∙◌, arith, nat_lt}
use Rattle.std.specs.Prelude.{Some, slice_get, IsTrue}
use Rattle.std.proofs.Math.Path.{fun_ext}
use Rattle.std.proofs.lemmas.Bool.{and_parts, ltb-true}
use Rattle.lx_arena.specs.Lower.{EachLower}
use Rattle.lx_fhdl.specs.Below.{ExprId}
use Rattle.lx_fhdl.specs.Designs as design
use Rattle.lx_fhdl.specs.Designs.{term}
use Rattle.lx_fhdl.specs.Keeping.{EachOf}
use Rattle.lx_fhdl.specs.declared.design.Design.{Design}
use Rattle.lx_fhdl.proofs.Resets.{each_of_at}
use Rattle.lx_description.specs.Below.{FsmStmtId, all_fsm_arms_below, all_fsm_below, all_fsm_branches_below, fsm_below}
use Rattle.lx_description.specs.Keeping.{FsmBranchesStand, FsmStmtStands}
use Rattle.lx_description.specs.declared.fsms.FsmArm.{FsmArm}
use Rattle.lx_description.specs.declared.fsms.FsmBranch.{FsmBranch}
use Rattle.lx_description.specs.declared.fsms.FsmStmt.{FsmStmt}
use Rattle.lx_description.specs.declared.fsms.FsmStmt.TheVariants as fsm
use Rattle.lx_description.specs.declared.fsms.StateDecl.{StateDecl}
use Rattle.lx_fsm.specs.Actions.{Act}
use Rattle.lx_fsm.specs.Decls.{act, branches_at, node_act}
use Rattle.lx_fsm.specs.Lists.{Register, numeral}
use Rattle.lx_fsm.specs.Lowers.{AreAll, Grows, HasBodies, IsReady, Read}
use Rattle.lx_fsm.proofs.Acts.{act_is, act_kept, terms_same}
use Rattle.lx_fsm.proofs.Grown.{exprs_kept, target_kept}
use Rattle.lx_fsm.proofs.Numbering.{same_register}

-- ---- growth

stands_wider : (n m p q : ℕ) (x : FsmStmt) → n ≤ p → m ≤ q → FsmStmtStands n m x → FsmStmtStands p q x
stands_wider n m p q (fsm.Assign target value line) l g h = (omega (arith, h.0), omega (arith, h.1))
stands_wider n m p q (fsm.If branches rest line) l g h = branches_wider n p branches l h
  where
    branches_wider : (n p : ℕ) (bs : List FsmBranch) → n ≤ p → FsmBranchesStand n bs → FsmBranchesStand p bs
    branches_wider n p [] l h = tt
    branches_wider n p (b ∷ bs) l h = (omega (arith, h.0), branches_wider n p bs l h.1)
stands_wider n m p q (fsm.Case on arms rest line) l g h = omega (arith, h)
stands_wider n m p q (fsm.NextState name line) l g h = tt
stands_wider n m p q (fsm.NextValue target value line) l g h = (omega (arith, h.0), omega (arith, h.1))

pub all_wider : (n m p q : ℕ) (xs : List FsmStmt) → n ≤ p → m ≤ q → EachOf (FsmStmtStands n m) xs → EachOf (FsmStmtStands p q) xs
all_wider n m p q [] l g h = tt
all_wider n m p q (x ∷ xs) l g h = (stands_wider n m p q x l g h.0, all_wider n m p q xs l g h.1)

pub ready_kept : {r : Read} {x y : Design} → Grows x y → IsReady r x → IsReady r y
ready_kept {r} {x} {y} g h = record {
  lower = h.lower;
  stmts = all_wider (length x.exprs) (length x.targets) (length y.exprs) (length y.targets) r.stmts g.stays.exprs g.stays.targets h.stmts;
  some = h.some;
  state = target_kept g h.state;
  numerals = subst (λ (q : Register). AreAll y (numeral q) (length r.fsm.states) r.numerals) (sym (same_register r.fsm g)) (exprs_kept g h.numerals);
}

-- the trees of all statements
pub acts_stay : {x y : Design} (xs : List FsmStmt) → Grows x y → EachLower fsm_below xs → EachOf (FsmStmtStands (length x.exprs) (length x.targets)) xs → act y xs ≡ act x xs
acts_stay xs g low h = fun_ext (act_kept xs g low h)

pub ready_acts : {r : Read} {x y : Design} → Grows x y → IsReady r x → act y r.stmts ≡ act x r.stmts
ready_acts {r} g h = acts_stay r.stmts g h.lower h.stmts

-- the trees of branches
pub branches_stay : {r : Read} {x y : Design} (bs : List FsmBranch) → Grows x y → IsReady r x → FsmBranchesStand (length x.exprs) bs → branches_at (term y) (act y r.stmts) bs ≡ branches_at (term x) (act x r.stmts) bs
branches_stay {r} {x} {y} bs g h c =
    ap (λ (a : ℕ → Act). branches_at (term y) a bs) (ready_acts g h)
    ∙ terms_same (term y) (term x) (act x r.stmts) (length x.exprs) bs c g.stays.terms

-- ---- a node that is read

pub node_is : (r : Read) (d : Design) (k : ℕ) (x y : FsmStmt) → IsReady r d → slice_get r.stmts k ≡ Some x → x ≡ y → act d r.stmts k ≡ node_act (term d) (design.target d) (act d r.stmts) y
node_is r d k x y h e same = act_is d r.stmts h.lower k x e ∙ ap (node_act (term d) (design.target d) (act d r.stmts)) same

pub node_stands : (r : Read) (d : Design) (k : ℕ) (x y : FsmStmt) → IsReady r d → slice_get r.stmts k ≡ Some x → x ≡ y → FsmStmtStands (length d.exprs) (length d.targets) y
node_stands r d k x y h e same = subst (FsmStmtStands (length d.exprs) (length d.targets)) same (each_of_at (FsmStmtStands (length d.exprs) (length d.targets)) r.stmts h.stmts k x e)

pub if_below : (k : ℕ) (x : FsmStmt) (branches : List FsmBranch) (rest : List FsmStmtId) (line : ℕ) → IsTrue (fsm_below x k) → x ≡ fsm.If branches rest line → IsTrue (all_fsm_branches_below k branches) × IsTrue (all_fsm_below k rest)
if_below k x branches rest line h e =
    let t : (all_fsm_branches_below k branches && all_fsm_below k rest) ≡ true = subst (λ (y : FsmStmt). IsTrue (fsm_below y k)) e h in
    let p = and_parts (all_fsm_branches_below k branches) (all_fsm_below k rest) t in
    (search p.0, search p.1)

pub case_below : (k : ℕ) (x : FsmStmt) (on : ExprId) (arms : List FsmArm) (rest : List FsmStmtId) (line : ℕ) → IsTrue (fsm_below x k) → x ≡ fsm.Case on arms rest line → IsTrue (all_fsm_arms_below k arms) × IsTrue (all_fsm_below k rest)
case_below k x on arms rest line h e =
    let t : (all_fsm_arms_below k arms && all_fsm_below k rest) ≡ true = subst (λ (y : FsmStmt). IsTrue (fsm_below y k)) e h in
    let p = and_parts (all_fsm_arms_below k arms) (all_fsm_below k rest) t in
    (search p.0, search p.1)

-- ---- items of lists

pub id_below_at : (n : ℕ) (ids : List FsmStmtId) (k : ℕ) (z : FsmStmtId) → IsTrue (all_fsm_below n ids) → k < length ids → (get_or ids k z).place < n
id_below_at n [] k z h l = absurd (omega arith)
id_below_at n (i ∷ is) zero z h l = let t : (nat_lt i.place n && all_fsm_below n is) ≡ true = search h in ltb-true i.place n (and_parts (nat_lt i.place n) (all_fsm_below n is) t).0
id_below_at n (i ∷ is) (suc k) z h l =
    let t : (nat_lt i.place n && all_fsm_below n is) ≡ true = search h in
    id_below_at n is k z (search (and_parts (nat_lt i.place n) (all_fsm_below n is) t).1) (omega arith)

pub body_at : (n : ℕ) (bs : List FsmBranch) (k : ℕ) (z : FsmBranch) → IsTrue (all_fsm_branches_below n bs) → k < length bs → IsTrue (all_fsm_below n (get_or bs k z).body)
body_at n [] k z h l = absurd (omega arith)
body_at n (b ∷ bs) zero z h l = let t : (all_fsm_below n b.body && all_fsm_branches_below n bs) ≡ true = search h in search (and_parts (all_fsm_below n b.body) (all_fsm_branches_below n bs) t).0
body_at n (b ∷ bs) (suc k) z h l =
    let t : (all_fsm_below n b.body && all_fsm_branches_below n bs) ≡ true = search h in
    body_at n bs k z (search (and_parts (all_fsm_below n b.body) (all_fsm_branches_below n bs) t).1) (omega arith)

pub cond_at : (n : ℕ) (bs : List FsmBranch) (k : ℕ) (z : FsmBranch) → FsmBranchesStand n bs → k < length bs → (get_or bs k z).cond.place < n
cond_at n [] k z h l = absurd (omega arith)
cond_at n (b ∷ bs) zero z h l = h.0
cond_at n (b ∷ bs) (suc k) z h l = cond_at n bs k z h.1 (omega arith)

pub arm_body_at : (n : ℕ) (arms : List FsmArm) (k : ℕ) (z : FsmArm) → IsTrue (all_fsm_arms_below n arms) → k < length arms → IsTrue (all_fsm_below n (get_or arms k z).body)
arm_body_at n [] k z h l = absurd (omega arith)
arm_body_at n (a ∷ as_) zero z h l = let t : (all_fsm_below n a.body && all_fsm_arms_below n as_) ≡ true = search h in search (and_parts (all_fsm_below n a.body) (all_fsm_arms_below n as_) t).0
arm_body_at n (a ∷ as_) (suc k) z h l =
    let t : (all_fsm_below n a.body && all_fsm_arms_below n as_) ≡ true = search h in
    arm_body_at n as_ k z (search (and_parts (all_fsm_below n a.body) (all_fsm_arms_below n as_) t).1) (omega arith)

pub each_at : {T : Type 0} (P : T → Type 0) (xs : List T) (k : ℕ) (z : T) → EachOf P xs → k < length xs → P (get_or xs k z)
each_at P [] k z h l = absurd (omega arith)
each_at P (x ∷ xs) zero z h l = h.0
each_at P (x ∷ xs) (suc k) z h l = each_at P xs k z h.1 (omega arith)

pub body_of_state : (n : ℕ) (ss : List StateDecl) (k : ℕ) (z : StateDecl) → HasBodies n ss → k < length ss → IsTrue (all_fsm_below n (get_or ss k z).body)
body_of_state n ss k z h l = each_at (λ (s : StateDecl). IsTrue (all_fsm_below n s.body)) ss k z h l
