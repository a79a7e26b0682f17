-- Items of a list from a place on.
use Rattle.std.proofs.Common.{◌≡◌, ℕ, zero, suc, ◌+◌, ◌<◌, List, [], ◌∷◌, length, drop, get_or, refl, sym, ap, ◌∙◌, arith, drop-cons, add-one, nat_lt}
use Rattle.std.specs.Prelude.{IsTrue, Some, slice_get}
use Rattle.std.proofs.lemmas.Bool.{and_parts, ltb-true}
use Rattle.lx_fhdl.specs.Below.{ExprId, TargetId, StmtId, all_below, all_targets_below, all_stmts_below, all_branches_below, all_arms_below}
use Rattle.lx_fhdl.specs.Keeping.{BranchesStand}
use Rattle.lx_fhdl.specs.declared.stmts.Arm.{Arm}
use Rattle.lx_fhdl.specs.declared.stmts.Branch.{Branch}

pub next_item : {X : Type 0} (xs : List X) (k : ℕ) (d : X) → k < length xs → drop k xs ≡ get_or xs k d ∷ drop (k + 1) xs
next_item xs k d h = drop-cons xs k d h ∙ ap (λ (j : ℕ). get_or xs k d ∷ drop j xs) (sym (add-one k))

pub cond_at : (n : ℕ) (bs : List Branch) (k : ℕ) (z : Branch) → BranchesStand n bs → k < length bs → (get_or bs k z).cond.place < n
cond_at n [] k z p h = absurd (omega arith)
cond_at n (b ∷ more) zero z p h = p.0
cond_at n (b ∷ more) (suc k) z p h = cond_at n more k z p.1 (omega arith)

pub body_at : (n : ℕ) (bs : List Branch) (k : ℕ) (z : Branch) → IsTrue (all_branches_below n bs) → k < length bs → IsTrue (all_stmts_below n (get_or bs k z).body)
body_at n [] k z p h = absurd (omega arith)
body_at n (b ∷ more) zero z p h = search ((and_parts (all_stmts_below n b.body) (all_branches_below n more) (search p)).0)
body_at n (b ∷ more) (suc k) z p h = body_at n more k z (search ((and_parts (all_stmts_below n b.body) (all_branches_below n more) (search p)).1)) (omega arith)

pub arm_body_at : (n : ℕ) (arms : List Arm) (k : ℕ) (z : Arm) → IsTrue (all_arms_below n arms) → k < length arms → IsTrue (all_stmts_below n (get_or arms k z).body)
arm_body_at n [] k z p h = absurd (omega arith)
arm_body_at n (a ∷ more) zero z p h = search ((and_parts (all_stmts_below n a.body) (all_arms_below n more) (search p)).0)
arm_body_at n (a ∷ more) (suc k) z p h = arm_body_at n more k z (search ((and_parts (all_stmts_below n a.body) (all_arms_below n more) (search p)).1)) (omega arith)

pub stmt_below_at : (n : ℕ) (ids : List StmtId) (k : ℕ) (z : StmtId) → IsTrue (all_stmts_below n ids) → k < length ids → (get_or ids k z).place < n
stmt_below_at n [] k z p h = absurd (omega arith)
stmt_below_at n (i ∷ is) zero z p h = ltb-true i.place n (and_parts (nat_lt i.place n) (all_stmts_below n is) (search p)).0
stmt_below_at n (i ∷ is) (suc k) z p h = stmt_below_at n is k z (search ((and_parts (nat_lt i.place n) (all_stmts_below n is) (search p)).1)) (omega arith)

pub target_below_at : (n : ℕ) (ids : List TargetId) (k : ℕ) (z : TargetId) → IsTrue (all_targets_below n ids) → k < length ids → (get_or ids k z).place < n
target_below_at n [] k z p h = absurd (omega arith)
target_below_at n (i ∷ is) zero z p h = ltb-true i.place n (and_parts (nat_lt i.place n) (all_targets_below n is) (search p)).0
target_below_at n (i ∷ is) (suc k) z p h = target_below_at n is k z (search ((and_parts (nat_lt i.place n) (all_targets_below n is) (search p)).1)) (omega arith)

pub expr_below_at : (n : ℕ) (ids : List ExprId) (k : ℕ) (z : ExprId) → IsTrue (all_below n ids) → k < length ids → (get_or ids k z).place < n
expr_below_at n [] k z p h = absurd (omega arith)
expr_below_at n (i ∷ is) zero z p h = ltb-true i.place n (and_parts (nat_lt i.place n) (all_below n is) (search p)).0
expr_below_at n (i ∷ is) (suc k) z p h = expr_below_at n is k z (search ((and_parts (nat_lt i.place n) (all_below n is) (search p)).1)) (omega arith)

-- an item that was looked up
got : {X : Type 0} (xs : List X) (k : ℕ) (z : X) → k < length xs → slice_get xs k ≡ Some (get_or xs k z)
got [] k z l = absurd (omega arith)
got (x ∷ xs) zero z l = refl
got (x ∷ xs) (suc k) z l = got xs k z (omega arith)

pub got_at : {X : Type 0} (xs ys : List X) (k : ℕ) (z : X) → xs ≡ ys → k < length xs → z ≡ get_or xs k z → slice_get ys k ≡ Some z
got_at {X} xs ys k z e l is = ap (λ (v : List X). slice_get v k) (sym e) ∙ got xs k z l ∙ ap Some (sym is)
