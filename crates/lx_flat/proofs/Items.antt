-- Items of a list from a place on.
use Rattle.std.proofs.Common.{◌≡◌, ℕ, zero, suc, ◌+◌, ◌<◌, List, [], ◌∷◌, length, drop, get_or, sym, ap, ◌∙◌, arith, drop-cons, add-one, nat_lt}
use Rattle.std.specs.Prelude.{IsTrue}
use Rattle.std.proofs.lemmas.Bool.{and_parts, ltb-true}
use Rattle.lx_fhdl.specs.Below.{StmtId, all_stmts_below, all_branches_below, all_arms_below}
use Rattle.lx_fhdl.specs.Keeping.{BranchesStand}
use Rattle.lx_fhdl.specs.declared.stmts.Arm.{Arm}
use Rattle.lx_fhdl.specs.declared.stmts.Branch.{Branch}

pub next_item : {X : Type 0} (xs : List X) (k : ℕ) (d : X) → k < length xs → drop k xs ≡ get_or xs k d ∷ drop (k + 1) xs
next_item xs k d h = drop-cons xs k d h ∙ ap (λ (j : ℕ). get_or xs k d ∷ drop j xs) (sym (add-one k))

-- ---- branches and arms

pub cond_at : (n : ℕ) (bs : List Branch) (k : ℕ) (z : Branch) → BranchesStand n bs → k < length bs → (get_or bs k z).cond.place < n
cond_at n [] k z p h = absurd (omega arith)
cond_at n (b ∷ more) zero z p h = p.0
cond_at n (b ∷ more) (suc k) z p h = cond_at n more k z p.1 (omega arith)

pub body_at : (n : ℕ) (bs : List Branch) (k : ℕ) (z : Branch) → IsTrue (all_branches_below n bs) → k < length bs → IsTrue (all_stmts_below n (get_or bs k z).body)
body_at n [] k z p h = absurd (omega arith)
body_at n (b ∷ more) zero z p h = search ((and_parts (all_stmts_below n b.body) (all_branches_below n more) (search p)).0)
body_at n (b ∷ more) (suc k) z p h = body_at n more k z (search ((and_parts (all_stmts_below n b.body) (all_branches_below n more) (search p)).1)) (omega arith)

pub arm_body_at : (n : ℕ) (arms : List Arm) (k : ℕ) (z : Arm) → IsTrue (all_arms_below n arms) → k < length arms → IsTrue (all_stmts_below n (get_or arms k z).body)
arm_body_at n [] k z p h = absurd (omega arith)
arm_body_at n (a ∷ more) zero z p h = search ((and_parts (all_stmts_below n a.body) (all_arms_below n more) (search p)).0)
arm_body_at n (a ∷ more) (suc k) z p h = arm_body_at n more k z (search ((and_parts (all_stmts_below n a.body) (all_arms_below n more) (search p)).1)) (omega arith)

-- those after the first one
pub conds_after : (n : ℕ) (bs : List Branch) → ((k : ℕ) (z : Branch) → k < length bs → (get_or bs k z).cond.place < n) → (k : ℕ) (z : Branch) → k < length (drop 1 bs) → (get_or (drop 1 bs) k z).cond.place < n
conds_after n [] p k z h = absurd (omega arith)
conds_after n (b ∷ more) p k z h = p (suc k) z (omega arith)

pub bodies_after : (n : ℕ) (bs : List Branch) → IsTrue (all_branches_below n bs) → IsTrue (all_branches_below n (drop 1 bs))
bodies_after n [] p = p
bodies_after n (b ∷ more) p = search ((and_parts (all_stmts_below n b.body) (all_branches_below n more) (search p)).1)

pub stmt_below_at : (n : ℕ) (ids : List StmtId) (k : ℕ) (z : StmtId) → IsTrue (all_stmts_below n ids) → k < length ids → (get_or ids k z).place < n
stmt_below_at n [] k z p h = absurd (omega arith)
stmt_below_at n (i ∷ is) zero z p h = ltb-true i.place n (and_parts (nat_lt i.place n) (all_stmts_below n is) (search p)).0
stmt_below_at n (i ∷ is) (suc k) z p h = stmt_below_at n is k z (search ((and_parts (nat_lt i.place n) (all_stmts_below n is) (search p)).1)) (omega arith)
