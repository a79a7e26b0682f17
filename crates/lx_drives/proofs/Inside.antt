-- The first statement inside a plain statement, and the signal of a plain target.
use Rattle.std.proofs.Common.{◌≡◌, ℕ, ◌<◌, Bool, true, false, ◌&&◌, List, [], ◌∷◌, Some, refl, sym, ◌∙◌, ap, subst, nat_lt}
use Rattle.std.specs.Prelude.{slice_get, IsSome}
use Rattle.std.proofs.lemmas.Bool.{ltb-true, and_parts, eq-eqb, true≢false}
use Rattle.lx_circuit.specs.Terms.{Term}
use Rattle.lx_fhdl.specs.Below.{ExprId, TargetId, StmtId, all_stmts_below, all_branches_below, stmt_below}
use Rattle.lx_fhdl.specs.Trees.{term_at}
use Rattle.lx_fhdl.specs.Stmts.{block_at, branches_at}
use Rattle.lx_fhdl.specs.Designs.{target, stmt}
use Rattle.lx_fhdl.specs.Keeping.{Keeps}
use Rattle.lx_fhdl.specs.Lowered.{IsPlain, is_plain_target, is_for, are_for, branches_are_for, is_lone}
use Rattle.lx_fhdl.specs.declared.exprs.SigId.{SigId}
use Rattle.lx_fhdl.specs.declared.stmts.Branch.{Branch}
use Rattle.lx_fhdl.specs.declared.design.Design.{Design}
use Rattle.lx_sheet.specs.Drives.{IsPlainTarget}
use Rattle.lx_drives.specs.Drives.{first_of, first_inside}
use Rattle.lx_drives.proofs.Plain.{for_same}
use Rattle.lx_arena.proofs.Places.{lower_at}
use Rattle.lx_circuit.specs.Statements as tree
use Rattle.lx_fhdl.specs.declared.stmts.Target.TheVariants as node
use Rattle.lx_fhdl.specs.declared.stmts.Stmt.TheVariants as statement
use Rattle.lx_sheet.proofs.Inside.{target_is, stmt_is}

-- ---- targets

pub plain_whole : (d : Design) (k : ℕ) (x : SigId) → Keeps d → slice_get d.targets k ≡ Some (node.Whole x) → is_plain_target x.0 (target d k) ≡ true
plain_whole d k x keeps e = ap (is_plain_target x.0) (target_is d k (node.Whole x) keeps e) ∙ eq-eqb x.0 x.0 refl

pub plain_part : (d : Design) (k : ℕ) (x : SigId) (low len : ℕ) → Keeps d → slice_get d.targets k ≡ Some (node.Part x low len) → is_plain_target x.0 (target d k) ≡ true
plain_part d k x low len keeps e = ap (is_plain_target x.0) (target_is d k (node.Part x low len) keeps e) ∙ eq-eqb x.0 x.0 refl

pub no_cat : (d : Design) (k : ℕ) (parts : List TargetId) → Keeps d → slice_get d.targets k ≡ Some (node.Cat parts) → IsPlainTarget (target d k) → ⊥
no_cat d k parts keeps e p = true≢false (sym p.alone ∙ ap (is_plain_target p.signal) (target_is d k (node.Cat parts) keeps e))

pub no_pick : (d : Design) (k : ℕ) (items : List TargetId) (index : ExprId) → Keeps d → slice_get d.targets k ≡ Some (node.Pick items index) → IsPlainTarget (target d k) → ⊥
no_pick d k items index keeps e p = true≢false (sym p.alone ∙ ap (is_plain_target p.signal) (target_is d k (node.Pick items index) keeps e))

-- ---- the first statement inside a statement

first_of_below : (n : ℕ) (ids rest : List StmtId) (i : StmtId) → first_of ids rest ≡ Some i → all_stmts_below n ids ≡ true → all_stmts_below n rest ≡ true → i.place < n
first_of_below n [] [] i e p q = absurd (cc)
first_of_below n [] (j ∷ js) i e p q =
    let same : j ≡ i = cc in
    subst (λ (k : StmtId). k.place < n) same (ltb-true j.place n (and_parts (nat_lt j.place n) (all_stmts_below n js) q).0)
first_of_below n (j ∷ js) rest i e p q =
    let same : j ≡ i = cc in
    subst (λ (k : StmtId). k.place < n) same (ltb-true j.place n (and_parts (nat_lt j.place n) (all_stmts_below n js) p).0)

-- is lower
pub first_below : (n : ℕ) (bs : List Branch) (rest : List StmtId) (i : StmtId) → first_inside bs rest ≡ Some i → (all_branches_below n bs && all_stmts_below n rest) ≡ true → i.place < n
first_below n [] rest i e h = first_of_below n [] rest i e refl h
first_below n (b ∷ bs) rest i e h =
    let p = and_parts (all_stmts_below n b.body && all_branches_below n bs) (all_stmts_below n rest) h in
    first_of_below n b.body rest i e (and_parts (all_stmts_below n b.body) (all_branches_below n bs) p.0).0 p.1

first_of_for : (x : ℕ) (s : ℕ → tree.Stmt) (ids rest : List StmtId) (i : StmtId) → first_of ids rest ≡ Some i → are_for x (block_at s ids) ≡ true → are_for x (block_at s rest) ≡ true → is_for x (s i.place) ≡ true
first_of_for x s [] [] i e p q = absurd (cc)
first_of_for x s [] (j ∷ js) i e p q =
    let same : j ≡ i = cc in
    subst (λ (k : StmtId). is_for x (s k.place) ≡ true) same (and_parts (is_for x (s j.place)) (are_for x (block_at s js)) q).0
first_of_for x s (j ∷ js) rest i e p q =
    let same : j ≡ i = cc in
    subst (λ (k : StmtId). is_for x (s k.place) ≡ true) same (and_parts (is_for x (s j.place)) (are_for x (block_at s js)) p).0

-- is for the same signal
pub first_for : (x : ℕ) (t : ℕ → Term) (s : ℕ → tree.Stmt) (bs : List Branch) (rest : List StmtId) (i : StmtId) → first_inside bs rest ≡ Some i → is_for x (tree.If (branches_at t s bs) (block_at s rest)) ≡ true → is_for x (s i.place) ≡ true
first_for x t s [] rest i e h = absurd (true≢false (sym h))
first_for x t s (b ∷ bs) rest i e h =
    let p = and_parts (is_lone (branches_at t s (b ∷ bs)) (block_at s rest)) (branches_are_for x (branches_at t s (b ∷ bs)) && are_for x (block_at s rest)) h in
    let q = and_parts (branches_are_for x (branches_at t s (b ∷ bs))) (are_for x (block_at s rest)) p.1 in
    first_of_for x s b.body rest i e (and_parts (are_for x (block_at s b.body)) (branches_are_for x (branches_at t s bs)) q.0).0 q.1

first_of_there : (t : tree.Block → tree.Block → Bool) (s : ℕ → tree.Stmt) (ids rest : List StmtId) → t tree.Done tree.Done ≡ false → t (block_at s ids) (block_at s rest) ≡ true → IsSome (first_of ids rest)
first_of_there t s [] [] n h = absurd (true≢false (sym h ∙ n))
first_of_there t s [] (j ∷ js) n h = refl
first_of_there t s (j ∷ js) rest n h = refl

-- is there
pub first_there : (x : ℕ) (t : ℕ → Term) (s : ℕ → tree.Stmt) (bs : List Branch) (rest : List StmtId) → is_for x (tree.If (branches_at t s bs) (block_at s rest)) ≡ true → IsSome (first_inside bs rest)
first_there x t s [] rest h = absurd (true≢false (sym h))
first_there x t s (b ∷ bs) rest h =
    let p = and_parts (is_lone (branches_at t s (b ∷ bs)) (block_at s rest)) (branches_are_for x (branches_at t s (b ∷ bs)) && are_for x (block_at s rest)) h in
    first_of_there (λ y z. is_lone (tree.Branch (t b.cond.place) y (branches_at t s bs)) z) s b.body rest (none_acts (branches_at t s bs)) p.0
  where
    none_acts : (more : tree.Branches) → is_lone (tree.Branch (t b.cond.place) tree.Done more) tree.Done ≡ false
    none_acts tree.NoBranch = refl
    none_acts (tree.Branch c a more) = refl

-- ---- plain statements

if_for : (d : Design) (k x : ℕ) (bs : List Branch) (rest : List StmtId) (line : ℕ) → Keeps d → slice_get d.stmts k ≡ Some (statement.If bs rest line) → is_for x (stmt d k) ≡ is_for x (tree.If (branches_at (term_at d.exprs) (stmt d) bs) (block_at (stmt d) rest))
if_for d k x bs rest line keeps e = ap (is_for x) (stmt_is d k (statement.If bs rest line) keeps e)

pub if_there : (d : Design) (k : ℕ) (bs : List Branch) (rest : List StmtId) (line : ℕ) → Keeps d → slice_get d.stmts k ≡ Some (statement.If bs rest line) → IsPlain (stmt d k) → IsSome (first_inside bs rest)
if_there d k bs rest line keeps e p = first_there p.signal (term_at d.exprs) (stmt d) bs rest (sym (if_for d k p.signal bs rest line keeps e) ∙ p.alone)

pub if_below : (d : Design) (k : ℕ) (bs : List Branch) (rest : List StmtId) (line : ℕ) (i : StmtId) → Keeps d → slice_get d.stmts k ≡ Some (statement.If bs rest line) → first_inside bs rest ≡ Some i → i.place < k
if_below d k bs rest line i keeps e f = first_below k bs rest i f (lower_at stmt_below d.stmts keeps.arenas.stmts_lower k (statement.If bs rest line) e)

pub if_plain : (d : Design) (k : ℕ) (bs : List Branch) (rest : List StmtId) (line : ℕ) (i : StmtId) → Keeps d → slice_get d.stmts k ≡ Some (statement.If bs rest line) → first_inside bs rest ≡ Some i → IsPlain (stmt d k) → IsPlain (stmt d i.place)
if_plain d k bs rest line i keeps e f p = record { signal = p.signal; alone = first_for p.signal (term_at d.exprs) (stmt d) bs rest i f (sym (if_for d k p.signal bs rest line keeps e) ∙ p.alone) }

-- what is for one signal is for that of its first statement
pub if_first : (d : Design) (k x : ℕ) (bs : List Branch) (rest : List StmtId) (line : ℕ) (i : StmtId) → Keeps d → slice_get d.stmts k ≡ Some (statement.If bs rest line) → first_inside bs rest ≡ Some i → IsPlain (stmt d k) → is_for x (stmt d i.place) ≡ true → is_for x (stmt d k) ≡ true
if_first d k x bs rest line i keeps e f p h =
    let inner = first_for p.signal (term_at d.exprs) (stmt d) bs rest i f (sym (if_for d k p.signal bs rest line keeps e) ∙ p.alone) in
    subst (λ y. is_for y (stmt d k) ≡ true) (for_same p.signal x (stmt d i.place) inner h) p.alone
