-- What statements add to a net, part by part.
use Rattle.std.proofs.Common.{◌≡◌, ℕ, ◌+◌, ◌<◌, ◌≤◌, Bool, ◌||◌, ◌&&◌, List, ◌∷◌, Some, length, drop, get_or, refl, sym, ap, subst, ◌∙◌, append_assoc}
use Rattle.std.specs.Prelude.{IsTrue, slice_get}
use Rattle.std.proofs.lemmas.Bool.{and_parts}
use Rattle.std.proofs.lemmas.List.{drop_all}
use Rattle.lx_arena.specs.Lower.{EachLower}
use Rattle.lx_arena.proofs.Places.{lower_at}
use Rattle.lx_circuit.specs.Places.{At}
use Rattle.lx_circuit.specs.Reads.{names, reads, reads_arm, reads_block, reads_branch, target_names}
use Rattle.lx_circuit.specs.Statements as tree
use Rattle.lx_circuit.specs.Statements.{drives, drives_arm, drives_block, drives_branch, is_target}
use Rattle.lx_fhdl.specs.Below.{ExprId, StmtId, TargetId, all_arms_below, all_branches_below, all_stmts_below, stmt_below}
use Rattle.lx_fhdl.specs.Designs.{block, stmt, target, term}
use Rattle.lx_fhdl.specs.Stmts.{arms_at, branches_at}
use Rattle.lx_fhdl.specs.declared.design.Design.{Design}
use Rattle.lx_fhdl.specs.declared.stmts.Arm.{Arm}
use Rattle.lx_fhdl.specs.declared.stmts.Branch.{Branch}
use Rattle.lx_fhdl.specs.declared.stmts.Stmt.TheVariants as node
use Rattle.lx_fhdl.proofs.Drafts.{stmt_is}
use Rattle.lx_reads.specs.Drivings.{arm_drivings, branch_drivings, drivings_at, drivings_in, drivings_of}
use Rattle.lx_reads.specs.Net.{Adds, Goes, IsNet, Todo, above}
use Rattle.lx_reads.specs.Walks.{AddsCond, arms_todo, assign_todo, block_todo, chain_todo, stmt_todo, stmt_under}
use Rattle.lx_reads.specs.declared.net.Net.{Net}
use Rattle.lx_reads.specs.declared.walk.Under.{Under}
use Rattle.lx_reads.proofs.Bools.{arm_step, assigned, chain_step, split_step, taken}
use Rattle.lx_reads.proofs.Drivings.{drivings_at-is}
use Rattle.lx_reads.proofs.Going.{above_kept, adds_as, goes_beside, goes_done, goes_last, goes_start, goes_then}
use Rattle.lx_reads.proofs.Items.{next_item}

-- ---- blocks

-- a statement more
pub block_more : (d : Design) (driver : ℕ) (a b : ℕ → Bool) (ids : List StmtId) (k : ℕ) (z : StmtId) {o m e : Net} {t : Todo} → k < length ids → ((y : ℕ) → b y ≡ a y)
    → Goes d o m t (block_todo d driver a (drop k ids)) → Adds d m e (stmt_todo d driver b (get_or ids k z).place) → Goes d o e t (block_todo d driver a (drop (k + 1) ids))
block_more d driver a b ids k z {o} {m} {e} {t} l same p q =
    let i = get_or ids k z in
    let is = drop (k + 1) ids in
    goes_then (block_todo d driver a is) (subst (λ (js : List StmtId). Goes d o m t (block_todo d driver a js)) (next_item ids k z l) p) q refl
    (λ x y. split_step (reads x (At y) (stmt d i.place)) (reads_block x (At y) (block d is)) (drives x (stmt d i.place)) (drives_block x (block d is)) (a y) (b y) (same y))

pub block_done : (d : Design) (driver : ℕ) (a : ℕ → Bool) (ids : List StmtId) (k : ℕ) {o m : Net} {t : Todo} → length ids ≤ k → Goes d o m t (block_todo d driver a (drop k ids)) → Adds d o m t
block_done d driver a ids k {o} {m} {t} l p = goes_done (subst (λ (js : List StmtId). Goes d o m t (block_todo d driver a js)) (drop_all k ids l) p) refl (λ x y. refl)

-- ---- branches

-- a condition and its branch more
pub chain_more : (d : Design) (driver : ℕ) (bs : List Branch) (rest : List StmtId) (k : ℕ) (z : Branch) (under inside : Under) {o m c e : Net} {t : Todo} → k < length bs → z ≡ get_or bs k z
    → Goes d o m t (chain_todo d driver (above d m under.around) (drop k bs) rest)
    → AddsCond d m c z.cond under inside
    → Adds d c e (block_todo d driver (above d c inside.around) z.body)
    → Goes d o e t (chain_todo d driver (above d e inside.around) (drop (k + 1) bs) rest)
chain_more d driver bs rest k z under inside {o} {m} {c} {e} {t} l is p q r =
    let b = z in
    let more = drop (k + 1) bs in
    let f = drivings_at d driver in
    let here = subst (λ (cs : List Branch). Goes d o m t (chain_todo d driver (above d m under.around) cs rest)) (next_item bs k z l ∙ ap (λ (v : Branch). v ∷ more) (sym is)) p in
    goes_then (chain_todo d driver (above d e inside.around) more rest) (goes_beside here q.goes) r
    (append_assoc (drivings_in f b.body) (branch_drivings f more) (drivings_of d driver rest))
    (λ x y. chain_step (names (At y) (term d b.cond.place)) (drives_block x (block d b.body)) (drives_branch x (branches_at (term d) (stmt d) more)) (drives_block x (block d rest))
    (reads_block x (At y) (block d b.body)) (reads_branch x (At y) (branches_at (term d) (stmt d) more) (drives_block x (block d rest)) (reads_block x (At y) (block d rest)))
    (above d m under.around y) (above d c inside.around y) (above d e inside.around y) (q.names y) (above_kept inside.around r.grows q.around y))

-- the rest
pub chain_done : (d : Design) (driver : ℕ) (a : ℕ → Bool) (bs : List Branch) (rest : List StmtId) (k : ℕ) {o m e : Net} {t : Todo} → length bs ≤ k
    → Goes d o m t (chain_todo d driver a (drop k bs) rest) → Adds d m e (block_todo d driver a rest) → Adds d o e t
chain_done d driver a bs rest k {o} {m} {e} {t} l p q =
    goes_last (subst (λ (cs : List Branch). Goes d o m t (chain_todo d driver a cs rest)) (drop_all k bs l) p) q refl (λ x y. refl)

pub if_is : (d : Design) (driver k : ℕ) (a : ℕ → Bool) (bs : List Branch) (rest : List StmtId) (line : ℕ) {o m : Net} → EachLower stmt_below d.stmts → slice_get d.stmts k ≡ Some (node.If bs rest line)
    → Adds d o m (chain_todo d driver a bs rest) → Adds d o m (stmt_todo d driver a k)
if_is d driver k a bs rest line low e p =
    adds_as p (drivings_at-is d driver k (node.If bs rest line) low e) (λ x y. ap (λ (s : tree.Stmt). stmt_under a s x y) (stmt_is d k (node.If bs rest line) low e))

-- ---- arms

pub arms_more : (d : Design) (driver : ℕ) (a b : ℕ → Bool) (arms : List Arm) (rest : List StmtId) (k : ℕ) (z : Arm) {o m e : Net} {t : Todo} → k < length arms → z ≡ get_or arms k z → ((y : ℕ) → b y ≡ a y)
    → Goes d o m t (arms_todo d driver a (drop k arms) rest) → Adds d m e (block_todo d driver b z.body) → Goes d o e t (arms_todo d driver a (drop (k + 1) arms) rest)
arms_more d driver a b arms rest k z {o} {m} {e} {t} l is same p q =
    let i = z in
    let more = drop (k + 1) arms in
    let f = drivings_at d driver in
    goes_then (arms_todo d driver a more rest) (subst (λ (cs : List Arm). Goes d o m t (arms_todo d driver a cs rest)) (next_item arms k z l ∙ ap (λ (v : Arm). v ∷ more) (sym is)) p) q
    (append_assoc (drivings_in f i.body) (arm_drivings f more) (drivings_of d driver rest))
    (λ x y. arm_step (reads_block x (At y) (block d i.body)) (reads_arm x (At y) (arms_at (stmt d) more)) (reads_block x (At y) (block d rest))
    (drives_block x (block d i.body)) (drives_arm x (arms_at (stmt d) more)) (drives_block x (block d rest)) (a y) (b y) (same y))

pub arms_done : (d : Design) (driver : ℕ) (a b : ℕ → Bool) (arms : List Arm) (rest : List StmtId) (k : ℕ) {o m e : Net} {t : Todo} → length arms ≤ k → ((y : ℕ) → b y ≡ a y)
    → Goes d o m t (arms_todo d driver a (drop k arms) rest) → Adds d m e (block_todo d driver b rest) → Adds d o e t
arms_done d driver a b arms rest k {o} {m} {e} {t} l same p q =
    goes_last (subst (λ (cs : List Arm). Goes d o m t (arms_todo d driver a cs rest)) (drop_all k arms l) p) q refl
    (λ x y. ap (λ (v : Bool). reads_block x (At y) (block d rest) || (drives_block x (block d rest) && v)) (sym (same y)))

pub case_is : (d : Design) (driver k : ℕ) (on : ExprId) (arms : List Arm) (rest : List StmtId) (line : ℕ) (under inside : Under) {o m e : Net} → IsNet d o → EachLower stmt_below d.stmts → slice_get d.stmts k ≡ Some (node.Case on arms rest line)
    → AddsCond d o m on under inside → Adds d m e (arms_todo d driver (above d m inside.around) arms rest) → Adds d o e (stmt_todo d driver (above d o under.around) k)
case_is d driver k on arms rest line under inside {o} {m} {e} net low is q p =
    let a = above d o under.around in
    let t = stmt_todo d driver a k in
    goes_last (goes_beside (goes_start t net) q.goes) p (drivings_at-is d driver k (node.Case on arms rest line) low is)
    (λ x y.
    ap (λ (s : tree.Stmt). stmt_under a s x y) (stmt_is d k (node.Case on arms rest line) low is)
    ∙ taken (names (At y) (term d on.place)) (drives_arm x (arms_at (stmt d) arms)) (drives_block x (block d rest)) (reads_arm x (At y) (arms_at (stmt d) arms)) (reads_block x (At y) (block d rest)) (a y)
    ∙ ap (λ (v : Bool). (reads_arm x (At y) (arms_at (stmt d) arms) || reads_block x (At y) (block d rest)) || ((drives_arm x (arms_at (stmt d) arms) || drives_block x (block d rest)) && v)) (sym (q.names y)))

-- ---- assignments

pub assign_is : (d : Design) (driver k : ℕ) (a : ℕ → Bool) (t : TargetId) (value : ExprId) (line : ℕ) {o m : Net} → EachLower stmt_below d.stmts → slice_get d.stmts k ≡ Some (node.Assign t value line)
    → Adds d o m (assign_todo d driver a t value line) → Adds d o m (stmt_todo d driver a k)
assign_is d driver k a t value line low e p =
    adds_as p (drivings_at-is d driver k (node.Assign t value line) low e)
    (λ x y.
    ap (λ (s : tree.Stmt). stmt_under a s x y) (stmt_is d k (node.Assign t value line) low e)
    ∙ assigned (is_target x (target d t.place)) (names (At y) (term d value.place)) (target_names (At y) (target d t.place)) (a y))

-- ---- what stands inside is lower

pub if_lower : (d : Design) (k : ℕ) (bs : List Branch) (rest : List StmtId) (line : ℕ) → EachLower stmt_below d.stmts → slice_get d.stmts k ≡ Some (node.If bs rest line) → IsTrue (all_branches_below k bs) × IsTrue (all_stmts_below k rest)
if_lower d k bs rest line low e = and_parts (all_branches_below k bs) (all_stmts_below k rest) (lower_at stmt_below d.stmts low k (node.If bs rest line) e)

pub case_lower : (d : Design) (k : ℕ) (on : ExprId) (arms : List Arm) (rest : List StmtId) (line : ℕ) → EachLower stmt_below d.stmts → slice_get d.stmts k ≡ Some (node.Case on arms rest line) → IsTrue (all_arms_below k arms) × IsTrue (all_stmts_below k rest)
case_lower d k on arms rest line low e = and_parts (all_arms_below k arms) (all_stmts_below k rest) (lower_at stmt_below d.stmts low k (node.Case on arms rest line) e)
