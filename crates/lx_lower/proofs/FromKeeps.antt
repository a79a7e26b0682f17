-- What arenas keep is kept by the trees in them; and so a design that keeps what it must can be lowered.
use Rattle.std.proofs.Common.{◌≡◌, ℕ, suc, ◌+◌, ◌<◌, Bool, true, false, List, [], ◌∷◌, ◌++◌, length, refl, sym, ap, subst, arith, nat_lt, nat_eq, cond}
use Rattle.std.specs.Prelude.{map}
use Rattle.std.proofs.lemmas.Bool.{and_parts, ltb-true}
use Rattle.lx_arena.proofs.Places.{by_places, lower_at}
use Rattle.lx_circuit.specs.Shapes.{Shapes}
use Rattle.lx_circuit.specs.Statements as tree
use Rattle.lx_circuit.specs.Circuit as circuit
use Rattle.lx_fhdl.specs.Below.{TargetId, StmtId, all_targets_below, target_below, all_stmts_below, all_branches_below, all_arms_below, stmt_below}
use Rattle.lx_fhdl.specs.Designs as design
use Rattle.lx_fhdl.specs.Designs.{made_of, circuit_of, shapes, stmts_of, domains_from}
use Rattle.lx_fhdl.specs.Drafts.{DraftKeeps}
use Rattle.lx_fhdl.specs.Keeping.{EachOf, TargetStands, StmtStands, BranchesStand, PartStands, Keeps}
use Rattle.lx_fhdl.specs.Stmts.{targets_at, node_target, block_at, branches_at, arms_at, node_stmt}
use Rattle.lx_fhdl.specs.declared.design.Design.{Design}
use Rattle.lx_fhdl.specs.declared.design.Domain.{Domain}
use Rattle.lx_fhdl.specs.declared.design.Signal.{Signal}
use Rattle.lx_fhdl.specs.declared.design.SyncPart.{SyncPart}
use Rattle.lx_fhdl.specs.declared.stmts.Target.{Target}
use Rattle.lx_fhdl.specs.declared.stmts.Target.TheVariants as target
use Rattle.lx_fhdl.specs.declared.stmts.Branch.{Branch}
use Rattle.lx_fhdl.specs.declared.stmts.Arm.{Arm}
use Rattle.lx_fhdl.specs.declared.stmts.Stmt.{Stmt}
use Rattle.lx_fhdl.specs.declared.stmts.Stmt.TheVariants as stmt
use Rattle.lx_fhdl.proofs.Designs.{keeps_shapes, signal_small}
use Rattle.lx_fhdl.proofs.StmtTrees.{target_at-is, stmt_at-is}
use Rattle.lx_lowering.specs.Lowering.{TermKeeps, TargetKeeps, TargetsKeep, some_targets, StmtKeeps, BranchesKeep, ArmsKeep, BlockKeeps, CanBeLowered}
use Rattle.lx_lower.proofs.Listing.{below_both}
use Rattle.lx_plain.proofs.Sound.{arenas, sound, term_keeps}

-- ---- targets

some_there : (g : ℕ → tree.Target) (is : List TargetId) → 0 < length is → some_targets (targets_at g is) ≡ true
some_there g [] h = absurd (omega arith)
some_there g (i ∷ is) h = refl

parts_keep : (s : Shapes) (n : ℕ) (g : ℕ → tree.Target) (k : ℕ) (is : List TargetId) → ((j : ℕ) → j < k → TargetKeeps s n (g j)) → all_targets_below k is ≡ true → TargetsKeep s n (targets_at g is)
parts_keep s n g k [] h b = tt
parts_keep s n g k (i ∷ is) h b =
    let p = and_parts (nat_lt i.place k) (all_targets_below k is) b in
    (h i.place (ltb-true i.place k p.0), parts_keep s n g k is h p.1)

-- the tree at a place keeps
abbrev DraftTerm : Design → ℕ → Type 0
DraftTerm d k = TermKeeps (shapes d) (length d.signals) (design.term d k)

draft_term : (d : Design) (k : ℕ) → DraftKeeps d → k < length d.exprs → DraftTerm d k
draft_term d k keep l = term_keeps (shapes d) (length d.signals) d.memories d.exprs k (sound d keep) l

abbrev DraftTarget : Design → ℕ → Type 0
DraftTarget d k = TargetKeeps (shapes d) (length d.signals) (design.target d k)

node_keeps : (d : Design) (k : ℕ) (x : Target) → DraftKeeps d → TargetStands (shapes d) (length d.signals) d.exprs x → ((j : ℕ) → j < k → DraftTarget d j) → target_below x k ≡ true → TargetKeeps (shapes d) (length d.signals) (node_target (design.term d) (design.target d) x)
node_keeps d k (target.Whole x) keep t h b = t
node_keeps d k (target.Part x low len) keep t h b = t
node_keeps d k (target.Cat parts) keep t h b = (some_there (design.target d) parts t, parts_keep (shapes d) (length d.signals) (design.target d) k parts h b)
node_keeps d k (target.Pick items index) keep t h b = (some_there (design.target d) items t.0, parts_keep (shapes d) (length d.signals) (design.target d) k items h b, draft_term d index.place keep t.1, t.2)

target_keeps : (d : Design) → DraftKeeps d → (k : ℕ) → k < length d.targets → DraftTarget d k
target_keeps d keep = by_places (DraftTarget d) d.targets (λ k x found below.
    let low = keep.arenas.targets_lower in
    subst (λ (t : tree.Target). TargetKeeps (shapes d) (length d.signals) t) (sym (target_at-is (design.term d) d.targets low k x found))
    (node_keeps d k x keep (keep.arenas.targets k x found) below (lower_at target_below d.targets low k x found)))

-- ---- statements

block_keeps : (s : Shapes) (n : ℕ) (h : ℕ → tree.Stmt) (k : ℕ) (is : List StmtId) → ((j : ℕ) → j < k → StmtKeeps s n (h j)) → all_stmts_below k is ≡ true → BlockKeeps s n (block_at h is)
block_keeps s n h k [] p b = tt
block_keeps s n h k (i ∷ is) p b =
    let q = and_parts (nat_lt i.place k) (all_stmts_below k is) b in
    (p i.place (ltb-true i.place k q.0), block_keeps s n h k is p q.1)

branches_keep : (d : Design) (k : ℕ) (bs : List Branch) → DraftKeeps d → BranchesStand (length d.exprs) bs → ((j : ℕ) → j < k → StmtKeeps (shapes d) (length d.signals) (design.stmt d j)) → all_branches_below k bs ≡ true
    → BranchesKeep (shapes d) (length d.signals) (branches_at (design.term d) (design.stmt d) bs)
branches_keep d k [] keep t p b = tt
branches_keep d k (x ∷ more) keep t p b =
    let q = and_parts (all_stmts_below k x.body) (all_branches_below k more) b in
    (draft_term d x.cond.place keep t.0, block_keeps (shapes d) (length d.signals) (design.stmt d) k x.body p q.0, branches_keep d k more keep t.1 p q.1)

arms_keep : (s : Shapes) (n : ℕ) (h : ℕ → tree.Stmt) (k : ℕ) (arms : List Arm) → ((j : ℕ) → j < k → StmtKeeps s n (h j)) → all_arms_below k arms ≡ true → ArmsKeep s n (arms_at h arms)
arms_keep s n h k [] p b = tt
arms_keep s n h k (x ∷ more) p b =
    let q = and_parts (all_stmts_below k x.body) (all_arms_below k more) b in
    (block_keeps s n h k x.body p q.0, arms_keep s n h k more p q.1)

node_stmt_keeps : (d : Design) (k : ℕ) (x : Stmt) → DraftKeeps d → StmtStands (length d.exprs) (length d.targets) x → ((j : ℕ) → j < k → StmtKeeps (shapes d) (length d.signals) (design.stmt d j)) → stmt_below x k ≡ true
    → StmtKeeps (shapes d) (length d.signals) (node_stmt (design.term d) (design.target d) (design.stmt d) x)
node_stmt_keeps d k (stmt.Assign target value line) keep t p b = (target_keeps d keep target.place t.0, keep.arenas.target_bits target.place t.0, draft_term d value.place keep t.1)
node_stmt_keeps d k (stmt.If branches rest line) keep t p b =
    let q = and_parts (all_branches_below k branches) (all_stmts_below k rest) b in
    (branches_keep d k branches keep t p q.0, block_keeps (shapes d) (length d.signals) (design.stmt d) k rest p q.1)
node_stmt_keeps d k (stmt.Case on arms rest line) keep t p b =
    let q = and_parts (all_arms_below k arms) (all_stmts_below k rest) b in
    (draft_term d on.place keep t, arms_keep (shapes d) (length d.signals) (design.stmt d) k arms p q.0, block_keeps (shapes d) (length d.signals) (design.stmt d) k rest p q.1)

stmt_keeps : (d : Design) → DraftKeeps d → (k : ℕ) → k < length d.stmts → StmtKeeps (shapes d) (length d.signals) (design.stmt d k)
stmt_keeps d keep = by_places (λ k. StmtKeeps (shapes d) (length d.signals) (design.stmt d k)) d.stmts (λ k x found below.
    let low = keep.arenas.stmts_lower in
    subst (λ (t : tree.Stmt). StmtKeeps (shapes d) (length d.signals) t) (sym (stmt_at-is (design.term d) (design.target d) d.stmts low k x found))
    (node_stmt_keeps d k x keep (keep.arenas.stmts k x found) below (lower_at stmt_below d.stmts low k x found)))

-- ---- designs

-- the tree of a list of a design's statements keeps
pub design_block : (d : Design) (ids : List StmtId) → Keeps d → all_stmts_below (length d.stmts) ids ≡ true → BlockKeeps (shapes d) (length d.signals) (design.block d ids)
design_block d ids keep b = block_keeps (shapes d) (length d.signals) (design.stmt d) (length d.stmts) ids (λ j l. stmt_keeps d (arenas d keep) j l) b

-- the statements of a domain stand
pub sync_below : (d : Design) (k : ℕ) (ps : List SyncPart) → EachOf (PartStands d) ps → all_stmts_below (length d.stmts) (stmts_of k ps) ≡ true
sync_below d k [] h = refl
sync_below d k (p ∷ ps) h = by_domain (nat_eq p.domain k) (sync_below d k ps h.1)
  where
    by_domain : (b : Bool) → all_stmts_below (length d.stmts) (stmts_of k ps) ≡ true → all_stmts_below (length d.stmts) (cond b (p.stmts ++ stmts_of k ps) (stmts_of k ps)) ≡ true
    by_domain true later = below_both (length d.stmts) p.stmts (stmts_of k ps) (search h.0.stmts.there) later
    by_domain false later = later

domains_keep : (d : Design) → Keeps d → (k : ℕ) (xs : List Domain) → EachOf (λ (x : circuit.Domain). BlockKeeps (shapes d) (length d.signals) x.stmts) (domains_from d k xs)
domains_keep d keep k [] = tt
domains_keep d keep k (x ∷ xs) = (design_block d (stmts_of k d.sync) keep (sync_below d k d.sync keep.sync), domains_keep d keep (k + 1) xs)

as_many : (ss : List Signal) → length (map made_of ss) ≡ length ss
as_many [] = refl
as_many (s ∷ ss) = ap suc (as_many ss)

pub can_be_lowered : (d : Design) → Keeps d → CanBeLowered (circuit_of d)
unfolding circuit_of
can_be_lowered d keep = record {
  signals = keeps_shapes d keep;
  small = λ x l. signal_small d keep x;
  comb = subst (λ (n : ℕ). BlockKeeps (shapes d) n (design.block d d.comb)) (sym (as_many d.signals)) (design_block d d.comb keep (search keep.comb.there));
  domains = subst (λ (n : ℕ). EachOf (λ (x : circuit.Domain). BlockKeeps (shapes d) n x.stmts) (domains_from d 0 d.domains)) (sym (as_many d.signals)) (domains_keep d keep 0 d.domains);
}
