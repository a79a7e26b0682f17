-- Drafts that grow by nodes.
use Rattle.std.proofs.Common.{◌≡◌, ℕ, zero, suc, ◌<◌, ◌≤◌, List, [], ◌∷◌, ◌++◌, true, length, length-append, refl, sym, ap, subst, ◌∙◌, arith, nat_lt}
use Rattle.std.specs.Prelude.{Some, map, slice_get, slice_index_or, IsTrue}
use Rattle.std.proofs.lemmas.Bool.{and_from, and_parts, lt-ltb, ltb-true}
use Rattle.lx_circuit.specs.Statements as tree
use Rattle.lx_circuit.specs.Terms.{Term}
use Rattle.lx_fhdl.specs.Below.{ExprId, StmtId, all_arms_below, all_branches_below, all_stmts_below}
use Rattle.lx_fhdl.specs.Designs as design
use Rattle.lx_circuit.specs.Circuit.{Made, nothing}
use Rattle.lx_fhdl.specs.Designs.{block, circuit_of, made_of, shapes, term}
use Rattle.lx_fhdl.specs.Drafts.{DraftKeeps, ExprPut}
use Rattle.lx_fhdl.specs.Drafts as drafts
use Rattle.lx_fhdl.specs.Keeping.{BranchesStand}
use Rattle.lx_fhdl.specs.Stmts.{arms_at, block_at, branches_at, node_target}
use Rattle.lx_fhdl.specs.Trees.{node_term}
use Rattle.lx_fhdl.specs.declared.design.Design.{Design}
use Rattle.lx_fhdl.specs.declared.design.Signal.{Signal}
use Rattle.lx_fhdl.specs.declared.exprs.Expr.{Expr}
use Rattle.lx_fhdl.specs.declared.stmts.Arm.{Arm}
use Rattle.lx_fhdl.specs.declared.stmts.Branch.{Branch}
use Rattle.lx_fhdl.specs.declared.stmts.Stmt.{Stmt}
use Rattle.lx_fhdl.specs.declared.stmts.Target.{Target}
use Rattle.lx_fhdl.proofs.Drafts.{stays_same, stays_then}
use Rattle.lx_fhdl.proofs.StmtTrees.{block_same}
use Rattle.lx_fsm.proofs.Drives.{drivings_stay}
use Rattle.lx_fsm.specs.Lowers.{AreAll, AreThere, Grows, HasTarget, HasTerm, TargetPut, TermPut}

pub grows_same : (d : Design) → Grows d d
grows_same d = record { only = refl; signals = refl; memories = refl; stays = stays_same d; drivings = λ driver k l. refl }

pub grows_then : {x y z : Design} → Grows x y → Grows y z → Grows x z
grows_then {x} {y} {z} g h = record {
  only = h.only ∙ ap (λ (d : Design). record d { exprs = z.exprs; targets = z.targets; stmts = z.stmts }) g.only;
  signals = h.signals ∙ g.signals;
  memories = h.memories ∙ g.memories;
  stays = stays_then x y z g.stays h.stays;
  drivings = λ driver k l. h.drivings driver k (omega (arith, l, g.stays.stmts)) ∙ g.drivings driver k l;
}

pub same_shapes : {x y : Design} → Grows x y → (k : ℕ) → shapes y k ≡ shapes x k
unfolding circuit_of
same_shapes {x} {y} g k = ap (λ ss. shapes (record x { signals = ss }) k) g.signals

pub term_kept : {x y : Design} {k : ℕ} {t : Term} → Grows x y → HasTerm x k t → HasTerm y k t
term_kept {x} {y} {k} {t} g h = record { there = omega (arith, h.there, g.stays.exprs); tree = g.stays.terms k h.there ∙ h.tree }

pub target_kept : {x y : Design} {k : ℕ} {t : tree.Target} → Grows x y → HasTarget x k t → HasTarget y k t
target_kept {x} {y} {k} {t} g h = record { there = omega (arith, h.there, g.stays.targets); tree = g.stays.target_trees k h.there ∙ h.tree }

pub exprs_kept : {x y : Design} {t : ℕ → Term} {n : ℕ} {ids : List ExprId} → Grows x y → AreAll x t n ids → AreAll y t n ids
exprs_kept g h = record { long = h.long; each = λ k i at. term_kept g (h.each k i at) }

-- ---- a node more

by_exprs : (old new : Design) (xs : List Expr) → new ≡ record old { exprs = xs } → new ≡ record old { exprs = new.exprs; targets = new.targets; stmts = new.stmts }
by_exprs old new xs e = subst (λ (d : Design). d ≡ record old { exprs = d.exprs; targets = d.targets; stmts = d.stmts }) (sym e) refl

by_targets : (old new : Design) (xs : List Target) → new ≡ record old { targets = xs } → new ≡ record old { exprs = new.exprs; targets = new.targets; stmts = new.stmts }
by_targets old new xs e = subst (λ (d : Design). d ≡ record old { exprs = d.exprs; targets = d.targets; stmts = d.stmts }) (sym e) refl

pub by_stmts : (old new : Design) (xs : List Stmt) → new ≡ record old { stmts = xs } → new ≡ record old { exprs = new.exprs; targets = new.targets; stmts = new.stmts }
by_stmts old new xs e = subst (λ (d : Design). d ≡ record old { exprs = d.exprs; targets = d.targets; stmts = d.stmts }) (sym e) refl

pub term_put : (old new : Design) (x : Expr) (id : ℕ) → DraftKeeps old → DraftKeeps new → ExprPut old new x id → TermPut old new id (node_term (term old) x)
term_put old new x id a b p = record {
  grows = record { only = by_exprs old new (old.exprs ++ x ∷ []) p.is; signals = ap (λ (d : Design). d.signals) p.is; memories = ap (λ (d : Design). d.memories) p.is; stays = p.stays; drivings = drivings_stay old new a b p.stays };
  has = record { there = omega (arith, p.place, ap (λ (d : Design). length d.exprs) p.is, length-append old.exprs (x ∷ [])); tree = p.tree };
}

pub target_put : (old new : Design) (x : Target) (id : ℕ) → DraftKeeps old → DraftKeeps new → drafts.TargetPut old new x id → TargetPut old new id (node_target (term old) (design.target old) x)
target_put old new x id a b p = record {
  grows = record { only = by_targets old new (old.targets ++ x ∷ []) p.is; signals = ap (λ (d : Design). d.signals) p.is; memories = ap (λ (d : Design). d.memories) p.is; stays = p.stays; drivings = drivings_stay old new a b p.stays };
  has = record { there = omega (arith, p.place, ap (λ (d : Design). length d.targets) p.is, length-append old.targets (x ∷ [])); tree = p.tree };
}

-- ---- statements below a greater place

pub stmts_wider : (n m : ℕ) (is : List StmtId) → n ≤ m → all_stmts_below n is ≡ true → all_stmts_below m is ≡ true
stmts_wider n m [] l h = refl
stmts_wider n m (i ∷ is) l h =
    let p = and_parts (nat_lt i.place n) (all_stmts_below n is) h in
    let q = ltb-true i.place n p.0 in
    and_from (nat_lt i.place m) (all_stmts_below m is) (lt-ltb i.place m (omega arith)) (stmts_wider n m is l p.1)

pub branches_wider : (n m : ℕ) (bs : List Branch) → n ≤ m → all_branches_below n bs ≡ true → all_branches_below m bs ≡ true
branches_wider n m [] l h = refl
branches_wider n m (b ∷ bs) l h =
    let p = and_parts (all_stmts_below n b.body) (all_branches_below n bs) h in
    and_from (all_stmts_below m b.body) (all_branches_below m bs) (stmts_wider n m b.body l p.0) (branches_wider n m bs l p.1)

pub arms_wider : (n m : ℕ) (as_ : List Arm) → n ≤ m → all_arms_below n as_ ≡ true → all_arms_below m as_ ≡ true
arms_wider n m [] l h = refl
arms_wider n m (a ∷ as_) l h =
    let p = and_parts (all_stmts_below n a.body) (all_arms_below n as_) h in
    and_from (all_stmts_below m a.body) (all_arms_below m as_) (stmts_wider n m a.body l p.0) (arms_wider n m as_ l p.1)

pub conds_wider : (n m : ℕ) (bs : List Branch) → n ≤ m → BranchesStand n bs → BranchesStand m bs
conds_wider n m [] l h = tt
conds_wider n m (b ∷ bs) l h = (omega (arith, h.0), conds_wider n m bs l h.1)

-- ---- trees stay

pub there_kept : {x y : Design} (ids : List StmtId) → Grows x y → AreThere x ids → AreThere y ids
there_kept {x} {y} ids g h = search (stmts_wider (length x.stmts) (length y.stmts) ids g.stays.stmts (search h))

pub block_kept : {x y : Design} (ids : List StmtId) → Grows x y → AreThere x ids → block y ids ≡ block x ids
block_kept {x} {y} ids g h = block_same (design.stmt y) (design.stmt x) (length x.stmts) ids g.stays.stmt_trees (search h)

branches_same : (s t : ℕ → Term) (f g : ℕ → tree.Stmt) (n m : ℕ) (bs : List Branch) → ((k : ℕ) → k < m → s k ≡ t k) → ((k : ℕ) → k < n → f k ≡ g k)
    → BranchesStand m bs → all_branches_below n bs ≡ true → branches_at s f bs ≡ branches_at t g bs
branches_same s t f g n m [] e h c b = refl
branches_same s t f g n m (x ∷ xs) e h c b =
    let p = and_parts (all_stmts_below n x.body) (all_branches_below n xs) b in
    ap (λ (u : Term). tree.Branch u (block_at f x.body) (branches_at s f xs)) (e x.cond.place c.0)
    ∙ ap (λ (u : tree.Block). tree.Branch (t x.cond.place) u (branches_at s f xs)) (block_same f g n x.body h p.0)
    ∙ ap (tree.Branch (t x.cond.place) (block_at g x.body)) (branches_same s t f g n m xs e h c.1 p.1)

pub branches_kept : {x y : Design} (bs : List Branch) → Grows x y → BranchesStand (length x.exprs) bs → IsTrue (all_branches_below (length x.stmts) bs)
    → branches_at (term y) (design.stmt y) bs ≡ branches_at (term x) (design.stmt x) bs
branches_kept {x} {y} bs g c h = branches_same (term y) (term x) (design.stmt y) (design.stmt x) (length x.stmts) (length x.exprs) bs g.stays.terms g.stays.stmt_trees c (search h)

arms_same : (f g : ℕ → tree.Stmt) (n : ℕ) (as_ : List Arm) → ((k : ℕ) → k < n → f k ≡ g k) → all_arms_below n as_ ≡ true → arms_at f as_ ≡ arms_at g as_
arms_same f g n [] h b = refl
arms_same f g n (a ∷ as_) h b =
    let p = and_parts (all_stmts_below n a.body) (all_arms_below n as_) b in
    ap (λ (u : tree.Block). tree.Arm a.key u (arms_at f as_)) (block_same f g n a.body h p.0)
    ∙ ap (tree.Arm a.key (block_at g a.body)) (arms_same f g n as_ h p.1)

pub arms_kept : {x y : Design} (as_ : List Arm) → Grows x y → IsTrue (all_arms_below (length x.stmts) as_) → arms_at (design.stmt y) as_ ≡ arms_at (design.stmt x) as_
arms_kept {x} {y} as_ g h = arms_same (design.stmt y) (design.stmt x) (length x.stmts) as_ g.stays.stmt_trees (search h)

-- ---- the shape of a signal

made_at : (ss : List Signal) (x : ℕ) (s : Signal) → slice_get ss x ≡ Some s → made_of s ≡ slice_index_or (map made_of ss) x nothing
made_at [] x s e = absurd (cc)
made_at (r ∷ rs) zero s e = let same : r ≡ s = cc in ap made_of (sym same)
made_at (r ∷ rs) (suc x) s e = made_at rs x s e

pub signal_shape_is : (d : Design) (x : ℕ) (s : Signal) → slice_get d.signals x ≡ Some s → s.shape ≡ shapes d x
unfolding circuit_of
signal_shape_is d x s e = ap (λ (m : Made). m.shape) (made_at d.signals x s e)
