-- What making does to a draft.
use Rattle.std.proofs.Common.{◌≡◌, ℕ, Bool, true, false, [], ◌∷◌, ◌++◌, length, Option, Some, None, refl, ap}
use Rattle.lx_arena.proofs.Places.{lower_more}
use Rattle.lx_circuit.specs.declared.WidthFault.{WidthFault}
use Rattle.lx_fhdl.specs.Below.{ExprId, TargetId, StmtId, expr_below, target_below, stmt_below}
use Rattle.lx_fhdl.specs.Drafts.{DraftKeeps, IsDraft, CanAddExpr, CanAddTarget, CanAddStmt, ExprPut, MemoryPut, SignalPut, TargetPut, StmtPut, Stays}
use Rattle.lx_fhdl.specs.Instance.{the_expr, the_signal, the_target, the_stmt}
use Rattle.lx_fhdl.specs.Kept.{is_memory, is_signal}
use Rattle.lx_fhdl.specs.declared.design.Design.{Design}
use Rattle.lx_fhdl.specs.declared.design.Memory.{Memory}
use Rattle.lx_fhdl.specs.declared.design.Signal.{Signal}
use Rattle.lx_fhdl.specs.declared.exprs.Expr.{Expr}
use Rattle.lx_fhdl.specs.declared.exprs.SigId.{SigId}
use Rattle.lx_fhdl.specs.declared.stmts.Stmt.{Stmt}
use Rattle.lx_fhdl.specs.declared.stmts.Target.{Target}
use Rattle.lx_fhdl.proofs.Drafts.{expr_put, expr_keeps, memory_draft, memory_put, signal_draft, signal_put, target_put, target_keeps, stmt_put, stmt_keeps, stays_same}
use Rattle.lx_shaped.specs.Laws.{MadeStands, OldStays}
use Rattle.lx_shaped.specs.Making.{judged, tried, make_expr, make_memory, make_signal, make_stmt, make_target, expr_stands, expr_fault, target_in, target_fault, stmt_in}
use Rattle.lx_shaped.specs.declared.outcome.Outcome.{Outcome}
use Rattle.lx_shaped.specs.declared.outcome.Outcome.TheVariants.{Made, Faulty, Misplaced}
use Rattle.lx_shaped.proofs.Additions.{can_add_expr, can_add_target, can_add_stmt}
use Rattle.lx_fhdl.proofs.Kept.{is_memory-is, is_signal-is}

-- what was made passed the test, has no fault, and is what was added
made_by : {T : Type 0} (b : Bool) (f : Option WidthFault) (m id : T) (new old d : Design) → (Made id, d) ≡ tried (judged b f m) new old → (b ≡ true) × (f ≡ None) × (id ≡ m) × (d ≡ new)
made_by {T} true None m id new old d e =
    let p : Made id ≡ Made m = ap (λ (r : Outcome T × Design). r.0) e in
    (refl, refl, cc, ap (λ (r : Outcome T × Design). r.1) e)
made_by {T} true (Some g) m id new old d e =
    let p : Made id ≡ Faulty g = ap (λ (r : Outcome T × Design). r.0) e in
    absurd (cc)
made_by {T} false f m id new old d e =
    let p : Made id ≡ Misplaced = ap (λ (r : Outcome T × Design). r.0) e in
    absurd (cc)

-- a fact of both designs is one of the design after
after : {T : Type 0} (P : Design → Type 0) (b : Bool) (f : Option WidthFault) (m : T) (new old : Design) → (b ≡ true → f ≡ None → P new) → P old → P (tried (judged b f m) new old).1
after P true None m new old h g = h refl refl
after P true (Some w) m new old h g = g
after P false f m new old h g = g

put_expr : (d : Design) (x : Expr) → DraftKeeps d → CanAddExpr d x → ExprPut d (record d { exprs = d.exprs ++ x ∷ [] }) x (length d.exprs) × DraftKeeps (record d { exprs = d.exprs ++ x ∷ [] })
put_expr d x keep can =
    let low = lower_more expr_below d.exprs x keep.arenas.exprs_lower (search can.below) in
    (expr_put d x keep can low, expr_keeps d x keep can low)

put_target : (d : Design) (x : Target) → DraftKeeps d → CanAddTarget d x → TargetPut d (record d { targets = d.targets ++ x ∷ [] }) x (length d.targets) × DraftKeeps (record d { targets = d.targets ++ x ∷ [] })
put_target d x keep can =
    let low = lower_more target_below d.targets x keep.arenas.targets_lower (search can.below) in
    (target_put d x keep can low, target_keeps d x keep can low)

put_stmt : (d : Design) (x : Stmt) → DraftKeeps d → CanAddStmt d x → StmtPut d (record d { stmts = d.stmts ++ x ∷ [] }) x (length d.stmts) × DraftKeeps (record d { stmts = d.stmts ++ x ∷ [] })
put_stmt d x keep can =
    let low = lower_more stmt_below d.stmts x keep.arenas.stmts_lower (search can.below) in
    (stmt_put d x keep can low, stmt_keeps d x keep can low)

made_expr : (d new : Design) (x : Expr) (id : ExprId) → DraftKeeps d → (Made id, new) ≡ make_expr x d → ExprPut d new x id.place
unfolding make_expr
made_expr d new x id keep e =
    let h = made_by (expr_stands x d) (expr_fault x d) (the_expr (length d.exprs)) id (record d { exprs = d.exprs ++ x ∷ [] }) d new e in
    rw (h.3, h.2) (put_expr d x keep (can_add_expr x d h.0 h.1)).0

made_target : (d new : Design) (x : Target) (id : TargetId) → DraftKeeps d → (Made id, new) ≡ make_target x d → TargetPut d new x id.place
unfolding make_target
made_target d new x id keep e =
    let h = made_by (target_in x d) (target_fault x d) (the_target (length d.targets)) id (record d { targets = d.targets ++ x ∷ [] }) d new e in
    rw (h.3, h.2) (put_target d x keep (can_add_target x d h.0 h.1)).0

made_stmt : (d new : Design) (x : Stmt) (id : StmtId) → DraftKeeps d → (Made id, new) ≡ make_stmt x d → StmtPut d new x id.place
unfolding make_stmt
made_stmt d new x id keep e =
    let h = made_by (stmt_in x d) None (the_stmt (length d.stmts)) id (record d { stmts = d.stmts ++ x ∷ [] }) d new e in
    rw (h.3, h.2) (put_stmt d x keep (can_add_stmt x d h.0)).0

made_signal : (d new : Design) (x : Signal) (id : SigId) → IsDraft d → (Made id, new) ≡ make_signal x d → SignalPut d new x id.0
unfolding make_signal
made_signal d new x id draft e =
    let h = made_by (is_signal x) None (the_signal (length d.signals)) id (record d { signals = d.signals ++ x ∷ [] }) d new e in
    rw (h.3, h.2) (signal_put d x draft)

made_memory : (d new : Design) (x : Memory) (place : ℕ) → IsDraft d → (Made place, new) ≡ make_memory x d → MemoryPut d new x place
unfolding make_memory
made_memory d new x place draft e =
    let h = made_by (is_memory x) None (length d.memories) place (record d { memories = d.memories ++ x ∷ [] }) d new e in
    rw (h.3, h.2) (memory_put d x draft)

pub made_stands : MadeStands
made_stands = record { expr = made_expr; target = made_target; stmt = made_stmt; signal = made_signal; memory = made_memory }

abbrev Kept : Design → Design → Type 0
Kept d new = DraftKeeps new × Stays d new

old_expr : (d : Design) (x : Expr) → DraftKeeps d → Kept d (make_expr x d).1
unfolding make_expr
old_expr d x keep =
    after (Kept d) (expr_stands x d) (expr_fault x d) (the_expr (length d.exprs)) (record d { exprs = d.exprs ++ x ∷ [] }) d
    (λ h e. let p = put_expr d x keep (can_add_expr x d h e) in (p.1, p.0.stays))
    (keep, stays_same d)

old_target : (d : Design) (x : Target) → DraftKeeps d → Kept d (make_target x d).1
unfolding make_target
old_target d x keep =
    after (Kept d) (target_in x d) (target_fault x d) (the_target (length d.targets)) (record d { targets = d.targets ++ x ∷ [] }) d
    (λ h e. let p = put_target d x keep (can_add_target x d h e) in (p.1, p.0.stays))
    (keep, stays_same d)

old_stmt : (d : Design) (x : Stmt) → DraftKeeps d → Kept d (make_stmt x d).1
unfolding make_stmt
old_stmt d x keep =
    after (Kept d) (stmt_in x d) None (the_stmt (length d.stmts)) (record d { stmts = d.stmts ++ x ∷ [] }) d
    (λ h e. let p = put_stmt d x keep (can_add_stmt x d h) in (p.1, p.0.stays))
    (keep, stays_same d)

abbrev StillDraft : Design → Design → Type 0
StillDraft d new = IsDraft new × Stays d new

old_signal : (d : Design) (x : Signal) → IsDraft d → StillDraft d (make_signal x d).1
unfolding make_signal
old_signal d x draft =
    after (StillDraft d) (is_signal x) None (the_signal (length d.signals)) (record d { signals = d.signals ++ x ∷ [] }) d
    (λ h e. (signal_draft d x draft (is_signal-is x h), (signal_put d x draft).stays))
    (draft, stays_same d)

old_memory : (d : Design) (x : Memory) → IsDraft d → StillDraft d (make_memory x d).1
unfolding make_memory
old_memory d x draft =
    after (StillDraft d) (is_memory x) None (length d.memories) (record d { memories = d.memories ++ x ∷ [] }) d
    (λ h e. (memory_draft d x draft (is_memory-is x h), (memory_put d x draft).stays))
    (draft, stays_same d)

pub old_stays : OldStays
old_stays = record { expr = old_expr; target = old_target; stmt = old_stmt; signal = old_signal; memory = old_memory }
