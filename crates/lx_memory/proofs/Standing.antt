-- A design that grows again keeps what it keeps.
use Rattle.std.proofs.Common.{◌≡◌, ℕ, ◌≤◌, true, List, [], ◌∷◌, ◌++◌, length, refl, sym, ap, subst, arith, nat_lt}
use Rattle.std.proofs.lemmas.Bool.{and_from, and_parts, lt-ltb, ltb-true}
use Rattle.lx_arena.specs.Lower.{EachLower}
use Rattle.lx_circuit.specs.Statements as tree
use Rattle.lx_fhdl.specs.Below.{StmtId, all_stmts_below, expr_below, stmt_below, target_below}
use Rattle.lx_fhdl.specs.Designs as design
use Rattle.lx_fhdl.specs.Designs.{block, circuit_of}
use Rattle.lx_fhdl.specs.Drafts.{CanAddExpr, CanAddStmt, CanAddTarget, ExprPut, IsDraft, SignalPut, Stays, StmtPut, TargetPut}
use Rattle.lx_fhdl.specs.Keeping.{EachOf, IsSignal, Keeps, ListStands, PartStands, block_depth}
use Rattle.lx_fhdl.specs.declared.design.Design.{Design}
use Rattle.lx_fhdl.specs.declared.design.Domain.{Domain}
use Rattle.lx_fhdl.specs.declared.design.Port.{Port}
use Rattle.lx_fhdl.specs.declared.design.Signal.{Signal}
use Rattle.lx_fhdl.specs.declared.design.SyncPart.{SyncPart}
use Rattle.lx_fhdl.specs.declared.exprs.Expr.{Expr}
use Rattle.lx_fhdl.specs.declared.stmts.Stmt.{Stmt}
use Rattle.lx_fhdl.specs.declared.stmts.Target.{Target}
use Rattle.lx_fhdl.proofs.Drafts as drafts
use Rattle.lx_fhdl.proofs.StmtTrees.{block_same}
use Rattle.lx_fhdl.proofs.Wider.{one_of, ports_wider, wider_same}
use Rattle.lx_lowering.proofs.Appends.{depth_append}
use Rattle.lx_plain.proofs.Puts.{block_append}
use Rattle.lx_memory.specs.Puts.{IsGrowing}
use Rattle.lx_memory.proofs.Nodes.{is_draft}

-- ---- lists of statements

pub stmts_wider : (n m : ℕ) (is : List StmtId) → n ≤ m → all_stmts_below n is ≡ true → all_stmts_below m is ≡ true
stmts_wider n m [] l h = refl
stmts_wider n m (i ∷ is) l h =
    let p = and_parts (nat_lt i.place n) (all_stmts_below n is) h in
    let q = ltb-true i.place n p.0 in
    and_from (nat_lt i.place m) (all_stmts_below m is) (lt-ltb i.place m (omega arith)) (stmts_wider n m is l p.1)

pub block_stays : (d e : Design) (ids : List StmtId) → Stays d e → ListStands d ids → block e ids ≡ block d ids
block_stays d e ids stays h = block_same (design.stmt e) (design.stmt d) (length d.stmts) ids stays.stmt_trees (search h.there)

pub list_stays : (d e : Design) (ids : List StmtId) → Stays d e → ListStands d ids → ListStands e ids
list_stays d e ids stays h = record {
  there = search (stmts_wider (length d.stmts) (length e.stmts) ids stays.stmts (search h.there));
  depth = subst (λ (b : tree.Block). block_depth b ≤ 128) (sym (block_stays d e ids stays h)) h.depth;
}

pub parts_stay : (d e : Design) (ps : List SyncPart) → Stays d e → e.domains ≡ d.domains → EachOf (PartStands d) ps → EachOf (PartStands e) ps
parts_stay d e [] stays same h = tt
parts_stay d e (p ∷ ps) stays same h = (
  record { domain = omega (arith, h.0.domain, ap (λ (ds : List Domain). length ds) same); stmts = list_stays d e p.stmts stays h.0.stmts },
  parts_stay d e ps stays same h.1,
)

stays_growing : (d e : Design) → IsGrowing d → Stays d e → e.comb ≡ d.comb → e.sync ≡ d.sync → e.domains ≡ d.domains → IsDraft e → IsGrowing e
stays_growing d e g stays comb sync domains draft = record {
  draft = draft;
  comb = subst (λ (ids : List StmtId). ListStands e ids) (sym comb) (list_stays d e d.comb stays g.comb);
  sync = subst (λ (ps : List SyncPart). EachOf (PartStands e) ps) (sym sync) (parts_stay d e d.sync stays domains g.sync);
}

-- ---- a design that was complete

pub starts : (d : Design) → Keeps d → IsGrowing d
starts d h = record { draft = is_draft d h; comb = h.comb; sync = h.sync }

-- ---- by nodes and signals

pub expr_put : (d : Design) (x : Expr) → IsGrowing d → CanAddExpr d x → EachLower expr_below (d.exprs ++ x ∷ []) → ExprPut d (record d { exprs = d.exprs ++ x ∷ [] }) x (length d.exprs)
expr_put d x g node low = drafts.expr_put d x g.draft.keeps node low

pub expr_growing : (d : Design) (x : Expr) → IsGrowing d → CanAddExpr d x → EachLower expr_below (d.exprs ++ x ∷ []) → IsGrowing (record d { exprs = d.exprs ++ x ∷ [] })
expr_growing d x g node low = stays_growing d (record d { exprs = d.exprs ++ x ∷ [] }) g (expr_put d x g node low).stays refl refl refl (drafts.expr_draft d x g.draft node low)

pub target_put : (d : Design) (x : Target) → IsGrowing d → CanAddTarget d x → EachLower target_below (d.targets ++ x ∷ []) → TargetPut d (record d { targets = d.targets ++ x ∷ [] }) x (length d.targets)
target_put d x g node low = drafts.target_put d x g.draft.keeps node low

pub target_growing : (d : Design) (x : Target) → IsGrowing d → CanAddTarget d x → EachLower target_below (d.targets ++ x ∷ []) → IsGrowing (record d { targets = d.targets ++ x ∷ [] })
target_growing d x g node low = stays_growing d (record d { targets = d.targets ++ x ∷ [] }) g (target_put d x g node low).stays refl refl refl (drafts.target_draft d x g.draft node low)

pub stmt_put : (d : Design) (x : Stmt) → IsGrowing d → CanAddStmt d x → EachLower stmt_below (d.stmts ++ x ∷ []) → StmtPut d (record d { stmts = d.stmts ++ x ∷ [] }) x (length d.stmts)
stmt_put d x g node low = drafts.stmt_put d x g.draft.keeps node low

pub stmt_growing : (d : Design) (x : Stmt) → IsGrowing d → CanAddStmt d x → EachLower stmt_below (d.stmts ++ x ∷ []) → IsGrowing (record d { stmts = d.stmts ++ x ∷ [] })
stmt_growing d x g node low = stays_growing d (record d { stmts = d.stmts ++ x ∷ [] }) g (stmt_put d x g node low).stays refl refl refl (drafts.stmt_draft d x g.draft node low)

pub signal_put : (d : Design) (x : Signal) → IsGrowing d → SignalPut d (record d { signals = d.signals ++ x ∷ [] }) x (length d.signals)
signal_put d x g = drafts.signal_put d x g.draft

pub signal_growing : (d : Design) (x : Signal) → IsGrowing d → IsSignal x → IsGrowing (record d { signals = d.signals ++ x ∷ [] })
signal_growing d x g h = stays_growing d (record d { signals = d.signals ++ x ∷ [] }) g (signal_put d x g).stays refl refl refl (drafts.signal_draft d x g.draft h)

-- ---- by statements

below_both : (n : ℕ) (is js : List StmtId) → all_stmts_below n is ≡ true → all_stmts_below n js ≡ true → all_stmts_below n (is ++ js) ≡ true
below_both n [] js a b = b
below_both n (i ∷ is) js a b =
    let p = and_parts (nat_lt i.place n) (all_stmts_below n is) a in
    and_from (nat_lt i.place n) (all_stmts_below n (is ++ js)) p.0 (below_both n is js p.1 b)

both_stand : (d : Design) (is js : List StmtId) → ListStands d is → ListStands d js → ListStands d (is ++ js)
both_stand d is js g h = record {
  there = search (below_both (length d.stmts) is js (search g.there) (search h.there));
  depth = omega (arith, ap block_depth (block_append (design.stmt d) is js), depth_append (block d is) (block d js), g.depth, h.depth);
}

-- with other lists of statements, and other ports of memories
abbrev pub relisted : Design → List StmtId → List SyncPart → List Port → Design
relisted d comb sync ports = record d { comb = comb; sync = sync; ports = ports }

pub relisted_stays : (d : Design) (comb : List StmtId) (sync : List SyncPart) (ports : List Port) → Stays d (relisted d comb sync ports)
relisted_stays d comb sync ports = record {
  exprs = omega arith;
  targets = omega arith;
  stmts = omega arith;
  terms = λ k l. refl;
  target_trees = λ k l. refl;
  stmt_trees = λ k l. refl;
  stmt_nodes = λ k l. refl;
  signals_more = omega arith;
  signals = λ k l. refl;
}

pub relisted_draft : (d : Design) (comb : List StmtId) (sync : List SyncPart) → IsDraft d → IsDraft (relisted d comb sync d.ports)
unfolding circuit_of
relisted_draft d comb sync h =
    let e = relisted d comb sync d.ports in
    record {
      keeps = record { arenas = h.keeps.arenas; signals = h.keeps.signals; memories = h.keeps.memories };
      ports = ports_wider d e d.ports (wider_same d e refl refl) h.ports;
    }

pub comb_growing : (d : Design) (id : StmtId) → IsGrowing d → ListStands d (id ∷ []) → IsGrowing (record d { comb = d.comb ++ id ∷ [] })
comb_growing d id g h =
    let e = relisted d (d.comb ++ id ∷ []) d.sync d.ports in
    let stays = relisted_stays d (d.comb ++ id ∷ []) d.sync d.ports in
    record {
      draft = relisted_draft d (d.comb ++ id ∷ []) d.sync g.draft;
      comb = list_stays d e (d.comb ++ id ∷ []) stays (both_stand d d.comb (id ∷ []) g.comb h);
      sync = parts_stay d e d.sync stays refl g.sync;
    }

pub sync_growing : (d : Design) (p : SyncPart) → IsGrowing d → PartStands d p → IsGrowing (record d { sync = d.sync ++ p ∷ [] })
sync_growing d p g h =
    let e = relisted d d.comb (d.sync ++ p ∷ []) d.ports in
    let stays = relisted_stays d d.comb (d.sync ++ p ∷ []) d.ports in
    record {
      draft = relisted_draft d d.comb (d.sync ++ p ∷ []) g.draft;
      comb = list_stays d e d.comb stays g.comb;
      sync = parts_stay d e (d.sync ++ p ∷ []) stays refl (one_of (PartStands d) d.sync p g.sync h);
    }
