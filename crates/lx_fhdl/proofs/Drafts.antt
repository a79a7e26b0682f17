-- A draft that grows by a node keeps what it keeps, and what stood in it stays.
use Rattle.std.proofs.Common.{◌≡◌, ℕ, zero, suc, ◌<◌, ◌≤◌, List, [], ◌∷◌, ◌++◌, length, refl, sym, ap, subst, ◌∙◌, arith}
use Rattle.std.specs.Prelude.{None, Some, map, slice_get, slice_index_or}
use Rattle.std.proofs.lemmas.List.{length_push}
use Rattle.lx_arena.specs.Folds.{Added}
use Rattle.lx_arena.specs.Lower.{EachLower}
use Rattle.lx_arena.proofs.Places.{each_more, get_front, places_more}
use Rattle.lx_circuit.specs.Circuit.{nothing}
use Rattle.lx_circuit.specs.Shapes.{Shapes, shape_of, fault_of}
use Rattle.lx_circuit.specs.Statements as tree
use Rattle.lx_fhdl.specs.Below.{StmtId, expr_below, target_below, stmt_below}
use Rattle.lx_fhdl.specs.Designs as design
use Rattle.lx_fhdl.specs.Designs.{circuit_of, made_of, shapes}
use Rattle.lx_fhdl.specs.Drafts.{DraftKeeps, IsDraft, IsDraftPort, HaveDomains, ListsStand, CanAddExpr, CanAddTarget, CanAddStmt, PartsStay, Stays, ExprPut, TargetPut, StmtPut, SignalPut, MemoryPut, PortPut}
use Rattle.lx_fhdl.specs.Keeping.{EachOf, IsMemory, IsPort, IsSignal, Keeps, BranchesStand, HasPlainIndex, NamesThere, StmtStands, TakesOperands, TargetStands}
use Rattle.lx_fhdl.specs.Nodes.{HasParts, IsSmall}
use Rattle.lx_fhdl.specs.Stmts.{node_stmt, node_target, target_at, stmt_at}
use Rattle.lx_fhdl.specs.Trees.{node_term, term_at}
use Rattle.lx_fhdl.specs.declared.design.Design.{Design}
use Rattle.lx_fhdl.specs.declared.design.Domain.{Domain}
use Rattle.lx_fhdl.specs.declared.design.Memory.{Memory}
use Rattle.lx_fhdl.specs.declared.design.Port.{Port}
use Rattle.lx_fhdl.specs.declared.design.Signal.{Signal}
use Rattle.lx_fhdl.specs.declared.design.SyncPart.{SyncPart}
use Rattle.lx_fhdl.specs.declared.exprs.Expr.{Expr}
use Rattle.lx_fhdl.specs.declared.exprs.SigId.{SigId}
use Rattle.lx_fhdl.specs.declared.stmts.Branch.{Branch}
use Rattle.lx_fhdl.specs.declared.stmts.Stmt.{Stmt}
use Rattle.lx_fhdl.specs.declared.stmts.Stmt.TheVariants as stmt
use Rattle.lx_fhdl.specs.declared.stmts.Target.{Target}
use Rattle.lx_fhdl.specs.declared.stmts.Target.TheVariants as target
use Rattle.lx_fhdl.proofs.Arena.{each_child}
use Rattle.lx_fhdl.proofs.StmtTrees.{stmt_added, stmt_at-is, target_added, target_at-is}
use Rattle.lx_fhdl.proofs.Trees.{term_added, term_at-is}
use Rattle.lx_fhdl.proofs.Staying.{HasIndex, HaveIndices, target_kept, stmt_kept}
use Rattle.lx_fhdl.proofs.Wider.{Begins, IsWider, SameShapes, arenas_wider, begins_more, begins_same, index_kept, indices_kept, one_of, parts_stay, ports_stand, ports_wider, stands_kept, wider_memory, wider_same, wider_signal}

-- ---- what the nodes of a draft name

has_index : (s : Shapes) (n : ℕ) (xs : List Expr) (x : Target) → TargetStands s n xs x → HasIndex (length xs) x
has_index s n xs (target.Whole x) h = tt
has_index s n xs (target.Part x low len) h = tt
has_index s n xs (target.Cat parts) h = tt
has_index s n xs (target.Pick items index) h = h.1

have_indices : (d : Design) → DraftKeeps d → HaveIndices (length d.exprs) d.targets
have_indices d keep k x e = has_index (shapes d) (length d.signals) d.exprs x (keep.arenas.targets k x e)

-- ---- growth

pub stays_same : (d : Design) → Stays d d
stays_same d = record {
  exprs = omega arith;
  targets = omega arith;
  stmts = omega arith;
  terms = λ k l. refl;
  target_trees = λ k l. refl;
  stmt_trees = λ k l. refl;
  stmt_nodes = λ k l. refl;
  signals_more = omega arith;
  signals = λ k l. refl;
}

-- ---- by an expression

abbrev with_expr : Design → Expr → Design
with_expr d x = record d { exprs = d.exprs ++ x ∷ [] }

same_shapes : (d : Design) (x : Expr) → shapes (with_expr d x) ≡ shapes d
unfolding circuit_of
same_shapes d x = refl

added_expr : (d : Design) (x : Expr) → CanAddExpr d x → EachLower expr_below (d.exprs ++ x ∷ []) → Added term_at node_term d.exprs (d.exprs ++ x ∷ []) (length d.exprs) x
added_expr d x node low = term_added d.exprs x low (search node.below)

targets_over : (d : Design) (x : Expr) → DraftKeeps d → CanAddExpr d x → EachLower expr_below (d.exprs ++ x ∷ []) → (k : ℕ) → design.target (with_expr d x) k ≡ design.target d k
targets_over d x keep node low k =
    target_kept (length d.exprs) (term_at (d.exprs ++ x ∷ [])) (term_at d.exprs) d.targets k (have_indices d keep) keep.arenas.targets_lower (added_expr d x node low).grows.trees

stmts_over : (d : Design) (x : Expr) → DraftKeeps d → CanAddExpr d x → EachLower expr_below (d.exprs ++ x ∷ []) → (k : ℕ) → design.stmt (with_expr d x) k ≡ design.stmt d k
stmts_over d x keep node low k =
    stmt_kept (length d.exprs) (length d.targets) (term_at (d.exprs ++ x ∷ [])) (term_at d.exprs) (design.target (with_expr d x)) (design.target d) d.stmts k keep.arenas.stmts keep.arenas.stmts_lower
    (added_expr d x node low).grows.trees (λ j l. targets_over d x keep node low j)

pub expr_put : (d : Design) (x : Expr) → DraftKeeps d → CanAddExpr d x → EachLower expr_below (d.exprs ++ x ∷ []) → ExprPut d (record d { exprs = d.exprs ++ x ∷ [] }) x (length d.exprs)
expr_put d x keep node low =
    let added = added_expr d x node low in
    record {
      is = refl;
      place = refl;
      tree = added.is;
      stays = record {
        exprs = added.grows.longer;
        targets = omega arith;
        stmts = omega arith;
        terms = added.grows.trees;
        target_trees = λ k l. targets_over d x keep node low k;
        stmt_trees = λ k l. stmts_over d x keep node low k;
        stmt_nodes = λ k l. refl;
        signals_more = omega arith;
        signals = λ k l. refl;
      };
    }

-- the shapes at the old places
same_sizes : (d : Design) (x : Expr) → CanAddExpr d x → EachLower expr_below (d.exprs ++ x ∷ []) → SameShapes (shapes d) (shapes d) d.exprs (d.exprs ++ x ∷ []) (length d.exprs)
same_sizes d x node low k l = ap (shape_of (shapes d)) ((added_expr d x node low).grows.trees k l)

new_index : (d : Design) (x : Expr) → CanAddExpr d x → EachLower expr_below (d.exprs ++ x ∷ []) → HasPlainIndex (shapes d) (d.exprs ++ x ∷ []) x
new_index d x node low =
    let there = each_child (λ j. j < length d.exprs) (length d.exprs) x (λ j l. l) (search node.below) in
    index_kept (shapes d) (shapes d) (length d.exprs) d.exprs (d.exprs ++ x ∷ []) x (same_sizes d x node low) there node.index

branches_wider : (n m : ℕ) (bs : List Branch) → n ≤ m → BranchesStand n bs → BranchesStand m bs
branches_wider n m [] l h = tt
branches_wider n m (b ∷ bs) l h = (omega (arith, h.0), branches_wider n m bs l h.1)

stmt_wider : (n m p q : ℕ) (x : Stmt) → n ≤ p → m ≤ q → StmtStands n m x → StmtStands p q x
stmt_wider n m p q (stmt.Assign target value line) l g h = (omega (arith, h.0), omega (arith, h.1))
stmt_wider n m p q (stmt.If branches rest line) l g h = branches_wider n p branches l h
stmt_wider n m p q (stmt.Case on arms rest line) l g h = omega arith

pub expr_keeps : (d : Design) (x : Expr) → DraftKeeps d → CanAddExpr d x → EachLower expr_below (d.exprs ++ x ∷ []) → DraftKeeps (record d { exprs = d.exprs ++ x ∷ [] })
unfolding circuit_of
expr_keeps d x keep node low =
    let added = added_expr d x node low in
    record {
      arenas = record {
        exprs_lower = low;
        targets_lower = keep.arenas.targets_lower;
        stmts_lower = keep.arenas.stmts_lower;
        shaped = places_more (λ k. fault_of (shapes d) (design.term (with_expr d x) k) ≡ None) (length d.exprs) (length (d.exprs ++ x ∷ [])) (length_push d.exprs x)
            (λ k l. ap (fault_of (shapes d)) (added.grows.trees k l) ∙ keep.arenas.shaped k l)
            (ap (fault_of (shapes d)) added.is ∙ node.shaped);
        operands = each_more TakesOperands d.exprs x keep.arenas.operands node.operands;
        parts = each_more HasParts d.exprs x keep.arenas.parts node.parts;
        named = each_more (NamesThere (length d.signals) d.memories) d.exprs x keep.arenas.named node.named;
        indices = each_more (HasPlainIndex (shapes d) (d.exprs ++ x ∷ [])) d.exprs x
            (indices_kept (shapes d) (shapes d) d.exprs (d.exprs ++ x ∷ []) keep.arenas.exprs_lower (same_sizes d x node low) keep.arenas.indices)
            (new_index d x node low);
        targets = λ k t e.
            stands_kept (shapes d) (shapes d) (length d.signals) (length d.signals) d.exprs (d.exprs ++ x ∷ []) t (omega arith) added.grows.longer (λ y l. refl) (same_sizes d x node low) (keep.arenas.targets k t e);
        target_bits = λ k l.
            let e : tree.target_bits (shapes d) (design.target (with_expr d x) k) ≡ tree.target_bits (shapes d) (design.target d k) = ap (tree.target_bits (shapes d)) (targets_over d x keep node low k) in
            omega (arith, e, keep.arenas.target_bits k l);
        stmts = λ k s e. stmt_wider (length d.exprs) (length d.targets) (length (d.exprs ++ x ∷ [])) (length d.targets) s (omega (arith, length_push d.exprs x)) (omega arith) (keep.arenas.stmts k s e);
      };
      signals = keep.signals;
      memories = keep.memories;
    }

-- ---- by a target

abbrev with_target : Design → Target → Design
with_target d x = record d { targets = d.targets ++ x ∷ [] }

added_target : (d : Design) (x : Target) → CanAddTarget d x → EachLower target_below (d.targets ++ x ∷ []) → Added (target_at (term_at d.exprs)) (node_target (term_at d.exprs)) d.targets (d.targets ++ x ∷ []) (length d.targets) x
added_target d x node low = target_added (term_at d.exprs) d.targets x low (search node.below)

stmts_on : (d : Design) (x : Target) → DraftKeeps d → CanAddTarget d x → EachLower target_below (d.targets ++ x ∷ []) → (k : ℕ) → design.stmt (with_target d x) k ≡ design.stmt d k
stmts_on d x keep node low k =
    stmt_kept (length d.exprs) (length d.targets) (term_at d.exprs) (term_at d.exprs) (design.target (with_target d x)) (design.target d) d.stmts k keep.arenas.stmts keep.arenas.stmts_lower
    (λ j l. refl) (added_target d x node low).grows.trees

pub target_put : (d : Design) (x : Target) → DraftKeeps d → CanAddTarget d x → EachLower target_below (d.targets ++ x ∷ []) → TargetPut d (record d { targets = d.targets ++ x ∷ [] }) x (length d.targets)
target_put d x keep node low =
    let added = added_target d x node low in
    record {
      is = refl;
      place = refl;
      tree = added.is;
      stays = record {
        exprs = omega arith;
        targets = added.grows.longer;
        stmts = omega arith;
        terms = λ k l. refl;
        target_trees = added.grows.trees;
        stmt_trees = λ k l. stmts_on d x keep node low k;
        stmt_nodes = λ k l. refl;
        signals_more = omega arith;
        signals = λ k l. refl;
      };
    }

pub target_keeps : (d : Design) (x : Target) → DraftKeeps d → CanAddTarget d x → EachLower target_below (d.targets ++ x ∷ []) → DraftKeeps (record d { targets = d.targets ++ x ∷ [] })
unfolding circuit_of
target_keeps d x keep node low =
    let added = added_target d x node low in
    record {
      arenas = record {
        exprs_lower = keep.arenas.exprs_lower;
        targets_lower = low;
        stmts_lower = keep.arenas.stmts_lower;
        shaped = keep.arenas.shaped;
        operands = keep.arenas.operands;
        parts = keep.arenas.parts;
        named = keep.arenas.named;
        indices = keep.arenas.indices;
        targets = each_more (TargetStands (shapes d) (length d.signals) d.exprs) d.targets x keep.arenas.targets node.stands;
        target_bits = places_more (λ k. tree.target_bits (shapes d) (design.target (with_target d x) k) ≤ 127) (length d.targets) (length (d.targets ++ x ∷ [])) (length_push d.targets x)
            (λ k l. subst (λ (t : tree.Target). tree.target_bits (shapes d) t ≤ 127) (sym (added.grows.trees k l)) (keep.arenas.target_bits k l))
            (subst (λ (t : tree.Target). tree.target_bits (shapes d) t ≤ 127) (sym added.is) node.bits);
        stmts = λ k s e. stmt_wider (length d.exprs) (length d.targets) (length d.exprs) (length (d.targets ++ x ∷ [])) s (omega arith) (omega (arith, length_push d.targets x)) (keep.arenas.stmts k s e);
      };
      signals = keep.signals;
      memories = keep.memories;
    }

-- ---- by a statement

added_stmt : (d : Design) (x : Stmt) → CanAddStmt d x → EachLower stmt_below (d.stmts ++ x ∷ []) → Added (stmt_at (term_at d.exprs) (design.target d)) (node_stmt (term_at d.exprs) (design.target d)) d.stmts (d.stmts ++ x ∷ []) (length d.stmts) x
added_stmt d x node low = stmt_added (term_at d.exprs) (design.target d) d.stmts x low (search node.below)

pub stmt_put : (d : Design) (x : Stmt) → DraftKeeps d → CanAddStmt d x → EachLower stmt_below (d.stmts ++ x ∷ []) → StmtPut d (record d { stmts = d.stmts ++ x ∷ [] }) x (length d.stmts)
stmt_put d x keep node low =
    let added = added_stmt d x node low in
    record {
      is = refl;
      place = refl;
      tree = added.is;
      stays = record {
        exprs = omega arith;
        targets = omega arith;
        stmts = added.grows.longer;
        terms = λ k l. refl;
        target_trees = λ k l. refl;
        stmt_trees = added.grows.trees;
        stmt_nodes = added.grows.nodes;
        signals_more = omega arith;
        signals = λ k l. refl;
      };
    }

pub stmt_keeps : (d : Design) (x : Stmt) → DraftKeeps d → CanAddStmt d x → EachLower stmt_below (d.stmts ++ x ∷ []) → DraftKeeps (record d { stmts = d.stmts ++ x ∷ [] })
unfolding circuit_of
stmt_keeps d x keep node low = record {
  arenas = record {
    exprs_lower = keep.arenas.exprs_lower;
    targets_lower = keep.arenas.targets_lower;
    stmts_lower = low;
    shaped = keep.arenas.shaped;
    operands = keep.arenas.operands;
    parts = keep.arenas.parts;
    named = keep.arenas.named;
    indices = keep.arenas.indices;
    targets = keep.arenas.targets;
    target_bits = keep.arenas.target_bits;
    stmts = each_more (StmtStands (length d.exprs) (length d.targets)) d.stmts x keep.arenas.stmts node.stands;
  };
  signals = keep.signals;
  memories = keep.memories;
}

-- ---- the signals, memories and ports

abbrev over : Design → List Signal → List Memory → List Port → Design
over d ss ms qs = record d { signals = ss; memories = ms; ports = qs }

stays_over : (d : Design) (ss : List Signal) (ms : List Memory) (qs : List Port) → Begins d.signals ss → Stays d (over d ss ms qs)
stays_over d ss ms qs f = record {
  exprs = omega arith;
  targets = omega arith;
  stmts = omega arith;
  terms = λ k l. refl;
  target_trees = λ k l. refl;
  stmt_trees = λ k l. refl;
  stmt_nodes = λ k l. refl;
  signals_more = f.0;
  signals = f.1;
}

parts_over : (d : Design) (ss : List Signal) (ms : List Memory) (qs : List Port) → DraftKeeps d → IsWider d (over d ss ms qs) → Begins d.signals ss → Begins d.memories ms → Begins d.ports qs → PartsStay d (over d ss ms qs)
parts_over d ss ms qs keep w f g h = parts_stay d (over d ss ms qs) w keep.arenas (stays_over d ss ms qs f) g h

-- ---- by a signal

abbrev with_signal : Design → Signal → Design
with_signal d x = record d { signals = d.signals ++ x ∷ [] }

pub signal_put : (d : Design) (x : Signal) → IsDraft d → SignalPut d (record d { signals = d.signals ++ x ∷ [] }) x (length d.signals)
signal_put d x draft = record {
  is = refl;
  place = refl;
  stays = stays_over d (d.signals ++ x ∷ []) d.memories d.ports (begins_more d.signals x);
  parts = parts_over d (d.signals ++ x ∷ []) d.memories d.ports draft.keeps (wider_signal d x) (begins_more d.signals x) (begins_same d.memories) (begins_same d.ports);
}

pub signal_draft : (d : Design) (x : Signal) → IsDraft d → IsSignal x → IsDraft (record d { signals = d.signals ++ x ∷ [] })
signal_draft d x draft h =
    let w = wider_signal d x in
    record {
      keeps = record {
        arenas = arenas_wider (shapes d) (shapes (with_signal d x)) (length d.signals) (length (d.signals ++ x ∷ [])) d.memories d.memories d.exprs d.targets d.stmts w.arenas draft.keeps.arenas;
        signals = one_of IsSignal d.signals x draft.keeps.signals h;
        memories = draft.keeps.memories;
      };
      ports = ports_wider d (with_signal d x) d.ports w draft.ports;
    }

-- ---- by a memory

abbrev with_memory : Design → Memory → Design
with_memory d x = record d { memories = d.memories ++ x ∷ [] }

pub memory_put : (d : Design) (x : Memory) → IsDraft d → MemoryPut d (record d { memories = d.memories ++ x ∷ [] }) x (length d.memories)
memory_put d x draft = record {
  is = refl;
  place = refl;
  stays = stays_over d d.signals (d.memories ++ x ∷ []) d.ports (begins_same d.signals);
  parts = parts_over d d.signals (d.memories ++ x ∷ []) d.ports draft.keeps (wider_memory d x) (begins_same d.signals) (begins_more d.memories x) (begins_same d.ports);
}

pub memory_draft : (d : Design) (x : Memory) → IsDraft d → IsMemory x → IsDraft (record d { memories = d.memories ++ x ∷ [] })
memory_draft d x draft h =
    let w = wider_memory d x in
    record {
      keeps = record {
        arenas = arenas_wider (shapes d) (shapes (with_memory d x)) (length d.signals) (length d.signals) d.memories (d.memories ++ x ∷ []) d.exprs d.targets d.stmts w.arenas draft.keeps.arenas;
        signals = draft.keeps.signals;
        memories = one_of IsMemory d.memories x draft.keeps.memories h;
      };
      ports = ports_wider d (with_memory d x) d.ports w draft.ports;
    }

-- ---- by a port

abbrev with_port : Design → Port → Design
with_port d q = record d { ports = d.ports ++ q ∷ [] }

pub port_put : (d : Design) (q : Port) → IsDraft d → PortPut d (record d { ports = d.ports ++ q ∷ [] }) q (length d.ports)
port_put d q draft = record {
  is = refl;
  place = refl;
  stays = stays_over d d.signals d.memories (d.ports ++ q ∷ []) (begins_same d.signals);
  parts = parts_over d d.signals d.memories (d.ports ++ q ∷ []) draft.keeps (wider_same d (with_port d q) refl refl) (begins_same d.signals) (begins_same d.memories) (begins_more d.ports q);
}

pub port_draft : (d : Design) (q : Port) → IsDraft d → IsDraftPort d q → IsDraft (record d { ports = d.ports ++ q ∷ [] })
unfolding circuit_of
port_draft d q draft h = record {
  keeps = record { arenas = draft.keeps.arenas; signals = draft.keeps.signals; memories = draft.keeps.memories };
  ports = ports_wider d (with_port d q) (d.ports ++ q ∷ []) (wider_same d (with_port d q) refl refl) (one_of (IsDraftPort d) d.ports q draft.ports h);
}

-- ---- drafts

-- a draft with other arenas keeps its ports
draft_by : (d e : Design) → e.signals ≡ d.signals → e.memories ≡ d.memories → e.ports ≡ d.ports → IsDraft d → DraftKeeps e → IsDraft e
draft_by d e p q r draft keep = record {
  keeps = keep;
  ports = subst (λ (qs : List Port). EachOf (IsDraftPort e) qs) (sym r) (ports_wider d e d.ports (wider_same d e p q) draft.ports);
}

pub expr_draft : (d : Design) (x : Expr) → IsDraft d → CanAddExpr d x → EachLower expr_below (d.exprs ++ x ∷ []) → IsDraft (record d { exprs = d.exprs ++ x ∷ [] })
expr_draft d x draft node low = draft_by d (record d { exprs = d.exprs ++ x ∷ [] }) refl refl refl draft (expr_keeps d x draft.keeps node low)

pub target_draft : (d : Design) (x : Target) → IsDraft d → CanAddTarget d x → EachLower target_below (d.targets ++ x ∷ []) → IsDraft (record d { targets = d.targets ++ x ∷ [] })
target_draft d x draft node low = draft_by d (record d { targets = d.targets ++ x ∷ [] }) refl refl refl draft (target_keeps d x draft.keeps node low)

pub stmt_draft : (d : Design) (x : Stmt) → IsDraft d → CanAddStmt d x → EachLower stmt_below (d.stmts ++ x ∷ []) → IsDraft (record d { stmts = d.stmts ++ x ∷ [] })
stmt_draft d x draft node low = draft_by d (record d { stmts = d.stmts ++ x ∷ [] }) refl refl refl draft (stmt_keeps d x draft.keeps node low)

-- ---- the whole

abbrev ended : Design → List StmtId → List SyncPart → List Domain → List Port → List SigId → Design
ended d comb sync domains ports ios = record d { comb = comb; sync = sync; domains = domains; ports = ports; ios = ios }

-- a draft whose lists and ports stand keeps what designs keep
pub ends : (d : Design) (comb : List StmtId) (sync : List SyncPart) (domains : List Domain) (ports : List Port) (ios : List SigId) → IsDraft d → EachOf (IsPort (ended d comb sync domains ports ios)) ports
    → ListsStand (ended d comb sync domains ports ios) → Keeps (ended d comb sync domains ports ios)
unfolding circuit_of
ends d comb sync domains ports ios draft stand lists = record {
  arenas = draft.keeps.arenas;
  signals = draft.keeps.signals;
  memories = draft.keeps.memories;
  ports = stand;
  comb = lists.comb;
  sync = lists.sync;
  domains = lists.domains;
  domains_most = lists.domains_most;
  domains_distinct = lists.domains_distinct;
  ios = lists.ios;
}

-- so do its own ports, where their domains are there
pub ends_own : (d : Design) (comb : List StmtId) (sync : List SyncPart) (domains : List Domain) (ios : List SigId) → IsDraft d → HaveDomains (length domains) d.ports
    → ListsStand (ended d comb sync domains d.ports ios) → Keeps (ended d comb sync domains d.ports ios)
ends_own d comb sync domains ios draft have lists =
    let e = ended d comb sync domains d.ports ios in
    ends d comb sync domains d.ports ios draft (ports_stand e d.ports (ports_wider d e d.ports (wider_same d e refl refl) draft.ports) have) lists

-- ---- the node at a place

pub term_is : (d : Design) (k : ℕ) (x : Expr) → EachLower expr_below d.exprs → slice_get d.exprs k ≡ Some x → design.term d k ≡ node_term (design.term d) x
term_is d k x low e = term_at-is d.exprs low k x e

pub target_is : (d : Design) (k : ℕ) (x : Target) → EachLower target_below d.targets → slice_get d.targets k ≡ Some x → design.target d k ≡ node_target (design.term d) (design.target d) x
target_is d k x low e = target_at-is (design.term d) d.targets low k x e

pub target_there : (d : Design) (k : ℕ) (x : Target) → DraftKeeps d → slice_get d.targets k ≡ Some x → TargetStands (shapes d) (length d.signals) d.exprs x
target_there d k x keep e = keep.arenas.targets k x e

pub stmt_is : (d : Design) (k : ℕ) (x : Stmt) → EachLower stmt_below d.stmts → slice_get d.stmts k ≡ Some x → design.stmt d k ≡ node_stmt (design.term d) (design.target d) (design.stmt d) x
stmt_is d k x low e = stmt_at-is (design.term d) (design.target d) d.stmts low k x e

pub stmt_there : (d : Design) (k : ℕ) (x : Stmt) → DraftKeeps d → slice_get d.stmts k ≡ Some x → StmtStands (length d.exprs) (length d.targets) x
stmt_there d k x keep e = keep.arenas.stmts k x e

-- ---- growth in several steps

pub stays_then : (x y z : Design) → Stays x y → Stays y z → Stays x z
stays_then x y z g h = record {
  exprs = omega (arith, g.exprs, h.exprs);
  targets = omega (arith, g.targets, h.targets);
  stmts = omega (arith, g.stmts, h.stmts);
  terms = λ k l. h.terms k (omega (arith, g.exprs)) ∙ g.terms k l;
  target_trees = λ k l. h.target_trees k (omega (arith, g.targets)) ∙ g.target_trees k l;
  stmt_trees = λ k l. h.stmt_trees k (omega (arith, g.stmts)) ∙ g.stmt_trees k l;
  stmt_nodes = λ k l. h.stmt_nodes k (omega (arith, g.stmts)) ∙ g.stmt_nodes k l;
  signals_more = omega (arith, g.signals_more, h.signals_more);
  signals = λ k l. h.signals k (omega (arith, l, g.signals_more)) ∙ g.signals k l;
}

-- ---- signals

draft_narrow : (ss : List Signal) → EachOf IsSignal ss → (x : ℕ) → IsSmall (slice_index_or (map made_of ss) x nothing).shape
draft_narrow [] h x = record { some = omega arith; most = omega arith }
draft_narrow (s ∷ ss) h zero = record { some = h.0.some; most = omega (arith, h.0.most) }
draft_narrow (s ∷ ss) h (suc x) = draft_narrow ss h.1 x

-- a signal is small, also one that the draft doesn't have
pub draft_small : (d : Design) → DraftKeeps d → (x : ℕ) → IsSmall (shapes d x)
unfolding circuit_of
draft_small d keep x = draft_narrow d.signals keep.signals x
