-- Designs whose signals take the inverse of one input: what is added can be added, and the whole can be written.
use Rattle.std.proofs.Common.{◌≡◌, ℕ, zero, suc, ◌+◌, ◌<◌, ◌≤◌, Bool, true, false, ◌&&◌, ◌||◌, List, [], ◌∷◌, ◌++◌, length, refl, sym, ap, subst, ◌∙◌, arith, length-append, lt-ltb, inl, inr, nat_eq, nat_lt}
use Rattle.std.specs.Prelude.{max, pos}
use Rattle.std.proofs.lemmas.Nat.{pow_pos}
use Rattle.lx_num.specs.Ints.{unsigned}
use Rattle.lx_num.proofs.Ranges.{fits_pos}
use Rattle.std.proofs.lemmas.Bool.{and_parts, and_from, or_cases, eqb-true}
use Rattle.std.proofs.lemmas.List.{length_push}
use Rattle.lx_tables.specs.declared.operators.Op.TheVariants as op
use Rattle.lx_circuit.specs.Places.{Place, At, Word, Kept, is_at}
use Rattle.lx_circuit.specs.Terms as term
use Rattle.lx_circuit.specs.Terms.{Term}
use Rattle.lx_circuit.specs.Shapes.{fault_of}
use Rattle.lx_circuit.specs.Statements as tree
use Rattle.lx_circuit.specs.Statements.{drives_block}
use Rattle.lx_circuit.specs.Circuit as circuit
use Rattle.lx_circuit.specs.Circuit.{Circuit, Role, role}
use Rattle.lx_circuit.specs.Reads.{HasOrder, reads_block, role_reads}
use Rattle.lx_vtext.specs.Tree.{Name}
use Rattle.lx_fhdl.specs.Below.{ExprId, StmtId, TargetId, all_stmts_below}
use Rattle.lx_fhdl.specs.Designs as design
use Rattle.lx_fhdl.specs.Designs.{block, circuit_of, shapes}
use Rattle.lx_fhdl.specs.Drafts.{CanAddExpr, CanAddStmt, CanAddTarget, DraftKeeps, ExprPut, StmtPut, TargetPut, Stays, started}
use Rattle.lx_fhdl.specs.Keeping.{EachOf, IsMemory, IsSignal, Keeps, block_depth}
use Rattle.lx_fhdl.specs.Nodes.{IsSmall}
use Rattle.lx_fhdl.specs.declared.exprs.Expr.TheVariants as expr
use Rattle.lx_fhdl.specs.declared.exprs.SigId.{SigId}
use Rattle.lx_fhdl.specs.declared.stmts.Target.TheVariants as target
use Rattle.lx_fhdl.specs.declared.stmts.Branch.{Branch}
use Rattle.lx_fhdl.specs.declared.stmts.Stmt.TheVariants as stmt
use Rattle.lx_fhdl.specs.declared.design.Signal.{Signal}
use Rattle.lx_fhdl.specs.declared.design.Memory.{Memory}
use Rattle.lx_fhdl.specs.declared.design.SyncPart.{SyncPart}
use Rattle.lx_fhdl.specs.declared.design.Domain.{Domain}
use Rattle.lx_fhdl.specs.declared.design.Port.{Port}
use Rattle.lx_fhdl.specs.declared.design.Design.{Design}
use Rattle.lx_fhdl.proofs.Drafts.{draft_small, stays_same, stays_then}
use Rattle.lx_fhdl.proofs.Operators.{narrow}
use Rattle.lx_emission.specs.Naming.{NamesFit}
use Rattle.lx_emission.specs.Emits.{MemoriesFit, PortsFit}
use Rattle.lx_emission.proofs.Instances.{order_by}
use Rattle.lx_write.specs.Writes.{CanBeWritten}
use Rattle.lx_bench.specs.Fans.{AreLines, AreNames, AreSignals, FanPut, Grew, IsFan, IsInput, IsLine, IsMade, LinePut, LinesPut, inverse}

-- ---- signals

signals_each_more : (ss : List Signal) (s : Signal) → EachOf IsSignal ss → IsSignal s → EachOf IsSignal (ss ++ s ∷ [])
signals_each_more [] s h g = (g, tt)
signals_each_more (x ∷ xs) s h g = (h.0, signals_each_more xs s h.1 g)

pub signals_none : AreSignals [] 0
signals_none = record { long = refl; each = tt }

pub signals_more : (ss : List Signal) (s : Signal) (n : ℕ) → AreSignals ss n → IsSignal s → AreSignals (ss ++ s ∷ []) (n + 1)
signals_more ss s n h g = record { long = omega (arith, length-append ss (s ∷ []), h.long); each = signals_each_more ss s h.each g }

pub signal_is : (s : Signal) → s.shape ≡ unsigned 8 → s.reset ≡ pos 0 → s.path ≡ [] → IsSignal s
signal_is s shape reset path = record {
  some = rw shape (omega arith);
  most = rw shape (omega arith);
  reset = rw (shape, reset) (fits_pos 8 0 (pow_pos 8));
  path = rw path refl;
}

-- ---- growth

pub grew_same : (d : Design) → Grew d d
grew_same d = record { signals = refl; memories = refl; stays = stays_same d }

pub grew_then : (x y z : Design) → Grew x y → Grew y z → Grew x z
grew_then x y z g h = record { signals = h.signals ∙ g.signals; memories = h.memories ∙ g.memories; stays = stays_then x y z g.stays h.stays }

-- ---- what can be added

pub can_add_input : (d : Design) (x : SigId) → x.0 < length d.signals → CanAddExpr d (expr.Sig x)
can_add_input d x l = record { below = refl; shaped = refl; operands = tt; parts = tt; named = l; index = tt }

pub can_add_inverse : (d : Design) (i : ExprId) → DraftKeeps d → IsInput d i.place → CanAddExpr d (expr.Unary op.Not i)
can_add_inverse d i keep input = record {
  below = lt-ltb i.place (length d.exprs) input.there;
  shaped = rw input.tree (narrow (shapes d 0).bits (draft_small d keep 0).most);
  operands = refl;
  parts = tt;
  named = tt;
  index = tt;
}

pub can_add_target : (d : Design) (x : SigId) → DraftKeeps d → x.0 < length d.signals → CanAddTarget d (target.Whole x)
can_add_target d x keep l = record { below = refl; stands = l; bits = (draft_small d keep x.0).most }

pub can_add_line : (d : Design) (t : TargetId) (e : ExprId) (n : ℕ) → t.place < length d.targets → e.place < length d.exprs → CanAddStmt d (stmt.Assign t e n)
can_add_line d t e n l m = record { below = refl; stands = (l, m) }

-- ---- a line

pub line_put : (a b c d : Design) (i e : ExprId) (t : TargetId) (x : SigId) (n k : ℕ) → IsInput a i.place → 1 ≤ x.0
    → ExprPut a b (expr.Unary op.Not i) e.place → TargetPut b c (target.Whole x) t.place → StmtPut c d (stmt.Assign t e n) k → LinePut a d k
line_put a b c d i e t x n k input other p q r =
    let there : e.place < length b.exprs = omega (arith, p.place, ap (λ (y : Design). length y.exprs) p.is, length_push a.exprs (expr.Unary op.Not i)) in
    let value : design.term c e.place ≡ term.Unary op.Not (term.Signal 0) = q.stays.terms e.place there ∙ p.tree ∙ ap (term.Unary op.Not) input.tree in
    record {
      grew = record {
        signals = ap (λ (y : Design). y.signals) r.is ∙ ap (λ (y : Design). y.signals) q.is ∙ ap (λ (y : Design). y.signals) p.is;
        memories = ap (λ (y : Design). y.memories) r.is ∙ ap (λ (y : Design). y.memories) q.is ∙ ap (λ (y : Design). y.memories) p.is;
        stays = stays_then a b d p.stays (stays_then b c d q.stays r.stays);
      };
      line = record {
        there = omega (arith, r.place, ap (λ (y : Design). length y.stmts) r.is, length_push c.stmts (stmt.Assign t e n));
        signal = x.0;
        other = other;
        tree = r.tree ∙ ap (λ (u : tree.Target). tree.Assign u (design.term c e.place)) q.tree ∙ ap (λ (u : Term). tree.Assign (tree.Whole x.0) u) value;
      };
    }

pub input_stays : (a b : Design) (k : ℕ) → Grew a b → IsInput a k → IsInput b k
input_stays a b k g h = record { there = omega (arith, h.there, g.stays.exprs); tree = g.stays.terms k h.there ∙ h.tree }

line_stays : (a b : Design) (k : ℕ) → Grew a b → IsLine a k → IsLine b k
line_stays a b k g h = record { there = omega (arith, h.there, g.stays.stmts); signal = h.signal; other = h.other; tree = g.stays.stmt_trees k h.there ∙ h.tree }

lines_stay : (a b : Design) (ids : List StmtId) → Grew a b → AreLines a ids → AreLines b ids
lines_stay a b [] g h = tt
lines_stay a b (i ∷ is) g h = (line_stays a b i.place g h.0, lines_stay a b is g h.1)

line_more : (d : Design) (ids : List StmtId) (i : StmtId) → AreLines d ids → IsLine d i.place → AreLines d (ids ++ i ∷ [])
line_more d [] i h g = (g, tt)
line_more d (j ∷ js) i h g = (h.0, line_more d js i h.1 g)

pub lines_none : (d : Design) → LinesPut d d []
lines_none d = record { grew = grew_same d; lines = tt }

pub lines_more : (a b c : Design) (ids : List StmtId) (i : StmtId) → LinesPut a b ids → LinePut b c i.place → LinesPut a c (ids ++ i ∷ [])
lines_more a b c ids i h g = record { grew = grew_then a b c h.grew g.grew; lines = line_more c ids i (lines_stay b c ids g.grew h.lines) g.line }

-- ---- what they read

-- the input alone, for other signals
record ReadsInput (b : tree.Block) : Type 0 where
  reads : (x : ℕ) (y : Place) → reads_block x y b ≡ true → (y ≡ At 0) × (1 ≤ x)
  drives : (x : ℕ) → drives_block x b ≡ true → 1 ≤ x

is_input : (y : Place) → is_at 0 y ≡ true → y ≡ At 0
is_input (At x) h = ap At (sym (eqb-true 0 x h))
is_input (Word m k) h = absurd cc
is_input (Kept j) h = absurd cc

inverse_reads : (x s : ℕ) (y : Place) (b : tree.Block) → 1 ≤ s → ReadsInput b → reads_block x y (tree.Then (inverse s) b) ≡ true → (y ≡ At 0) × (1 ≤ x)
inverse_reads x s y b other rest h = elim (or_cases (nat_eq s x && (is_at 0 y || false)) (reads_block x y b) h) [
  | inl here ↦
      let p = and_parts (nat_eq s x) (is_at 0 y || false) here in
      let same : s ≡ x = eqb-true s x p.0 in
      (elim (or_cases (is_at 0 y) false p.1) [ inl q ↦ is_input y q | inr q ↦ absurd cc ], omega arith)
  | inr later ↦ rest.reads x y later
]

inverse_drives : (x s : ℕ) (b : tree.Block) → 1 ≤ s → ReadsInput b → drives_block x (tree.Then (inverse s) b) ≡ true → 1 ≤ x
inverse_drives x s b other rest h = elim (or_cases (nat_eq s x) (drives_block x b) h) [
  | inl here ↦ let same : s ≡ x = eqb-true s x here in omega arith
  | inr later ↦ rest.drives x later
]

lines_read : (d : Design) (ids : List StmtId) → AreLines d ids → ReadsInput (block d ids)
lines_read d [] h = record { reads = λ x y e. absurd cc; drives = λ x e. absurd cc }
lines_read d (i ∷ is) h =
    let rest = lines_read d is h.1 in
    let b = block d is in
    subst (λ (s : tree.Stmt). ReadsInput (tree.Then s b)) (sym h.0.tree)
    (record { reads = λ x y e. inverse_reads x h.0.signal y b h.0.other rest e; drives = λ x e. inverse_drives x h.0.signal b h.0.other rest e })

lines_there : (d : Design) (ids : List StmtId) → AreLines d ids → all_stmts_below (length d.stmts) ids ≡ true
lines_there d [] h = refl
lines_there d (i ∷ is) h = and_from (nat_lt i.place (length d.stmts)) (all_stmts_below (length d.stmts) is) (lt-ltb i.place (length d.stmts) h.0.there) (lines_there d is h.1)

lines_flat : (d : Design) (ids : List StmtId) → AreLines d ids → block_depth (block d ids) ≤ 1
lines_flat d [] h = omega arith
lines_flat d (i ∷ is) h =
    subst (λ (s : tree.Stmt). block_depth (tree.Then s (block d is)) ≤ 1) (sym h.0.tree) (omega (arith, lines_flat d is h.1))

pub lines_fan : (a b : Design) (ids : List StmtId) → LinesPut a b ids → FanPut a b ids
lines_fan a b ids h = record {
  grew = h.grew;
  fan = record { there = lines_there b ids h.lines; depth = omega (arith, lines_flat b ids h.lines); reads = (lines_read b ids h.lines).reads };
}

-- ---- under a condition

if_reads : (x : ℕ) (y : Place) (b : tree.Block) → ReadsInput b → reads_block x y (tree.Then (tree.If (tree.Branch (term.Signal 0) b tree.NoBranch) tree.Done) tree.Done) ≡ true → (y ≡ At 0) × (1 ≤ x)
if_reads x y b body h =
    let all = (is_at 0 y && (drives_block x b || false)) || (reads_block x y b || false) in
    elim (or_cases all false h) [
      | inl some ↦ elim (or_cases (is_at 0 y && (drives_block x b || false)) (reads_block x y b || false) some) [
        | inl cond ↦
            let p = and_parts (is_at 0 y) (drives_block x b || false) cond in
            (is_input y p.0, elim (or_cases (drives_block x b) false p.1) [ inl q ↦ body.drives x q | inr q ↦ absurd cc ])
        | inr inside ↦ elim (or_cases (reads_block x y b) false inside) [ inl q ↦ body.reads x y q | inr q ↦ absurd cc ]
      ]
      | inr none ↦ absurd cc
    ]

pub can_add_if : (d : Design) (i : ExprId) (ids : List StmtId) (n : ℕ) → IsInput d i.place → AreLines d ids → CanAddStmt d (stmt.If (record { cond = i; body = ids } ∷ []) [] n)
can_add_if d i ids n input h = record {
  below = and_from (all_stmts_below (length d.stmts) ids && true) true (and_from (all_stmts_below (length d.stmts) ids) true (lines_there d ids h) refl) refl;
  stands = (input.there, tt);
}

pub if_put : (a b : Design) (i : ExprId) (ids : List StmtId) (n : ℕ) (k : StmtId) → IsInput a i.place → AreLines a ids → StmtPut a b (stmt.If (record { cond = i; body = ids } ∷ []) [] n) k.place → FanPut a b (k ∷ [])
if_put a b i ids n k input h p =
    let node = stmt.If (record { cond = i; body = ids } ∷ []) [] n in
    let there : k.place < length b.stmts = omega (arith, p.place, ap (λ (y : Design). length y.stmts) p.is, length_push a.stmts node) in
    let body = block a ids in
    let is : design.stmt b k.place ≡ tree.If (tree.Branch (term.Signal 0) body tree.NoBranch) tree.Done = p.tree ∙ ap (λ (t : Term). tree.If (tree.Branch t body tree.NoBranch) tree.Done) input.tree in
    record {
      grew = record { signals = ap (λ (y : Design). y.signals) p.is; memories = ap (λ (y : Design). y.memories) p.is; stays = p.stays };
      fan = record {
        there = and_from (nat_lt k.place (length b.stmts)) true (lt-ltb k.place (length b.stmts) there) refl;
        depth = subst (λ (s : tree.Stmt). block_depth (tree.Then s tree.Done) ≤ 2) (sym is) (omega (arith, lines_flat a ids h));
        reads = subst (λ (s : tree.Stmt). (x : ℕ) (y : Place) → reads_block x y (tree.Then s tree.Done) ≡ true → (y ≡ At 0) × (1 ≤ x)) (sym is) (λ x y e. if_reads x y body (lines_read a ids h) e);
      };
    }

pub fan_later : (a b c : Design) (ids : List StmtId) → Grew a b → FanPut b c ids → FanPut a c ids
fan_later a b c ids g h = record { grew = grew_then a b c g h.grew; fan = h.fan }

-- ---- the whole

pub input_put : (a b : Design) (x : SigId) (k : ℕ) → x.0 ≡ 0 → ExprPut a b (expr.Sig x) k → IsInput b k
input_put a b x k first p = record {
  there = omega (arith, p.place, ap (λ (y : Design). length y.exprs) p.is, length_push a.exprs (expr.Sig x));
  tree = p.tree ∙ ap term.Signal first;
}

whole_made : (d : Design) (comb : List StmtId) (x : SigId) (n : ℕ) → DraftKeeps d → IsFan d comb → x.0 < length d.signals → length d.signals ≡ n → d.memories ≡ [] → IsMade (record d { comb = comb; sync = []; domains = []; ports = []; ios = x ∷ [] }) n
unfolding circuit_of
whole_made d comb x n keep fan port long none =
    let e : Design = record d { comb = comb; sync = []; domains = []; ports = []; ios = x ∷ [] } in
    record {
      keeps = record {
        arenas = keep.arenas;
        signals = keep.signals;
        memories = keep.memories;
        ports = tt;
        comb = record { there = fan.there; depth = omega (arith, fan.depth) };
        sync = tt;
        domains = tt;
        domains_most = omega arith;
        domains_distinct = refl;
        ios = (port, tt);
      };
      order = order_by (circuit_of e) tt (λ s y h. let p = fan.reads s (At y) h in let place : At y ≡ At 0 = p.0 in let first : y ≡ 0 = cc in omega (arith, p.1, first));
      ports = record { once = refl; resets = refl };
      memories = record { show_nothing = tt; one_domain = tt };
      long = omega (arith, long, ap (λ (ms : List Memory). length ms) none);
      domains = refl;
    }

pub made : (a b d : Design) (ss : List Signal) (ms : List Memory) (comb : List StmtId) (sync : List SyncPart) (domains : List Domain) (ports : List Port) (ios : List SigId) (x : SigId) (k n : ℕ) → AreSignals ss n → 1 ≤ n → ms ≡ [] → a ≡ started ss ms
    → ExprPut a b (expr.Sig x) k → FanPut b d comb → DraftKeeps d → sync ≡ [] → domains ≡ [] → ports ≡ [] → ios ≡ x ∷ [] → x.0 ≡ 0
    → IsMade (record d { comb = comb; sync = sync; domains = domains; ports = ports; ios = ios }) n
made a b d ss ms comb sync domains ports ios x k n signals some none start p fan keep es ed ep ei first =
    let same : d.signals ≡ ss = fan.grew.signals ∙ ap (λ (y : Design). y.signals) p.is ∙ ap (λ (y : Design). y.signals) start in
    let long : length d.signals ≡ n = ap (λ (zs : List Signal). length zs) same ∙ signals.long in
    rw (es, ed, ep, ei)
    (whole_made d comb x n keep fan.fan (omega (arith, first, long)) long (fan.grew.memories ∙ ap (λ (y : Design). y.memories) p.is ∙ ap (λ (y : Design). y.memories) start ∙ none))

pub can_be_written : (d : Design) (names : List Name) (n : ℕ) → IsMade d n → AreNames names n → CanBeWritten d names
can_be_written d names n h g = record {
  keeps = h.keeps;
  order = h.order;
  named = record { long = g.long ∙ sym h.long; lawful = g.lawful; distinct = g.distinct; clocks = λ k lt. absurd (omega (arith, lt, h.domains)); nodes = g.nodes };
  ports = h.ports;
  memories = h.memories;
}
