-- No net of the module depends on itself: ranks of signals by the design's order, and of nodes between them.
use Rattle.std.proofs.Common.{◌≡◌, ℕ, zero, suc, ◌+◌, ◌*◌, ◌≤◌, ◌<◌, Bool, true, false, cond, max, List, [], ◌∷◌, length, Option, Some, None, refl, sym, ap, subst, ◌∙◌, arith, inl, inr}
use Rattle.std.proofs.Math.Nat.{mul-le-mul_right}
use Rattle.std.proofs.lemmas.Bool.{cases_eq, or_left, and_parts}
use Rattle.std.specs.Prelude.{slice_get, if◌then◌else◌}
use Rattle.lx_circuit.specs.Terms.{Term}
use Rattle.lx_circuit.specs.Statements as tree
use Rattle.lx_circuit.specs.Statements.{drives_block, is_target}
use Rattle.lx_circuit.specs.Circuit as roles
use Rattle.lx_circuit.specs.Circuit.{Role, role}
use Rattle.lx_fhdl.specs.Trees.{term_at}
use Rattle.lx_fhdl.specs.Stmts.{target_at}
use Rattle.lx_fhdl.proofs.StmtTrees.{stmt_at-is}
use Rattle.lx_fhdl.specs.declared.stmts.Stmt.{Stmt}
use Rattle.lx_fhdl.specs.declared.stmts.Stmt.TheVariants as statement
use Rattle.lx_circuit.specs.Reads as circuit
use Rattle.lx_circuit.specs.Places.{At}
use Rattle.lx_circuit.specs.Reads.{HasOrder, reads_block, role_reads}
use Rattle.lx_vtext.specs.Tree.{Name, VModule, EndBlock}
use Rattle.lx_vmeaning.specs.Runs.{Outside, ByAssign, drivers, driver, first_driver}
use Rattle.lx_vmeaning.specs.Loops.{reads, driver_reads, HasNoLoop}
use Rattle.lx_fhdl.specs.Below.{ExprId, TargetId, StmtId}
use Rattle.lx_fhdl.specs.Designs.{term, target, stmt, circuit_of, block}
use Rattle.lx_fhdl.specs.Keeping.{Keeps}
use Rattle.lx_fhdl.specs.Lowered.{IsLowered, is_plain_target, is_for, are_for}
use Rattle.lx_fhdl.specs.declared.design.Design.{Design}
use Rattle.lx_emission.specs.Naming.{net, node_net, clock, memory_name, NamesFit}
use Rattle.lx_emission.specs.Memories.{memory_body, writing_domain}
use Rattle.lx_emission.specs.Nodes.{operand, node_text}
use Rattle.lx_emission.specs.Signals.{Drive, Input, Undriven, CombAssign, CombBlock, Sync, drive, comb_drive, drive_by, own, is_whole, whole_value, single}
use Rattle.lx_emission.proofs.Setting.{IsNetNode, MayRead, driver_by, clocked_drivers, memory_drivers}
use Rattle.lx_emission.proofs.Names.{net_once, node_net_once, net_not_clock, net_not_node, net_not_memory, memory_not_node, clock_not_node}
use Rattle.lx_emission.proofs.Structure.{IsNoSignal, IsNoNode, IsNoClock, IsNoMemory, net_node_within}
use Rattle.lx_emission.proofs.Classes.{Class, OfSignal, OfNode, OfClock, OfMemory, OfNothing, name_classes}
use Rattle.lx_emission.proofs.Reading.{operand_reads, node_text_reads}
use Rattle.lx_emission.proofs.BlockReads.{text_reads, own_reads, plain_is_target}
use Rattle.lx_emission.proofs.Pieces.{own_for}
use Rattle.lx_emission.proofs.Blocks.{comb_own, comb_list}

-- what drives each name of a module
pub record DriversAre (d : Design) (names : List Name) (m : VModule) : Type 0 where
  pub signals : (x : ℕ) → x < length d.signals → drivers m (net names x) ≡ driver_by d names x (drive d x) ∷ []
  pub nodes : (k : ℕ) → IsNetNode d k → drivers m (node_net d.exprs k) ≡ ByAssign (node_text d names k) ∷ []
  pub clocks : (k : ℕ) → k < length d.domains → drivers m (clock d k) ≡ Outside ∷ []
  pub memories : (k : ℕ) → k < length d.memories → drivers m (memory_name d names k) ≡ memory_drivers d names k
  pub none : (n : Name) → IsNoSignal d names n → IsNoNode d n → IsNoClock d n → IsNoMemory d names n → drivers m n ≡ []

-- a block at a clock's rise reads nothing in the same moment
memory_reads : (d : Design) (names : List Name) (j : ℕ) (n : Name) → driver_reads n (first_driver (memory_drivers d names j)) ≡ true → ⊥
memory_reads d names j n = by (writing_domain j (circuit_of d).ports)
  where
    by : (o : Option ℕ) → driver_reads n (first_driver (clocked_drivers d (memory_body d names j) o)) ≡ true → ⊥
    by None e = cc
    by (Some x) e = cc

-- ---- the greatest rank of the signals in an expression

-- one more than the greatest rank of the first n signals that it names
top : (ℕ → ℕ) → Term → ℕ → ℕ
top r t zero = 0
top r t (suc n) = max (if circuit.names (At n) t then suc (r n) else 0) (top r t n)

-- a signal that an expression names has a rank below
below_top : (r : ℕ → ℕ) (t : Term) (n y : ℕ) → y < n → circuit.names (At y) t ≡ true → suc (r y) ≤ top r t n
unfolding top
below_top r t zero y lt e = absurd (omega arith)
below_top r t (suc n) y lt e = elim (cases_eq n y) [
  | inl same ↦
      let here : (if circuit.names (At n) t then suc (r n) else 0) ≡ suc (r y) = ap (λ (i : ℕ). if circuit.names (At i) t then suc (r i) else 0) same ∙ ap (λ b. if b then suc (r y) else 0) e in
      omega (arith, here)
  | inr other ↦ let rest = below_top r t n y (omega (arith, other)) e in omega arith
]

-- and no signal that it names has a higher one
top_below : (r : ℕ → ℕ) (t : Term) (n b : ℕ) → ((y : ℕ) → circuit.names (At y) t ≡ true → suc (r y) ≤ b) → top r t n ≤ b
unfolding top
top_below r t zero b h = omega arith
top_below r t (suc n) b h = both (circuit.names (At n) t) (h n) (top_below r t n b h)
  where
    both : (c : Bool) → (c ≡ true → suc (r n) ≤ b) → top r t n ≤ b → max (if c then suc (r n) else 0) (top r t n) ≤ b
    both true f g = let p = f refl in omega arith
    both false f g = omega arith

-- where one expression names all that another does, its greatest rank is no less
top_grows : (r : ℕ → ℕ) (t u : Term) (n : ℕ) → ((y : ℕ) → circuit.names (At y) t ≡ true → circuit.names (At y) u ≡ true) → top r t n ≤ top r u n
unfolding top
top_grows r t u zero h = omega arith
top_grows r t u (suc n) h = both (circuit.names (At n) t) (circuit.names (At n) u) (h n) (top_grows r t u n h)
  where
    both : (c e : Bool) → (c ≡ true → e ≡ true) → top r t n ≤ top r u n → max (if c then suc (r n) else 0) (top r t n) ≤ max (if e then suc (r n) else 0) (top r u n)
    both true true f g = omega arith
    both true false f g = absurd (let p = f refl in cc)
    both false e f g = omega arith

-- ---- the rank of a name

-- one more than there are nodes: so many ranks lie between two signals'
abbrev room : Design → ℕ
room d = suc (length d.exprs)

abbrev rank_signal : Design → (ℕ → ℕ) → ℕ → ℕ
rank_signal d r x = suc (r x) * room d

abbrev rank_node : Design → (ℕ → ℕ) → ℕ → ℕ
rank_node d r k = top r (term d k) (length d.signals) * room d + suc k

rank_by : (d : Design) (names : List Name) (r : ℕ → ℕ) (n : Name) → Class d names n → ℕ
rank_by d names r n (OfSignal x lt e) = rank_signal d r x
rank_by d names r n (OfNode k is e) = rank_node d r k
rank_by d names r n (OfClock k lt e) = 0
rank_by d names r n (OfMemory k lt e) = 0
rank_by d names r n (OfNothing s k c m) = 0

rank_of : Design → List Name → (ℕ → ℕ) → Name → ℕ
rank_of d names r n = rank_by d names r n (name_classes d names n)

rank_net : (d : Design) (names : List Name) → NamesFit d names → (r : ℕ → ℕ) (x : ℕ) → x < length d.signals → rank_of d names r (net names x) ≡ rank_signal d r x
unfolding rank_by rank_of
rank_net d names fit r x lt = by_class (name_classes d names (net names x))
  where
    by_class : (c : Class d names (net names x)) → rank_by d names r (net names x) c ≡ rank_signal d r x
    by_class (OfSignal y p e) = ap (rank_signal d r) (sym (net_once d names fit x y lt p e))
    by_class (OfNode k is e) = absurd (net_not_node d names fit x _ lt e)
    by_class (OfClock k p e) = absurd (net_not_clock d names fit x k lt p e)
    by_class (OfMemory k p e) = absurd (net_not_memory d names fit x k lt p e)
    by_class (OfNothing s k c m) = absurd (s.each x lt refl)

rank_own : (d : Design) (names : List Name) → Keeps d → NamesFit d names → (r : ℕ → ℕ) (k : ℕ) → IsNetNode d k → rank_of d names r (node_net d.exprs k) ≡ rank_node d r k
unfolding rank_by rank_of
rank_own d names keeps fit r k is = by_class (name_classes d names (node_net d.exprs k))
  where
    by_class : (c : Class d names (node_net d.exprs k)) → rank_by d names r (node_net d.exprs k) c ≡ rank_node d r k
    by_class (OfSignal y p e) = absurd (net_not_node d names fit y _ p (sym e))
    by_class (OfNode j at e) = ap (rank_node d r) (sym (node_net_once d k j is at e))
    by_class (OfClock j p e) = absurd (clock_not_node d keeps j _ p (sym e))
    by_class (OfMemory j p e) = absurd (memory_not_node d names fit j _ p (sym e))
    by_class (OfNothing s j c m) = absurd (j.each k is refl)

-- ---- what is read ranks lower

-- what an expression may read ranks below any bound that lies above its signals and nodes
read_below : (d : Design) (names : List Name) → Keeps d → NamesFit d names → (r : ℕ → ℕ) (bound : ℕ) (t : Term) (n : Name) (b : ℕ) → bound ≤ length d.exprs → top r t (length d.signals) * room d + bound < b
    → MayRead d names bound t n → rank_of d names r n < b
read_below d names keeps fit r bound t n b most h (inl s) =
    let e = ap (rank_of d names r) s.same ∙ rank_net d names fit r s.signal s.within in
    let le = below_top r t (length d.signals) s.signal s.within s.named in
    let room_le = mul-le-mul_right (room d) le in
    omega (arith, e)
read_below d names keeps fit r bound t n b most h (inr s) =
    let e = ap (rank_of d names r) s.same ∙ rank_own d names keeps fit r s.place s.is_node in
    let le = top_grows r (term d s.place) t (length d.signals) s.signals in
    let room_le = mul-le-mul_right (room d) le in
    let below = s.below in
    omega (arith, e)

-- a right side or a condition in the block of x
operand_below : (d : Design) (names : List Name) → Keeps d → NamesFit d names → (r : ℕ → ℕ) (x k : ℕ) (n : Name) → x < length d.signals → k < length d.exprs
    → ((y : ℕ) → circuit.names (At y) (term d k) ≡ true → r y < r x) → reads n (operand d names k) ≡ true → rank_of d names r n < rank_signal d r x
operand_below d names keeps fit r x k n lt within after e =
    let top_le : top r (term d k) (length d.signals) ≤ r x = top_below r (term d k) (length d.signals) (r x) (λ y p. let q = after y p in omega arith) in
    let room_le = mul-le-mul_right (room d) top_le in
    let grown : rank_signal d r x ≡ r x * room d + room d = omega arith in
    read_below d names keeps fit r (suc k) (term d k) n (rank_signal d r x) (omega arith) (omega arith)
    (operand_reads d names keeps k within n e)

-- ---- the list of an assign

-- the right side of a list that is one whole assignment of x
pub record IsRightSide (d : Design) (x : ℕ) (ids : List StmtId) (value : ExprId) : Type 0 where
  pub within : value.place < length d.exprs
  pub signals : (y : ℕ) → circuit.names (At y) (term d value.place) ≡ true → reads_block x (At y) (block d ids) ≡ true

assign_list : (d : Design) (x : ℕ) (value : ExprId) → drive d x ≡ CombAssign value → single d (own d x d.comb) ≡ Some value
unfolding drive
assign_list d x value e = by_role (role (circuit_of d) x) e
  where
    by_single : (o : Option ExprId) → comb_drive (own d x d.comb) o ≡ CombAssign value → o ≡ Some value
    by_single None h = absurd cc
    by_single (Some v) h = cc

    by_role : (r : Role) → drive_by d x r ≡ CombAssign value → single d (own d x d.comb) ≡ Some value
    by_role roles.Input h = absurd cc
    by_role roles.Comb h = by_single (single d (own d x d.comb)) h
    by_role (roles.Sync k) h = absurd cc
    by_role roles.Undriven h = absurd cc
    by_role (roles.Read j) h = absurd cc

assign_reads : (x y : ℕ) (t : tree.Target) (e : Term) → is_plain_target x t ≡ true → circuit.names (At y) e ≡ true → reads_block x (At y) (tree.Then (tree.Assign t e) tree.Done) ≡ true
assign_reads x y t e plain h = rw (plain_is_target x t plain, h) refl

side_of : (d : Design) (x : ℕ) (value v : ExprId) (i : StmtId) (t : TargetId) → Keeps d → v.place < length d.exprs → stmt d i.place ≡ tree.Assign (target d t.place) (term d v.place) → is_for x (stmt d i.place) ≡ true
    → (b : Bool) → cond b (Some v) None ≡ Some value → IsRightSide d x (i ∷ []) value
side_of d x value v i t keeps within is plain false e = absurd cc
side_of d x value v i t keeps within is plain true e =
    let same : v ≡ value = cc in
    subst (λ (u : ExprId). IsRightSide d x (i ∷ []) u) same (record {
      within = within;
      signals = λ y named. subst (λ (a : tree.Stmt). reads_block x (At y) (tree.Then a tree.Done) ≡ true) (sym is) (assign_reads x y (target d t.place) (term d v.place) (subst (λ (a : tree.Stmt). is_for x a ≡ true) is plain) named);
    })

side_at : (d : Design) (x : ℕ) (value : ExprId) (i : StmtId) → Keeps d → is_for x (stmt d i.place) ≡ true → (o : Option Stmt) → slice_get d.stmts i.place ≡ o → whole_value d o ≡ Some value → IsRightSide d x (i ∷ []) value
side_at d x value i keeps plain None there h = absurd cc
side_at d x value i keeps plain (Some (statement.If bs rest line)) there h = absurd cc
side_at d x value i keeps plain (Some (statement.Case on arms rest line)) there h = absurd cc
side_at d x value i keeps plain (Some (statement.Assign t v line)) there h =
    let is = stmt_at-is (term_at d.exprs) (target_at (term_at d.exprs) d.targets) d.stmts keeps.arenas.stmts_lower i.place (statement.Assign t v line) there in
    side_of d x value v i t keeps (keeps.arenas.stmts i.place (statement.Assign t v line) there).1 is plain (is_whole d (slice_get d.targets t.place)) h

side_list : (d : Design) (x : ℕ) (value : ExprId) → Keeps d → (ids : List StmtId) → are_for x (block d ids) ≡ true → single d ids ≡ Some value → IsRightSide d x ids value
side_list d x value keeps [] plain h = absurd cc
side_list d x value keeps (i ∷ []) plain h = side_at d x value i keeps (and_parts (is_for x (stmt d i.place)) true plain).0 (slice_get d.stmts i.place) refl h
side_list d x value keeps (i ∷ (j ∷ is)) plain h = absurd cc

pub assign_side : (d : Design) (x : ℕ) (value : ExprId) → Keeps d → IsLowered d → drive d x ≡ CombAssign value → IsRightSide d x (own d x d.comb) value
assign_side d x value keeps low e = side_list d x value keeps (own d x d.comb) (own_for d x d.comb low.comb) (assign_list d x value e)

-- ---- no net depends on itself

-- the rank of a signal
abbrev signal_rank : (d : Design) → HasOrder (circuit_of d) → ℕ → ℕ
signal_rank d o x = o.rank (At x)

after : (d : Design) (o : HasOrder (circuit_of d)) (x y : ℕ) → reads_block x (At y) (block d (own d x d.comb)) ≡ true → signal_rank d o y < signal_rank d o x
unfolding circuit_of
after d o x y e =
    o.after x (At y) (or_left (reads_block x (At y) (circuit_of d).comb) (role_reads (circuit_of d) (At y) (role (circuit_of d) x)) (own_reads d x (At y) d.comb e))

signal_falls : (d : Design) (names : List Name) → Keeps d → IsLowered d → NamesFit d names → (o : HasOrder (circuit_of d)) (x : ℕ) → x < length d.signals → (n : Name)
    → (g : Drive) → drive d x ≡ g → driver_reads n (driver_by d names x g) ≡ true → rank_of d names (signal_rank d o) n < rank_signal d (signal_rank d o) x
signal_falls d names keeps low fit o x lt n Input e h = absurd cc
signal_falls d names keeps low fit o x lt n Undriven e h = absurd cc
signal_falls d names keeps low fit o x lt n (CombAssign value) e h =
    let side = assign_side d x value keeps low e in
    operand_below d names keeps fit (signal_rank d o) x value.place n lt side.within (λ y p. after d o x y (side.signals y p)) h
signal_falls d names keeps low fit o x lt n (CombBlock ids) e h =
    let plain = comb_own d x ids keeps low e in
    elim (text_reads d names true x keeps ids plain.below plain.plain EndBlock n h) [
      | inl p ↦ absurd cc
      | inr p ↦ operand_below d names keeps fit (signal_rank d o) x p.place n lt p.within (λ y q. after d o x y (subst (λ (ks : List StmtId). reads_block x (At y) (block d ks) ≡ true) (comb_list d x ids e) (p.signals y q))) p.read
    ]
signal_falls d names keeps low fit o x lt n (Sync k ids) e h = absurd cc

pub no_loop : (d : Design) (names : List Name) → Keeps d → IsLowered d → HasOrder (circuit_of d) → NamesFit d names → (m : VModule) → DriversAre d names m → HasNoLoop m
no_loop d names keeps low o fit m are = record { rank = rank_of d names (signal_rank d o); falls = λ n k h. by_class n k (name_classes d names n) h }
  where
    by_class : (n k : Name) → Class d names n → driver_reads k (driver m n) ≡ true → rank_of d names (signal_rank d o) k < rank_of d names (signal_rank d o) n
    by_class n k (OfSignal x lt e) h =
        let is = ap (driver m) e ∙ ap first_driver (are.signals x lt) in
        let r = ap (rank_of d names (signal_rank d o)) e ∙ rank_net d names fit (signal_rank d o) x lt in
        let less = signal_falls d names keeps low fit o x lt k (drive d x) refl (subst (λ g. driver_reads k g ≡ true) is h) in
        omega (arith, r)
    by_class n k (OfNode j at e) h =
        let is = ap (driver m) e ∙ ap first_driver (are.nodes j at) in
        let r = ap (rank_of d names (signal_rank d o)) e ∙ rank_own d names keeps fit (signal_rank d o) j at in
        let within = net_node_within d j at in
        let less = read_below d names keeps fit (signal_rank d o) j (term d j) k (rank_node d (signal_rank d o) j) (omega arith) (omega arith) (node_text_reads d names keeps low j at k (subst (λ g. driver_reads k g ≡ true) is h)) in
        omega (arith, r)
    by_class n k (OfClock j lt e) h =
        let is = ap (driver m) e ∙ ap first_driver (are.clocks j lt) in
        absurd (let p = subst (λ g. driver_reads k g ≡ true) is h in cc)
    by_class n k (OfMemory j lt e) h =
        let is = ap (driver m) e ∙ ap first_driver (are.memories j lt) in
        absurd (let p = subst (λ g. driver_reads k g ≡ true) is h in memory_reads d names j k p)
    by_class n k (OfNothing a b c e) h =
        let is = ap first_driver (are.none n a b c e) in
        absurd (let p = subst (λ g. driver_reads k g ≡ true) is h in cc)
