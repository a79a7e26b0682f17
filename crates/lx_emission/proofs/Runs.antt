-- The text of the statements of one signal, run on a pattern, does what the taken assignments do.
use Rattle.std.proofs.Common.{◌≡◌, ℕ, ℤ, zero, suc, ◌+◌, ◌-◌, ◌*◌, ◌/◌, ◌%◌, ◌^◌, ◌<◌, ◌≤◌, Bool, true, false, not, List, [], ◌∷◌, length, cond, refl, sym, ◌∙◌, ap, subst, arith}
use Rattle.std.specs.Prelude.{Option, Some, None, slice_get}
use Rattle.std.proofs.lemmas.Bool.{and_parts}
use Rattle.lx_num.specs.Ints.{modulo}
use Rattle.lx_circuit.specs.Shapes.{Shapes}
use Rattle.lx_circuit.specs.Places.{Values}
use Rattle.lx_circuit.specs.Values.{value_of, is_zero}
use Rattle.lx_circuit.specs.Statements as tree
use Rattle.lx_circuit.specs.Statements.{Piece, laid_over, pieces, taken, taken_block, after_pieces}
use Rattle.lx_circuit.proofs.Cases.{by_test, after_append}
use Rattle.lx_vtext.specs.Tree.{Name, VExpr, VStmt, VElse, VBlock, EndBlock, Whole}
use Rattle.lx_vmeaning.specs.Meaning.{Declared, Sizes, Valuation, assigned, holds}
use Rattle.lx_vmeaning.specs.Runs.{set_bits, new_pattern, run_stmt, run_else, run_block}
use Rattle.lx_fhdl.specs.Below.{StmtId, all_stmts_below}
use Rattle.lx_fhdl.specs.Designs.{term, target, stmt, block, shapes}
use Rattle.lx_fhdl.specs.Stmts.{target_at, block_at, stmt_at}
use Rattle.lx_fhdl.specs.Lowered.{is_plain_target, is_for, are_for}
use Rattle.lx_fhdl.specs.Keeping.{Keeps, TargetStands, StmtStands}
use Rattle.lx_fhdl.specs.declared.stmts.Target.{Target}
use Rattle.lx_fhdl.specs.declared.stmts.Target.TheVariants as a_target
use Rattle.lx_fhdl.specs.declared.stmts.Stmt.{Stmt}
use Rattle.lx_fhdl.specs.declared.stmts.Stmt.TheVariants as a_stmt
use Rattle.lx_fhdl.specs.declared.design.Design.{Design}
use Rattle.lx_emission.specs.Naming.{net}
use Rattle.lx_emission.specs.Nodes.{operand}
use Rattle.lx_emission.specs.Texts.{covers, target_text, block_onto, else_text, stmt_text}
use Rattle.lx_emission.proofs.Setting.{DeclaresNets, OperandsStand}
use Rattle.lx_emission.proofs.Pieces.{laid_covering, after_piece, same_bits, both_are_for, KeepsBits, within_keeps, stmt_at_keeps}
use Rattle.lx_arena.specs.Folds.{fold_at}
use Rattle.lx_emission.proofs.Levels.{target_of, target_within, stmt_of, stmt_within, stmt_text_of, stmt_text_within}
use Rattle.lx_circuit.proofs.Whole.{laid_whole}

-- the bits that a part names
part_is : (p low len : ℕ) (z : ℤ) (f : ℕ → ℕ) → 1 ≤ len → ((n : ℕ) → f n ≡ modulo z (2 ^ n)) → set_bits p (low + len - 1) low (f (low + len - 1 - low + 1)) ≡ laid_over p low len z
part_is p low len z f h g =
    let top : low + len - 1 + 1 ≡ low + len = omega arith in
    let wide : low + len - 1 - low + 1 ≡ len = omega arith in
    ap (λ (k : ℕ). set_bits p (low + len - 1) low (f k)) wide ∙ ap (λ (k : ℕ). set_bits p (low + len - 1) low k) (g len)
    ∙ ap (λ (k : ℕ). p % 2 ^ low + 2 ^ low * modulo z (2 ^ len) + 2 ^ k * (p / 2 ^ k)) top

-- ---- assignments

-- a right side that has the pattern of a number in a target of any bits
abbrev Gives : Sizes → Valuation → VExpr → ℤ → Type 0
Gives s w e z = (n : ℕ) → assigned s w n e ≡ modulo z (2 ^ n)

whole_runs : (d : Design) (names : List Name) (s : Sizes) (w : Valuation) (y : ℕ) (e : VExpr) (z : ℤ) → DeclaresNets d names s → y < length d.signals → Gives s w e z → (old : ℕ) → new_pattern s w (Whole (net names y)) e old ≡ modulo z (2 ^ (shapes d y).bits)
whole_runs d names s w y e z declares made gives old = ap (λ (a : Declared). assigned s w a.bits e) (declares.signals y made) ∙ gives (shapes d y).bits

target_runs : (d : Design) (names : List Name) (s : Sizes) (v : Values) (w : Valuation) (x : ℕ) (g : ℕ → tree.Target) (e : VExpr) (z : ℤ) → DeclaresNets d names s → Gives s w e z
    → (o : Option Target) → ((a : Target) → o ≡ Some a → TargetStands (shapes d) (length d.signals) d.exprs a) → is_plain_target x (target_of (term d) g o) ≡ true
    → (old : ℕ) → old < 2 ^ (shapes d x).bits → new_pattern s w (target_text d names o) e old ≡ after_pieces x old (pieces (shapes d) v (target_of (term d) g o) z)
target_runs d names s v w x g e z declares gives (Some (a_target.Whole y)) stands p old l =
    let n = same_bits (shapes d) y.0 x p in
    let below : old < 2 ^ (shapes d y.0).bits = subst (λ (k : ℕ). old < 2 ^ k) (sym n) l in
    whole_runs d names s w y.0 e z declares (stands (a_target.Whole y) refl) gives old
    ∙ sym (after_piece x y.0 old 0 (shapes d y.0).bits z p ∙ laid_whole old (shapes d y.0).bits z below)
target_runs d names s v w x g e z declares gives (Some (a_target.Part y low len)) stands p old l =
    let n = same_bits (shapes d) y.0 x p in
    let below : old < 2 ^ (shapes d y.0).bits = subst (λ (k : ℕ). old < 2 ^ k) (sym n) l in
    let stand = stands (a_target.Part y low len) refl in
    by_test (covers (shapes d y.0).bits low len)
    (λ c. rw c (whole_runs d names s w y.0 e z declares stand.0 gives old ∙ sym (after_piece x y.0 old low len z p ∙ laid_covering old low len (shapes d y.0).bits z c below)))
    (λ c. rw c (part_is old low len z (λ k. assigned s w k e) stand.1 gives ∙ sym (after_piece x y.0 old low len z p)))
target_runs d names s v w x g e z declares gives (Some (a_target.Cat parts)) stands p old l = absurd (cc)
target_runs d names s v w x g e z declares gives (Some (a_target.Pick items index)) stands p old l = absurd (cc)
target_runs d names s v w x g e z declares gives None stands p old l = absurd (cc)

assign_runs : (d : Design) (names : List Name) (s : Sizes) (v : Values) (w : Valuation) (x : ℕ) (e : VExpr) (z : ℤ) → Keeps d → DeclaresNets d names s → Gives s w e z
    → (k : ℕ) → is_plain_target x (target d k) ≡ true
    → (old : ℕ) → old < 2 ^ (shapes d x).bits → new_pattern s w (target_text d names (slice_get d.targets k)) e old ≡ after_pieces x old (pieces (shapes d) v (target d k) z)
unfolding fold_at target_at
assign_runs d names s v w x e z keeps declares gives k p old l =
    target_runs d names s v w x (target_within (term d) d.targets k) e z declares gives (slice_get d.targets k) (keeps.arenas.targets k) p old l

-- ---- statements

-- a text does what a statement for the signal takes
abbrev StmtRuns : Sizes → Valuation → Shapes → Values → ℕ → VStmt → tree.Stmt → Type 0
StmtRuns s w h v x text st = is_for x st ≡ true → (old : ℕ) → old < 2 ^ (h x).bits → run_stmt s w text old ≡ after_pieces x old (taken h v st)

list_runs : (s : Sizes) (w : Valuation) (h : Shapes) (v : Values) (x : ℕ) (t : ℕ → VStmt) (g : ℕ → tree.Stmt) → ((k : ℕ) → KeepsBits h v x (g k)) → ((k : ℕ) → StmtRuns s w h v x (t k) (g k))
    → (ids : List StmtId) → are_for x (block_at g ids) ≡ true → (end : VBlock) (old : ℕ) → old < 2 ^ (h x).bits → run_block s w (block_onto t ids end) old ≡ run_block s w end (after_pieces x old (taken_block h v (block_at g ids)))
list_runs s w h v x t g keeps runs [] e end old l = refl
list_runs s w h v x t g keeps runs (i ∷ is) e end old l =
    let p = and_parts (is_for x (g i.place)) (are_for x (block_at g is)) e in
    let here = taken h v (g i.place) in
    ap (λ (q : ℕ). run_block s w (block_onto t is end) q) (runs i.place p.0 old l)
    ∙ list_runs s w h v x t g keeps runs is p.1 end (after_pieces x old here) (keeps i.place p.0 old l)
    ∙ ap (λ (q : ℕ). run_block s w end q) (sym (after_append x old here (taken_block h v (block_at g is))))

else_runs : (s : Sizes) (w : Valuation) (h : Shapes) (v : Values) (x : ℕ) (t : ℕ → VStmt) (g : ℕ → tree.Stmt) → ((k : ℕ) → KeepsBits h v x (g k)) → ((k : ℕ) → StmtRuns s w h v x (t k) (g k))
    → (ids : List StmtId) → are_for x (block_at g ids) ≡ true → (old : ℕ) → old < 2 ^ (h x).bits → run_else s w (else_text t ids) old ≡ after_pieces x old (taken_block h v (block_at g ids))
else_runs s w h v x t g keeps runs [] e old l = refl
else_runs s w h v x t g keeps runs (i ∷ is) e old l = list_runs s w h v x t g keeps runs (i ∷ is) e EndBlock old l

-- one condition, read as both sides read it
chosen_runs : (s : Sizes) (w : Valuation) (x : ℕ) (zero_there holds_here : Bool) (so : VBlock) (other : VElse) (old : ℕ) (ps qs : List Piece) → holds_here ≡ not zero_there
    → run_block s w so old ≡ after_pieces x old ps → run_else s w other old ≡ after_pieces x old qs → cond holds_here (run_block s w so old) (run_else s w other old) ≡ after_pieces x old (cond zero_there qs ps)
chosen_runs s w x true holds_here so other old ps qs e p q = rw e q
chosen_runs s w x false holds_here so other old ps qs e p q = rw e p

stmt_runs : (d : Design) (names : List Name) (s : Sizes) (v : Values) (w : Valuation) (now : Bool) (x : ℕ) (t : ℕ → VStmt) (g : ℕ → tree.Stmt) → Keeps d → DeclaresNets d names s → OperandsStand d names s v w
    → ((k : ℕ) → KeepsBits (shapes d) v x (g k)) → ((k : ℕ) → StmtRuns s w (shapes d) v x (t k) (g k))
    → (o : Option Stmt) → ((a : Stmt) → o ≡ Some a → StmtStands (length d.exprs) (length d.targets) a) → StmtRuns s w (shapes d) v x (stmt_text_of d names now t o) (stmt_of (term d) (target d) g o)
stmt_runs d names s v w now x t g keeps declares stand bits runs (Some (a_stmt.Assign target_id value line)) stands e old l =
    let there = stands (a_stmt.Assign target_id value line) refl in
    assign_runs d names s v w x (operand d names value.place) (value_of (shapes d) v (term d value.place)) keeps declares (stand.assigned value.place there.1) target_id.place e old l
stmt_runs d names s v w now x t g keeps declares stand bits runs (Some (a_stmt.If [] rest line)) stands e old l = absurd (cc)
stmt_runs d names s v w now x t g keeps declares stand bits runs (Some (a_stmt.If (b ∷ (c ∷ cs)) rest line)) stands e old l = absurd (cc)
stmt_runs d names s v w now x t g keeps declares stand bits runs (Some (a_stmt.If (b ∷ []) rest line)) stands e old l =
    let there = stands (a_stmt.If (b ∷ []) rest line) refl in
    let both = both_are_for x (term d b.cond.place) (block_at g b.body) (block_at g rest) e in
    chosen_runs s w x (is_zero (value_of (shapes d) v (term d b.cond.place))) (holds s w (operand d names b.cond.place)) (block_onto t b.body EndBlock) (else_text t rest) old
    (taken_block (shapes d) v (block_at g b.body)) (taken_block (shapes d) v (block_at g rest))
    (stand.holds b.cond.place there.0)
    (list_runs s w (shapes d) v x t g bits runs b.body both.0 EndBlock old l)
    (else_runs s w (shapes d) v x t g bits runs rest both.1 old l)
stmt_runs d names s v w now x t g keeps declares stand bits runs (Some (a_stmt.Case on arms rest line)) stands e old l = absurd (cc)
stmt_runs d names s v w now x t g keeps declares stand bits runs None stands e old l = absurd (cc)

within_runs : (d : Design) (names : List Name) (s : Sizes) (v : Values) (w : Valuation) (now : Bool) (x : ℕ) → Keeps d → DeclaresNets d names s → OperandsStand d names s v w
    → (n k : ℕ) → StmtRuns s w (shapes d) v x (stmt_text_within d names now n k) (stmt_within (term d) (target d) d.stmts n k)
within_runs d names s v w now x keeps declares stand zero k e old l = absurd (cc)
within_runs d names s v w now x keeps declares stand (suc n) k e old l =
    stmt_runs d names s v w now x (stmt_text_within d names now n) (stmt_within (term d) (target d) d.stmts n) keeps declares stand (within_keeps d v x keeps n) (within_runs d names s v w now x keeps declares stand n) (slice_get d.stmts k) (keeps.arenas.stmts k) e old l

text_runs : (d : Design) (names : List Name) (s : Sizes) (v : Values) (w : Valuation) (now : Bool) (x : ℕ) → Keeps d → DeclaresNets d names s → OperandsStand d names s v w
    → (k : ℕ) → StmtRuns s w (shapes d) v x (stmt_text d names now k) (stmt d k)
unfolding fold_at stmt_at stmt_text
text_runs d names s v w now x keeps declares stand k e old l = within_runs d names s v w now x keeps declares stand (suc k) k e old l

-- the text of a signal's statements, with what follows, does what the assignments that they take do
pub block_runs : (d : Design) (names : List Name) (s : Sizes) (v : Values) (w : Valuation) (now : Bool) (x : ℕ) → Keeps d → DeclaresNets d names s → OperandsStand d names s v w → x < length d.signals
    → (ids : List StmtId) → all_stmts_below (length d.stmts) ids ≡ true → are_for x (block d ids) ≡ true → (end : VBlock) (old : ℕ) → old < 2 ^ (shapes d x).bits
    → run_block s w (block_onto (stmt_text d names now) ids end) old ≡ run_block s w end (after_pieces x old (taken_block (shapes d) v (block d ids)))
block_runs d names s v w now x keeps declares stand made ids there e end old l =
    list_runs s w (shapes d) v x (stmt_text d names now) (stmt d) (stmt_at_keeps d v x keeps) (text_runs d names s v w now x keeps declares stand) ids e end old l
