-- The texts of the statements for one signal: what they assign, and that they may stand in a module.
use Rattle.std.proofs.Common.{◌≡◌, ℕ, zero, suc, ◌+◌, ◌-◌, ◌<◌, ◌≤◌, Bool, true, false, not, ◌&&◌, ◌||◌, List, [], ◌∷◌, ◌++◌, length, refl, sym, ap, subst, ◌∙◌, arith}
use Rattle.std.specs.Prelude.{Option, Some, None, slice_get, IfSome, nat_le, nat_lt, nat_eq, if◌then◌else◌}
use Rattle.std.specs.Str.{bytes_eq}
use Rattle.std.proofs.lemmas.Bool.{and_parts, and_from, eqb-true, le-leb, lt-ltb}
use Rattle.std.proofs.lemmas.Option.{slice_get_within}
use Rattle.std.proofs.lemmas.Slice.Eq.{bytes_eq-Decides}
use Rattle.lx_circuit.specs.Statements as tree
use Rattle.lx_circuit.specs.Circuit as circuit
use Rattle.lx_circuit.specs.Circuit.{Role, sync_role, read_role, idle_role, role, made}
use Rattle.lx_vtext.specs.Tree.{Name, VExpr, Net, Whole, Part, VTarget, VStmt, Assign, When, NoElse, VBlock, VElse, EndBlock, InBlock, VAlways, VModule}
use Rattle.lx_vmeaning.specs.Runs.{sizes, target_name, sets_stmt, sets_else, sets_block}
use Rattle.lx_vmeaning.specs.Naming.{is_input, is_register, is_within, names_fit, target_names, block_names, always_names}
use Rattle.lx_vmeaning.specs.Widths.{right_fits, target_widths, block_widths, always_widths}
use Rattle.lx_vmeaning.specs.Widths as width
use Rattle.lx_vmeaning.specs.Blocks.{always_fits, target_fits, block_fits, or_name, stmt_target, else_target, block_target}
use Rattle.lx_vmeaning.proofs.Owns.{is_width-of, alone_from_owns, right_from_owns}
use Rattle.lx_fhdl.specs.Below.{ExprId, StmtId, all_stmts_below}
use Rattle.lx_fhdl.specs.Stmts.{target_at, block_at, stmt_at}
use Rattle.lx_fhdl.specs.Designs as design
use Rattle.lx_fhdl.proofs.Designs as fhdl
use Rattle.lx_fhdl.specs.Designs.{term, stmt, block, shapes, stmts_of, made_of, domains_from, circuit_of}
use Rattle.lx_fhdl.specs.Lowered.{is_plain_target, is_done, is_for, are_for, ArePlain, IsLowered}
use Rattle.lx_fhdl.specs.Keeping.{Keeps, TargetStands, StmtStands, PartStands, IsDomain, HasResetPath, IsReset, EachOf}
use Rattle.lx_fhdl.specs.declared.exprs.SigId.{SigId}
use Rattle.lx_fhdl.specs.declared.design.Signal.{Signal}
use Rattle.lx_fhdl.specs.declared.design.Domain.{Domain}
use Rattle.lx_fhdl.specs.declared.design.SyncPart.{SyncPart}
use Rattle.lx_fhdl.specs.declared.stmts.Target.{Target}
use Rattle.lx_fhdl.specs.declared.stmts.Target.TheVariants as target
use Rattle.lx_fhdl.specs.declared.stmts.Stmt.{Stmt}
use Rattle.lx_fhdl.specs.declared.stmts.Stmt.TheVariants as statement
use Rattle.lx_fhdl.specs.declared.design.Design.{Design}
use Rattle.lx_emission.specs.Naming.{net, clock}
use Rattle.lx_emission.specs.Nodes.{operand}
use Rattle.lx_emission.specs.Signals.{Drive, Input, Undriven, CombAssign, CombBlock, Sync, own, single, comb_drive, drive_by, drive, domain_reset, reset_block, reset_text, comb_body, sync_body}
use Rattle.lx_emission.specs.Texts.{covers, target_text, block_onto, else_text, stmt_text}
use Rattle.lx_emission.proofs.Roles.{read_other, idle_not_sync}
use Rattle.lx_emission.proofs.Tests.{IsTest, names_test, widths_test, fits_test, list_passes, else_passes, when_passes}
use Rattle.lx_emission.proofs.Setting.{LetsRead, IsFit, OperandsFit, SetsAlone}
use Rattle.lx_arena.specs.Folds.{fold_at}
use Rattle.lx_emission.proofs.Levels.{target_within, target_of, stmt_of, stmt_within, stmt_text_of, stmt_text_within}
use Rattle.lx_emission.proofs.Pieces.{own_for, own_some, own_below}
use Rattle.lx_fhdl.proofs.Resets.{each_of_at}

-- ---- one statement for x, and its text

-- the bits of x that a target names: all, or some
pub data Bits (d : Design) (x : ℕ) : Type 0 where
  AllBits : Bits d x
  SomeBits : (low len : ℕ) → 1 ≤ len → low + len ≤ (shapes d x).bits → Bits d x

abbrev pub bits_text : (d : Design) → Name → (x : ℕ) → Bits d x → VTarget
bits_text d n x AllBits = Whole n
bits_text d n x (SomeBits low len some inside) = Part n (low + len - 1) low

record BitsOf (d : Design) (names : List Name) (x : ℕ) (t : VTarget) : Type 0 where
  made : x < length d.signals
  chosen : Bits d x
  text : t ≡ bits_text d (net names x) x chosen

part_bits : (d : Design) (names : List Name) (x low len : ℕ) → x < length d.signals → 1 ≤ len → low + len ≤ (shapes d x).bits → (b : Bool) → BitsOf d names x (if b then Whole (net names x) else Part (net names x) (low + len - 1) low)
part_bits d names x low len made some inside true = record { made = made; chosen = AllBits; text = refl }
part_bits d names x low len made some inside false = record { made = made; chosen = SomeBits low len some inside; text = refl }

-- what the test of a plain target says of the node
node_bits : (d : Design) (names : List Name) (x : ℕ) (g : ℕ → tree.Target) (o : Option Target) → ((y : Target) → o ≡ Some y → TargetStands (shapes d) (length d.signals) d.exprs y) → is_plain_target x (target_of (term d) g o) ≡ true → BitsOf d names x (target_text d names o)
node_bits d names x g None w h = absurd (cc)
node_bits d names x g (Some (target.Whole y)) w h =
    let e : y.0 ≡ x = eqb-true y.0 x h in
    let made = subst (λ z. z < length d.signals) e (w (target.Whole y) refl) in
    subst (λ z. BitsOf d names x (Whole (net names z))) (sym e) (record { made = made; chosen = AllBits; text = refl })
node_bits d names x g (Some (target.Part y low len)) w h =
    let e : y.0 ≡ x = eqb-true y.0 x h in
    let k = w (target.Part y low len) refl in
    subst (λ z. BitsOf d names x (if covers (shapes d z).bits low len then Whole (net names z) else Part (net names z) (low + len - 1) low)) (sym e)
    (part_bits d names x low len (subst (λ z. z < length d.signals) e k.0) k.1 (subst (λ z. low + len ≤ (shapes d z).bits) e k.2) (covers (shapes d x).bits low len))
node_bits d names x g (Some (target.Cat parts)) w h = absurd (cc)
node_bits d names x g (Some (target.Pick items index)) w h = absurd (cc)

target_bits : (d : Design) (names : List Name) (x : ℕ) → Keeps d → (k : ℕ) → is_plain_target x (design.target d k) ≡ true → BitsOf d names x (target_text d names (slice_get d.targets k))
unfolding fold_at target_at
target_bits d names x keeps k h = node_bits d names x (target_within (term d) d.targets k) (slice_get d.targets k) (keeps.arenas.targets k) h

-- what holds of an assignment, and of a condition where it holds of all statements inside, holds of each statement for x
pub record HoldsOfTexts (d : Design) (names : List Name) (now : Bool) (x : ℕ) (P : tree.Stmt → VStmt → Type 0) : Type 0 where
  pub assigns : (t : tree.Target) (c : Bits d x) (k : ℕ) → is_plain_target x t ≡ true → x < length d.signals → k < length d.exprs → P (tree.Assign t (term d k)) (Assign (bits_text d (net names x) x c) now (operand d names k))
  pub chooses : (s : ℕ → tree.Stmt) (g : ℕ → VStmt) (k : ℕ) (body rest : List StmtId) → k < length d.exprs → ((j : ℕ) → is_for x (s j) ≡ true → P (s j) (g j))
      → are_for x (block_at s body) ≡ true → are_for x (block_at s rest) ≡ true → 0 < length body + length rest
      → P (tree.If (tree.Branch (term d k) (block_at s body) tree.NoBranch) (block_at s rest)) (When (operand d names k) (block_onto g body EndBlock) (else_text g rest))

some_stmts : (s : ℕ → tree.Stmt) (body rest : List StmtId) → not (is_done (block_at s body) && is_done (block_at s rest)) ≡ true → 0 < length body + length rest
some_stmts s [] [] h = absurd (cc)
some_stmts s [] (i ∷ is) h = omega arith
some_stmts s (i ∷ is) rest h = omega arith

node_holds : (d : Design) (names : List Name) (now : Bool) (x : ℕ) (P : tree.Stmt → VStmt → Type 0) → Keeps d → HoldsOfTexts d names now x P → (s : ℕ → tree.Stmt) (g : ℕ → VStmt) → ((j : ℕ) → is_for x (s j) ≡ true → P (s j) (g j))
    → (o : Option Stmt) → ((y : Stmt) → o ≡ Some y → StmtStands (length d.exprs) (length d.targets) y) → is_for x (stmt_of (term d) (design.target d) s o) ≡ true → P (stmt_of (term d) (design.target d) s o) (stmt_text_of d names now g o)
node_holds d names now x P keeps holds s g below None w h = absurd (cc)
node_holds d names now x P keeps holds s g below (Some (statement.Assign t value line)) w h =
    let k = w (statement.Assign t value line) refl in
    let b = target_bits d names x keeps t.place h in
    subst (λ z. P (tree.Assign (design.target d t.place) (term d value.place)) (Assign z now (operand d names value.place))) (sym b.text)
    (holds.assigns (design.target d t.place) b.chosen value.place h b.made k.1)
node_holds d names now x P keeps holds s g below (Some (statement.If [] rest line)) w h = absurd (cc)
node_holds d names now x P keeps holds s g below (Some (statement.If (b ∷ []) rest line)) w h =
    let k = w (statement.If (b ∷ []) rest line) refl in
    let p = and_parts (not (is_done (block_at s b.body) && is_done (block_at s rest))) ((are_for x (block_at s b.body) && true) && are_for x (block_at s rest)) h in
    let q = and_parts (are_for x (block_at s b.body) && true) (are_for x (block_at s rest)) p.1 in
    let r = and_parts (are_for x (block_at s b.body)) true q.0 in
    holds.chooses s g b.cond.place b.body rest k.0 below r.0 q.1 (some_stmts s b.body rest p.0)
node_holds d names now x P keeps holds s g below (Some (statement.If (b ∷ c ∷ bs) rest line)) w h = absurd (cc)
node_holds d names now x P keeps holds s g below (Some (statement.Case on arms rest line)) w h = absurd (cc)

within_holds : (d : Design) (names : List Name) (now : Bool) (x : ℕ) (P : tree.Stmt → VStmt → Type 0) → Keeps d → HoldsOfTexts d names now x P → (n k : ℕ)
    → is_for x (stmt_within (term d) (design.target d) d.stmts n k) ≡ true → P (stmt_within (term d) (design.target d) d.stmts n k) (stmt_text_within d names now n k)
within_holds d names now x P keeps holds zero k h = absurd (cc)
within_holds d names now x P keeps holds (suc n) k h =
    node_holds d names now x P keeps holds (stmt_within (term d) (design.target d) d.stmts n) (stmt_text_within d names now n) (λ j l. within_holds d names now x P keeps holds n j l) (slice_get d.stmts k) (keeps.arenas.stmts k) h

pub text_holds : (d : Design) (names : List Name) (now : Bool) (x : ℕ) (P : tree.Stmt → VStmt → Type 0) → Keeps d → HoldsOfTexts d names now x P → (k : ℕ) → is_for x (stmt d k) ≡ true → P (stmt d k) (stmt_text d names now k)
unfolding fold_at stmt_at stmt_text
text_holds d names now x P keeps holds k h = within_holds d names now x P keeps holds (suc k) k h

-- ---- a signal that a statement is for is one of the design's

first_made : (n x : ℕ) (s : ℕ → tree.Stmt) → ((j : ℕ) → is_for x (s j) ≡ true → x < n) → (ids : List StmtId) → are_for x (block_at s ids) ≡ true → 0 < length ids → x < n
first_made n x s h [] plain some = absurd (omega arith)
first_made n x s h (i ∷ is) plain some = h i.place (and_parts (is_for x (s i.place)) (are_for x (block_at s is)) plain).0

either_made : (n x : ℕ) (s : ℕ → tree.Stmt) → ((j : ℕ) → is_for x (s j) ≡ true → x < n) → (body rest : List StmtId) → are_for x (block_at s body) ≡ true → are_for x (block_at s rest) ≡ true → 0 < length body + length rest → x < n
either_made n x s h [] rest p q some = first_made n x s h rest q (omega arith)
either_made n x s h (i ∷ is) rest p q some = first_made n x s h (i ∷ is) p (omega arith)

stmt_made : (d : Design) (x : ℕ) → Keeps d → (k : ℕ) → is_for x (stmt d k) ≡ true → x < length d.signals
stmt_made d x keeps = text_holds d [] false x (λ s v. x < length d.signals) keeps (record {
  assigns = λ t c k h made l. made;
  chooses = λ s g k body rest l h p q some. either_made (length d.signals) x s h body rest p q some;
})

pub list_made : (d : Design) (x : ℕ) → Keeps d → (ids : List StmtId) → are_for x (block d ids) ≡ true → 0 < length ids → x < length d.signals
list_made d x keeps ids plain some = first_made (length d.signals) x (stmt d) (stmt_made d x keeps) ids plain some

-- ---- what statements assign

bits_name : (d : Design) (n : Name) (x : ℕ) (c : Bits d x) → target_name (bits_text d n x c) ≡ n
bits_name d n x AllBits = refl
bits_name d n x (SomeBits low len some inside) = refl

or_same : (a b : Bool) → (b ≡ true → a ≡ true) → (a || b) ≡ a
or_same true b h = refl
or_same false true h = sym (h refl)
or_same false false h = refl

by_parts : (a b c : Bool) → a ≡ c → (b ≡ true → c ≡ true) → (a || b) ≡ true → c ≡ true
by_parts true b c p q h = sym p
by_parts false b c p q h = q h

sets_only : (x : ℕ) (n : Name) (a : Bool) (s : ℕ → tree.Stmt) (g : ℕ → VStmt) → ((j : ℕ) → is_for x (s j) ≡ true → sets_stmt n (g j) ≡ a) → (ids : List StmtId) → are_for x (block_at s ids) ≡ true
    → (end : VBlock) → (sets_block n end ≡ true → a ≡ true) → sets_block n (block_onto g ids end) ≡ true → a ≡ true
sets_only x n a s g h [] plain end e l = e l
sets_only x n a s g h (i ∷ is) plain end e l =
    let p = and_parts (is_for x (s i.place)) (are_for x (block_at s is)) plain in
    by_parts (sets_stmt n (g i.place)) (sets_block n (block_onto g is end)) a (h i.place p.0) (sets_only x n a s g h is p.1 end e) l

sets_list : (x : ℕ) (n : Name) (a : Bool) (s : ℕ → tree.Stmt) (g : ℕ → VStmt) → ((j : ℕ) → is_for x (s j) ≡ true → sets_stmt n (g j) ≡ a) → (ids : List StmtId) → are_for x (block_at s ids) ≡ true → 0 < length ids
    → (end : VBlock) → (sets_block n end ≡ true → a ≡ true) → sets_block n (block_onto g ids end) ≡ a
sets_list x n a s g h [] plain some end e = absurd (omega arith)
sets_list x n a s g h (i ∷ is) plain some end e =
    let p = and_parts (is_for x (s i.place)) (are_for x (block_at s is)) plain in
    ap (λ z. z || sets_block n (block_onto g is end)) (h i.place p.0) ∙ or_same a (sets_block n (block_onto g is end)) (sets_only x n a s g h is p.1 end e)

else_sets : (x : ℕ) (n : Name) (a : Bool) (s : ℕ → tree.Stmt) (g : ℕ → VStmt) → ((j : ℕ) → is_for x (s j) ≡ true → sets_stmt n (g j) ≡ a) → (ids : List StmtId) → are_for x (block_at s ids) ≡ true → sets_else n (else_text g ids) ≡ true → a ≡ true
else_sets x n a s g h [] plain l = absurd (cc)
else_sets x n a s g h (i ∷ is) plain l = sets_only x n a s g h (i ∷ is) plain EndBlock (λ e. absurd (cc)) l

when_sets : (x : ℕ) (n : Name) (a : Bool) (s : ℕ → tree.Stmt) (g : ℕ → VStmt) (c : VExpr) → ((j : ℕ) → is_for x (s j) ≡ true → sets_stmt n (g j) ≡ a) → (body rest : List StmtId)
    → are_for x (block_at s body) ≡ true → are_for x (block_at s rest) ≡ true → 0 < length body + length rest → sets_stmt n (When c (block_onto g body EndBlock) (else_text g rest)) ≡ a
when_sets x n a s g c h [] [] p q some = absurd (omega arith)
when_sets x n a s g c h [] (i ∷ is) p q some = sets_list x n a s g h (i ∷ is) q (omega arith) EndBlock (λ e. absurd (cc))
when_sets x n a s g c h (i ∷ is) rest p q some =
    ap (λ z. z || sets_else n (else_text g rest)) (sets_list x n a s g h (i ∷ is) p (omega arith) EndBlock (λ e. absurd (cc)))
    ∙ or_same a (sets_else n (else_text g rest)) (else_sets x n a s g h rest q)

stmt_sets : (d : Design) (names : List Name) (now : Bool) (x : ℕ) → Keeps d → (n : Name) → (k : ℕ) → is_for x (stmt d k) ≡ true → sets_stmt n (stmt_text d names now k) ≡ bytes_eq (net names x) n
stmt_sets d names now x keeps n = text_holds d names now x (λ s v. sets_stmt n v ≡ bytes_eq (net names x) n) keeps (record {
  assigns = λ t c k h made l. ap (λ z. bytes_eq z n) (bits_name d (net names x) x c);
  chooses = λ s g k body rest l h p q some. when_sets x n (bytes_eq (net names x) n) s g (operand d names k) h body rest p q some;
})

-- a block of statements for x assigns the net of x, and nothing else
pub sets_text : (d : Design) (names : List Name) (now : Bool) (x : ℕ) → Keeps d → (ids : List StmtId) → all_stmts_below (length d.stmts) ids ≡ true → are_for x (block d ids) ≡ true → 0 < length ids
    → (end : VBlock) (n : Name) → (sets_block n end ≡ true → bytes_eq (net names x) n ≡ true) → sets_block n (block_onto (stmt_text d names now) ids end) ≡ bytes_eq (net names x) n
sets_text d names now x keeps ids below plain some end n e = sets_list x n (bytes_eq (net names x) n) (stmt d) (stmt_text d names now) (stmt_sets d names now x keeps n) ids plain some end e

target_list : (x : ℕ) (n : Name) (s : ℕ → tree.Stmt) (g : ℕ → VStmt) → ((j : ℕ) → is_for x (s j) ≡ true → stmt_target (g j) ≡ Some n) → (ids : List StmtId) → are_for x (block_at s ids) ≡ true → 0 < length ids
    → (end : VBlock) → block_target (block_onto g ids end) ≡ Some n
target_list x n s g h [] plain some end = absurd (omega arith)
target_list x n s g h (i ∷ is) plain some end =
    ap (λ o. or_name o (block_target (block_onto g is end))) (h i.place (and_parts (is_for x (s i.place)) (are_for x (block_at s is)) plain).0)

when_target : (x : ℕ) (n : Name) (s : ℕ → tree.Stmt) (g : ℕ → VStmt) (c : VExpr) → ((j : ℕ) → is_for x (s j) ≡ true → stmt_target (g j) ≡ Some n) → (body rest : List StmtId)
    → are_for x (block_at s body) ≡ true → are_for x (block_at s rest) ≡ true → 0 < length body + length rest → stmt_target (When c (block_onto g body EndBlock) (else_text g rest)) ≡ Some n
when_target x n s g c h [] [] p q some = absurd (omega arith)
when_target x n s g c h [] (i ∷ is) p q some = target_list x n s g h (i ∷ is) q (omega arith) EndBlock
when_target x n s g c h (i ∷ is) rest p q some = ap (λ o. or_name o (else_target (else_text g rest))) (target_list x n s g h (i ∷ is) p (omega arith) EndBlock)

stmt_targets : (d : Design) (names : List Name) (now : Bool) (x : ℕ) → Keeps d → (k : ℕ) → is_for x (stmt d k) ≡ true → stmt_target (stmt_text d names now k) ≡ Some (net names x)
stmt_targets d names now x keeps = text_holds d names now x (λ s v. stmt_target v ≡ Some (net names x)) keeps (record {
  assigns = λ t c k h made l. ap (λ z. Some z) (bits_name d (net names x) x c);
  chooses = λ s g k body rest l h p q some. when_target x (net names x) s g (operand d names k) h body rest p q some;
})

pub text_target : (d : Design) (names : List Name) (now : Bool) (x : ℕ) → Keeps d → (ids : List StmtId) → all_stmts_below (length d.stmts) ids ≡ true → are_for x (block d ids) ≡ true → 0 < length ids
    → (end : VBlock) → block_target (block_onto (stmt_text d names now) ids end) ≡ Some (net names x)
text_target d names now x keeps ids below plain some end = target_list x (net names x) (stmt d) (stmt_text d names now) (stmt_targets d names now x keeps) ids plain some end

-- ---- what statements read and assign is declared so

pub net_bits : (d : Design) (names : List Name) (m : VModule) → LetsRead d names m → (x : ℕ) → x < length d.signals → (sizes m (net names x)).bits ≡ (shapes d x).bits
net_bits d names m lets x lt = ap (λ s. s.bits) (lets.declares.signals x lt)

-- a target that is bits of x names a register, inside it
bits_names : (d : Design) (names : List Name) (m : VModule) (x : ℕ) → LetsRead d names m → is_register m (net names x) ≡ true → x < length d.signals → (c : Bits d x) → target_names m (bits_text d (net names x) x c) ≡ true
bits_names d names m x lets register lt AllBits = register
bits_names d names m x lets register lt (SomeBits low len some inside) =
    let e = net_bits d names m lets x lt in
    and_from (is_register m (net names x)) (is_within m (net names x) (low + len - 1) low) register
    (and_from (nat_le low (low + len - 1)) (nat_lt (low + len - 1) (sizes m (net names x)).bits) (le-leb low (low + len - 1) (omega arith)) (lt-ltb (low + len - 1) (sizes m (net names x)).bits (omega arith)))

-- and has at most 128 bits
bits_widths : (d : Design) (names : List Name) (m : VModule) (x : ℕ) → Keeps d → LetsRead d names m → x < length d.signals → (c : Bits d x) (e : VExpr) → IsFit m e
    → (target_widths (sizes m) (bits_text d (net names x) x c) && right_fits (sizes m) (width.target_bits (sizes m) (bits_text d (net names x) x c)) e) ≡ true
bits_widths d names m x keeps lets lt AllBits e fit =
    let same = net_bits d names m lets x lt in
    right_from_owns (sizes m) (sizes m (net names x)).bits e (omega (arith, fhdl.signal_most d keeps x)) fit.widths
bits_widths d names m x keeps lets lt (SomeBits low len some inside) e fit =
    right_from_owns (sizes m) (low + len - 1 - low + 1) e (omega (arith, fhdl.signal_most d keeps x)) fit.widths

now_fits : (now : Bool) → (if now then now else not now) ≡ true
now_fits true = refl
now_fits false = refl

-- the texts of statements for x pass a test that their assignments pass
texts_pass : {C : VExpr → Bool} {S : VStmt → Bool} {B : VBlock → Bool} {E : VElse → Bool} → IsTest C S B E → (d : Design) (names : List Name) (now : Bool) (x : ℕ) → Keeps d
    → ((k : ℕ) → k < length d.exprs → C (operand d names k) ≡ true)
    → ((c : Bits d x) (k : ℕ) → k < length d.exprs → S (Assign (bits_text d (net names x) x c) now (operand d names k)) ≡ true)
    → (ids : List StmtId) → are_for x (block d ids) ≡ true → (end : VBlock) → B end ≡ true → B (block_onto (stmt_text d names now) ids end) ≡ true
texts_pass {C} {S} {B} {E} t d names now x keeps conditions assigns ids plain end e =
    list_passes t x (stmt d) (stmt_text d names now) (text_holds d names now x (λ s v. S v ≡ true) keeps (record {
      assigns = λ a c k h made l. assigns c k l;
      chooses = λ s g k body rest l h p q some.
          when_passes t (operand d names k) (block_onto g body EndBlock) (else_text g rest) (conditions k l)
          (list_passes t x s g h body p EndBlock t.done) (else_passes t x s g h rest q);
    })) ids plain end e

-- a block that may stand in the module: its names, its widths, and that it assigns this name alone
pub record BlockFits (m : VModule) (n : Name) (now : Bool) (b : VBlock) : Type 0 where
  pub names : block_names m b ≡ true
  pub widths : block_widths (sizes m) b ≡ true
  pub fits : block_fits n now b ≡ true

pub text_fits : (d : Design) (names : List Name) (m : VModule) (now : Bool) (x : ℕ) → Keeps d → LetsRead d names m → OperandsFit d names m → is_register m (net names x) ≡ true → x < length d.signals
    → (ids : List StmtId) → are_for x (block d ids) ≡ true → (end : VBlock) → BlockFits m (net names x) now end → BlockFits m (net names x) now (block_onto (stmt_text d names now) ids end)
text_fits d names m now x keeps lets operands register lt ids plain end e = record {
  names = texts_pass (names_test m) d names now x keeps (λ k l. (operands.each k l).names)
      (λ c k l. and_from (target_names m (bits_text d (net names x) x c)) (names_fit m (operand d names k)) (bits_names d names m x lets register lt c) (operands.each k l).names)
      ids plain end e.names;
  widths = texts_pass (widths_test (sizes m)) d names now x keeps (λ k l. alone_from_owns (sizes m) (operand d names k) (operands.each k l).widths)
      (λ c k l. bits_widths d names m x keeps lets lt c (operand d names k) (operands.each k l))
      ids plain end e.widths;
  fits = texts_pass (fits_test (net names x) now) d names now x keeps (λ k l. refl)
      (λ c k l. and_from (bytes_eq (target_name (bits_text d (net names x) x c)) (net names x)) (if now then now else not now) (ap (λ z. bytes_eq z (net names x)) (bits_name d (net names x) x c) ∙ (bytes_eq-Decides (net names x) (net names x)).1 refl) (now_fits now))
      ids plain end e.fits;
}

-- what holds by a test
pub by_choice : {A : Type 0} (P : A → Type 0) (b : Bool) (u v : A) → (b ≡ true → P u) → (b ≡ false → P v) → P (if b then u else v)
by_choice P true u v f g = f refl
by_choice P false u v f g = g refl

-- ---- the statements of a domain

pub plain_append : (d : Design) (is js : List StmtId) → ArePlain (block d is) → ArePlain (block d js) → ArePlain (block d (is ++ js))
plain_append d [] js p q = q
plain_append d (i ∷ is) js p q = (p.0, plain_append d is js p.1 q)

pub below_append : (n : ℕ) (is js : List StmtId) → all_stmts_below n is ≡ true → all_stmts_below n js ≡ true → all_stmts_below n (is ++ js) ≡ true
below_append n [] js p q = q
below_append n (i ∷ is) js p q =
    let k = and_parts (nat_lt i.place n) (all_stmts_below n is) p in
    and_from (nat_lt i.place n) (all_stmts_below n (is ++ js)) k.0 (below_append n is js k.1 q)

pub sync_plain : (d : Design) (k : ℕ) (ps : List SyncPart) → EachOf (λ (p : SyncPart). ArePlain (block d p.stmts)) ps → ArePlain (block d (stmts_of k ps))
sync_plain d k [] h = tt
sync_plain d k (p ∷ ps) h =
    let more = sync_plain d k ps h.1 in
    by_choice (λ (ks : List StmtId). ArePlain (block d ks)) (nat_eq p.domain k) (p.stmts ++ stmts_of k ps) (stmts_of k ps)
    (λ e. plain_append d p.stmts (stmts_of k ps) h.0 more)
    (λ e. more)

pub sync_below : (d : Design) (k : ℕ) (ps : List SyncPart) → EachOf (PartStands d) ps → all_stmts_below (length d.stmts) (stmts_of k ps) ≡ true
sync_below d k [] h = refl
sync_below d k (p ∷ ps) h =
    let more = sync_below d k ps h.1 in
    by_choice (λ (ks : List StmtId). all_stmts_below (length d.stmts) ks ≡ true) (nat_eq p.domain k) (p.stmts ++ stmts_of k ps) (stmts_of k ps)
    (λ e. below_append (length d.stmts) p.stmts (stmts_of k ps) h.0.stmts.there more)
    (λ e. more)

-- ---- the lists of blocks

pub record IsOwnList (d : Design) (x : ℕ) (ids : List StmtId) : Type 0 where
  pub below : all_stmts_below (length d.stmts) ids ≡ true
  pub plain : are_for x (block d ids) ≡ true

own_list : (d : Design) (x : ℕ) (ids : List StmtId) → all_stmts_below (length d.stmts) ids ≡ true → ArePlain (block d ids) → IsOwnList d x (own d x ids)
own_list d x ids below plain = record { below = own_below d x (length d.stmts) ids below; plain = own_for d x ids plain }

comb_is : (ids js : List StmtId) (o : Option ExprId) → comb_drive ids o ≡ CombBlock js → js ≡ ids
comb_is ids js None e = cc
comb_is ids js (Some value) e = absurd (cc)

by_comb : (d : Design) (x : ℕ) (ids : List StmtId) (r : Role) → drive_by d x r ≡ CombBlock ids → ids ≡ own d x d.comb
by_comb d x ids circuit.Input e = absurd (cc)
by_comb d x ids circuit.Undriven e = absurd (cc)
by_comb d x ids circuit.Comb e = comb_is (own d x d.comb) ids (single d (own d x d.comb)) e
by_comb d x ids (circuit.Sync k) e = absurd (cc)
by_comb d x ids (circuit.Read j) e = absurd (cc)

-- the block of `always @(*)` has the statements of the list of the design
pub comb_list : (d : Design) (x : ℕ) (ids : List StmtId) → drive d x ≡ CombBlock ids → ids ≡ own d x d.comb
unfolding drive
comb_list d x ids e = by_comb d x ids (role (circuit_of d) x) e

pub comb_own : (d : Design) (x : ℕ) (ids : List StmtId) → Keeps d → IsLowered d → drive d x ≡ CombBlock ids → IsOwnList d x ids
comb_own d x ids keeps low e =
    subst (λ ks. IsOwnList d x ks) (sym (comb_list d x ids e)) (own_list d x d.comb keeps.comb.there low.comb)

sync_drives : (d : Design) (x j k : ℕ) (ds : List Domain) (other : Role) → (other ≡ circuit.Sync k → ⊥) → sync_role x j (domains_from d j ds) other ≡ circuit.Sync k → tree.drives_block x (block d (stmts_of k d.sync)) ≡ true
sync_drives d x j k [] other idle e = absurd (idle e)
sync_drives d x j k (y ∷ ys) other idle e =
    by_choice (λ r. r ≡ circuit.Sync k → tree.drives_block x (block d (stmts_of k d.sync)) ≡ true) (tree.drives_block x (block d (stmts_of j d.sync))) (circuit.Sync j) (sync_role x (j + 1) (domains_from d (j + 1) ys) other)
    (λ h f. let same : j ≡ k = cc in subst (λ i. tree.drives_block x (block d (stmts_of i d.sync)) ≡ true) same h)
    (λ h f. sync_drives d x (j + 1) k ys other idle f)
    e

-- a signal that no statement assigns is not registered
not_sync : (d : Design) (x k : ℕ) → read_role x 0 (circuit_of d).ports (idle_role (circuit_of d) x) ≡ circuit.Sync k → ⊥
not_sync d x k e = idle_not_sync (circuit_of d) x k (read_other x 0 (circuit_of d).ports (idle_role (circuit_of d) x) (circuit.Sync k) refl e)

role_drives : (d : Design) (x k : ℕ) (b : Bool) → (if b then circuit.Comb else sync_role x 0 (circuit_of d).domains (read_role x 0 (circuit_of d).ports (idle_role (circuit_of d) x))) ≡ circuit.Sync k
    → tree.drives_block x (block d (stmts_of k d.sync)) ≡ true
unfolding circuit_of
role_drives d x k true e = absurd (cc)
role_drives d x k false e = sync_drives d x 0 k d.domains (read_role x 0 (circuit_of d).ports (idle_role (circuit_of d) x)) (not_sync d x k) e

record IsSync (d : Design) (x k : ℕ) (ids : List StmtId) (r : Role) : Type 0 where
  same : ids ≡ own d x (stmts_of k d.sync)
  role : r ≡ circuit.Sync k

by_sync : (d : Design) (x k : ℕ) (ids : List StmtId) (r : Role) → drive_by d x r ≡ Sync k ids → IsSync d x k ids r
by_sync d x k ids circuit.Input e = absurd (cc)
by_sync d x k ids circuit.Undriven e = absurd (cc)
by_sync d x k ids circuit.Comb e = absurd (not_sync_drive (own d x d.comb) (single d (own d x d.comb)) e)
  where
    not_sync_drive : (js : List StmtId) (o : Option ExprId) → comb_drive js o ≡ Sync k ids → ⊥
    not_sync_drive js None e = cc
    not_sync_drive js (Some value) e = cc
by_sync d x k ids (circuit.Read j) e = absurd (cc)
by_sync d x k ids (circuit.Sync j) e =
    let domain : j ≡ k = cc in
    let list : own d x (stmts_of j d.sync) ≡ ids = cc in
    record { same = sym list ∙ ap (λ i. own d x (stmts_of i d.sync)) domain; role = ap circuit.Sync domain }

-- a clocked block has the statements of its domain's list
pub sync_list : (d : Design) (x k : ℕ) (ids : List StmtId) → drive d x ≡ Sync k ids → ids ≡ own d x (stmts_of k d.sync)
unfolding drive
sync_list d x k ids e = (by_sync d x k ids (role (circuit_of d) x) e).same

list_drives : (d : Design) (x k : ℕ) (ids : List StmtId) → drive d x ≡ Sync k ids → tree.drives_block x (block d (stmts_of k d.sync)) ≡ true
unfolding drive
list_drives d x k ids e = role_drives d x k (tree.drives_block x (circuit_of d).comb) (by_sync d x k ids (role (circuit_of d) x) e).role

pub sync_own : (d : Design) (x k : ℕ) (ids : List StmtId) → Keeps d → IsLowered d → drive d x ≡ Sync k ids → IsOwnList d x ids
sync_own d x k ids keeps low e =
    subst (λ ks. IsOwnList d x ks) (sym (sync_list d x k ids e)) (own_list d x (stmts_of k d.sync) (sync_below d k d.sync keeps.sync) (sync_plain d k d.sync low.sync))

pub sync_some : (d : Design) (x k : ℕ) (ids : List StmtId) → drive d x ≡ Sync k ids → 0 < length ids
sync_some d x k ids e = subst (λ (ks : List StmtId). 0 < length ks) (sym (sync_list d x k ids e)) (own_some d x (stmts_of k d.sync) (list_drives d x k ids e))

-- ---- the reset of a domain

path_within : (d : Design) (y : Domain) (r : ℕ) (o : Option Signal) → slice_get d.signals r ≡ o → HasResetPath y o → r < length d.signals
path_within d y r None e h = absurd h
path_within d y r (Some s) e h = slice_get_within d.signals r s e

reset_path : (d : Design) (y : Domain) (r : SigId) (o : Option SigId) → o ≡ Some r → IfSome o (IsReset d y) → r.0 < length d.signals
reset_path d y r None e h = absurd (cc)
reset_path d y r (Some z) e h = let same : z ≡ r = cc in subst (λ (i : SigId). i.0 < length d.signals) same (path_within d y z.0 (slice_get d.signals z.0) refl h.path)

-- the reset of a domain is a signal of the design
pub reset_within : (d : Design) → Keeps d → (k : ℕ) (r : SigId) → domain_reset (slice_get d.domains k) ≡ Some r → r.0 < length d.signals
reset_within d keeps k r e = of_domain (slice_get d.domains k) refl e
  where
    of_domain : (o : Option Domain) → slice_get d.domains k ≡ o → domain_reset o ≡ Some r → r.0 < length d.signals
    of_domain None e h = absurd (cc)
    of_domain (Some y) e h = reset_path d y r y.reset h (each_of_at (IsDomain d) d.domains keeps.domains k y e).reset

pub signal_fits : (d : Design) (names : List Name) (m : VModule) → Keeps d → LetsRead d names m → (x : ℕ) → x < length d.signals → IsFit m (Net (net names x))
signal_fits d names m keeps lets x lt =
    let e = net_bits d names m lets x lt in
    record { names = lets.signals x lt; widths = is_width-of (sizes m (net names x)).bits (omega (arith, fhdl.signal_some d keeps x)) (omega (arith, fhdl.signal_most d keeps x)) }

-- ---- the blocks of a module

only_sets : (a : Bool) → (((a || false) || false) || false) ≡ true → a ≡ true
only_sets true e = refl
only_sets false e = e

reset_sets : (d : Design) (names : List Name) (x : ℕ) (n : Name) (o : Option SigId) → sets_block n (reset_block d names x o) ≡ true → bytes_eq (net names x) n ≡ true
reset_sets d names x n None e = absurd (cc)
reset_sets d names x n (Some r) e =
    by_choice (λ b. sets_block n b ≡ true → bytes_eq (net names x) n ≡ true) (made (circuit_of d) x).reset_less
    EndBlock (InBlock (When (Net (net names r.0)) (InBlock (Assign (Whole (net names x)) false (reset_text d x)) EndBlock) NoElse) EndBlock)
    (λ h f. absurd (cc)) (λ h f. only_sets (bytes_eq (net names x) n) f) e

comb_sets : (d : Design) (names : List Name) (x : ℕ) (ids : List StmtId) → Keeps d → IsOwnList d x ids → (n : Name) → sets_block n (comb_body d names x ids) ≡ bytes_eq (net names x) n
comb_sets d names x ids keeps own n =
    or_same (bytes_eq (net names x) n) (sets_block n (block_onto (stmt_text d names true) ids EndBlock))
    (sets_only x n (bytes_eq (net names x) n) (stmt d) (stmt_text d names true) (stmt_sets d names true x keeps n) ids own.plain EndBlock (λ e. absurd (cc)))

sync_sets : (d : Design) (names : List Name) (x k : ℕ) (ids : List StmtId) → Keeps d → IsOwnList d x ids → 0 < length ids → (n : Name) → sets_block n (sync_body d names x k ids) ≡ bytes_eq (net names x) n
sync_sets d names x k ids keeps own some n =
    sets_text d names false x keeps ids own.below own.plain some (reset_block d names x (domain_reset (slice_get d.domains k))) n (reset_sets d names x n (domain_reset (slice_get d.domains k)))

-- the block of a signal assigns its net alone
pub sets_alone : (d : Design) (names : List Name) (x : ℕ) → Keeps d → IsLowered d → (r : Drive) → drive d x ≡ r → SetsAlone d names x r
sets_alone d names x keeps low Input e = tt
sets_alone d names x keeps low Undriven e = tt
sets_alone d names x keeps low (CombAssign value) e = tt
sets_alone d names x keeps low (CombBlock ids) e = comb_sets d names x ids keeps (comb_own d x ids keeps low e)
sets_alone d names x keeps low (Sync k ids) e = sync_sets d names x k ids keeps (sync_own d x k ids keeps low e) (sync_some d x k ids e)

-- the reset, where there is one
reset_fits : (d : Design) (names : List Name) (m : VModule) (x : ℕ) → Keeps d → LetsRead d names m → x < length d.signals → is_register m (net names x) ≡ true → IsFit m (reset_text d x)
    → (o : Option SigId) → ((r : SigId) → o ≡ Some r → IsFit m (Net (net names r.0))) → BlockFits m (net names x) false (reset_block d names x o)
reset_fits d names m x keeps lets lt register reset None reads = record { names = refl; widths = refl; fits = refl }
reset_fits d names m x keeps lets lt register reset (Some r) reads =
    by_choice (λ b. BlockFits m (net names x) false b) (made (circuit_of d) x).reset_less
    EndBlock (InBlock (When (Net (net names r.0)) (InBlock (Assign (Whole (net names x)) false (reset_text d x)) EndBlock) NoElse) EndBlock)
    (λ h. record { names = refl; widths = refl; fits = refl })
    (λ h.
    let on = reads r refl in
    let right = bits_widths d names m x keeps lets lt AllBits (reset_text d x) reset in
    record {
      names = rw (on.names, register, reset.names) refl;
      widths = rw (alone_from_owns (sizes m) (Net (net names r.0)) on.widths, right) refl;
      fits = rw ((bytes_eq-Decides (net names x) (net names x)).1 refl) refl;
    })

-- an always block that may stand in the module
pub record AlwaysFits (m : VModule) (a : VAlways) : Type 0 where
  pub names : always_names m a ≡ true
  pub widths : always_widths (sizes m) a ≡ true
  pub fits : always_fits a ≡ true

-- the block of `always @(*)` for x may stand in the module
pub comb_fits : (d : Design) (names : List Name) (m : VModule) (x : ℕ) → Keeps d → IsLowered d → LetsRead d names m → OperandsFit d names m → is_register m (net names x) ≡ true → x < length d.signals → IsFit m (reset_text d x)
    → (ids : List StmtId) → drive d x ≡ CombBlock ids → AlwaysFits m (record { clock = None; body = comb_body d names x ids })
comb_fits d names m x keeps low lets operands register lt reset ids e =
    let own = comb_own d x ids keeps low e in
    let rest = text_fits d names m true x keeps lets operands register lt ids own.plain EndBlock (record { names = refl; widths = refl; fits = refl }) in
    let right = bits_widths d names m x keeps lets lt AllBits (reset_text d x) reset in
    record {
      names = rw (register, reset.names) rest.names;
      widths = rw right rest.widths;
      fits = rw ((bytes_eq-Decides (net names x) (net names x)).1 refl) rest.fits;
    }

-- so may the clocked block for x
pub sync_fits : (d : Design) (names : List Name) (m : VModule) (x : ℕ) → Keeps d → IsLowered d → LetsRead d names m → OperandsFit d names m → is_register m (net names x) ≡ true → x < length d.signals → IsFit m (reset_text d x)
    → (k : ℕ) (ids : List StmtId) → drive d x ≡ Sync k ids → is_input (clock d k) m.ports ≡ true → AlwaysFits m (record { clock = Some (clock d k); body = sync_body d names x k ids })
sync_fits d names m x keeps low lets operands register lt reset k ids e input =
    let own = sync_own d x k ids keeps low e in
    let end = reset_block d names x (domain_reset (slice_get d.domains k)) in
    let last = reset_fits d names m x keeps lets lt register reset (domain_reset (slice_get d.domains k)) (λ r h. signal_fits d names m keeps lets r.0 (reset_within d keeps k r h)) in
    let target = text_target d names false x keeps ids own.below own.plain (sync_some d x k ids e) end in
    let rest = text_fits d names m false x keeps lets operands register lt ids own.plain end last in
    record {
      names = and_from (is_input (clock d k) m.ports) (block_names m (sync_body d names x k ids)) input rest.names;
      widths = rest.widths;
      fits = ap (λ (o : Option Name). target_fits false o (sync_body d names x k ids)) target ∙ rest.fits;
    }
