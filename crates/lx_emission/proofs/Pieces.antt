-- What the taken assignments do to the pattern of one signal, and the statements of one signal alone.
use Rattle.std.proofs.Common.{◌≡◌, ℕ, ℤ, zero, suc, ◌+◌, ◌^◌, ◌<◌, ◌≤◌, Bool, true, false, ◌&&◌, List, [], ◌∷◌, length, nat_eq, nat_lt, not, cond, refl, sym, ◌∙◌, ap, subst, arith, eqb-true}
use Rattle.std.specs.Prelude.{Option, Some, None, slice_get, IsTrue}
use Rattle.std.proofs.lemmas.Bool.{and_parts, and_from}
use Rattle.lx_num.specs.Ints.{modulo}
use Rattle.lx_circuit.specs.Shapes.{Shapes}
use Rattle.lx_circuit.specs.Places.{Values}
use Rattle.lx_circuit.specs.Values.{value_of, is_zero}
use Rattle.lx_circuit.specs.Terms.{Term}
use Rattle.lx_circuit.specs.Statements as tree
use Rattle.lx_circuit.specs.Statements.{Piece, laid_over, piece, pieces, taken, taken_block, after_pieces, drives, drives_branch, drives_block}
use Rattle.lx_circuit.proofs.Cases.{by_test, after_append}
use Rattle.lx_circuit.proofs.Frames.{stmt_leaves}
use Rattle.lx_vtext.specs.Tree.{Name}
use Rattle.lx_fhdl.specs.Below.{ExprId, StmtId, all_stmts_below}
use Rattle.lx_fhdl.specs.Designs.{term, target, stmt, block, shapes}
use Rattle.lx_fhdl.specs.Stmts.{target_at, block_at, stmt_at}
use Rattle.lx_fhdl.specs.Lowered.{is_plain_target, is_for, branches_are_for, are_for, is_lone, is_done, IsPlain, ArePlain}
use Rattle.lx_fhdl.specs.Keeping.{Keeps, StmtStands}
use Rattle.lx_fhdl.specs.declared.stmts.Target.{Target}
use Rattle.lx_fhdl.specs.declared.stmts.Target.TheVariants as a_target
use Rattle.lx_fhdl.specs.declared.stmts.Stmt.{Stmt}
use Rattle.lx_fhdl.specs.declared.stmts.Stmt.TheVariants as a_stmt
use Rattle.lx_fhdl.specs.declared.design.Design.{Design}
use Rattle.lx_emission.specs.Signals.{own, is_whole, whole_value, single}
use Rattle.lx_emission.specs.Texts.{covers}
use Rattle.lx_arena.specs.Folds.{fold_at}
use Rattle.lx_emission.proofs.Levels.{target_of, target_within, stmt_of, stmt_within}
use Rattle.lx_circuit.proofs.Whole.{laid_whole}
use Rattle.lx_circuit.proofs.Fitting.{laid_over_below}
use Rattle.lx_vmeaning.proofs.Frames.{some_of}

true_of : (b : Bool) → IsTrue b → b ≡ true
true_of b h = h

-- ---- targets

-- the bits of a target are bits of its signal
abbrev pub IsInside : Shapes → tree.Target → Type 0
IsInside s (tree.Whole y) = Unit {0}
IsInside s (tree.Part y low len) = low + len ≤ (s y).bits
IsInside s (tree.CatTarget parts) = Unit {0}
IsInside s (tree.PickTarget items index) = Unit {0}

-- so do a design's
pub target_inside : (d : Design) (k : ℕ) → Keeps d → IsInside (shapes d) (target d k)
unfolding fold_at target_at
target_inside d k keeps = by_place (slice_get d.targets k) refl
  where
    by_place : (o : Option Target) → slice_get d.targets k ≡ o → IsInside (shapes d) (target_of (term d) (target_within (term d) d.targets k) o)
    by_place (Some (a_target.Whole y)) e = tt
    by_place (Some (a_target.Part y low len)) e = (keeps.arenas.targets k (a_target.Part y low len) e).2
    by_place (Some (a_target.Cat parts)) e = tt
    by_place (Some (a_target.Pick items index)) e = tt
    by_place None e = tt

-- an assignment to the signal
pub after_piece : (x y p low len : ℕ) (z : ℤ) → nat_eq y x ≡ true → after_pieces x p (piece y low len z ∷ []) ≡ laid_over p low len z
after_piece x y p low len z e = ap (λ b. cond b (laid_over p low len z) p) e

pub same_bits : (s : Shapes) (y x : ℕ) → nat_eq y x ≡ true → (s y).bits ≡ (s x).bits
same_bits s y x e = ap (λ (k : ℕ). (s k).bits) (eqb-true y x e)

target_below : (s : Shapes) (v : Values) (x : ℕ) (t : tree.Target) (z : ℤ) → IsInside s t → is_plain_target x t ≡ true → (old : ℕ) → old < 2 ^ (s x).bits → after_pieces x old (pieces s v t z) < 2 ^ (s x).bits
target_below s v x (tree.Whole y) z i e old l =
    let n = same_bits s y x e in
    subst (λ (q : ℕ). q < 2 ^ (s x).bits) (sym (after_piece x y old 0 (s y).bits z e)) (laid_over_below (s x).bits old 0 (s y).bits z (omega arith) l)
target_below s v x (tree.Part y low len) z i e old l =
    let n = same_bits s y x e in
    subst (λ (q : ℕ). q < 2 ^ (s x).bits) (sym (after_piece x y old low len z e)) (laid_over_below (s x).bits old low len z (omega arith) l)
target_below s v x (tree.CatTarget parts) z i e old l = absurd (cc)
target_below s v x (tree.PickTarget items index) z i e old l = absurd (cc)

-- ---- statements for a signal

-- a statement for the signal keeps its bits
abbrev pub KeepsBits : Shapes → Values → ℕ → tree.Stmt → Type 0
KeepsBits s v x st = is_for x st ≡ true → (old : ℕ) → old < 2 ^ (s x).bits → after_pieces x old (taken s v st) < 2 ^ (s x).bits

pub block_keeps : (s : Shapes) (v : Values) (x : ℕ) (g : ℕ → tree.Stmt) → ((k : ℕ) → KeepsBits s v x (g k)) → (ids : List StmtId) → are_for x (block_at g ids) ≡ true → (old : ℕ) → old < 2 ^ (s x).bits → after_pieces x old (taken_block s v (block_at g ids)) < 2 ^ (s x).bits
block_keeps s v x g h [] e old l = l
block_keeps s v x g h (i ∷ is) e old l =
    let p = and_parts (is_for x (g i.place)) (are_for x (block_at g is)) e in
    subst (λ (q : ℕ). q < 2 ^ (s x).bits) (sym (after_append x old (taken s v (g i.place)) (taken_block s v (block_at g is))))
    (block_keeps s v x g h is p.1 (after_pieces x old (taken s v (g i.place))) (h i.place p.0 old l))

-- the two blocks of a condition are for the signal
pub both_are_for : (x : ℕ) (c : Term) (b rest : tree.Block) → is_for x (tree.If (tree.Branch c b tree.NoBranch) rest) ≡ true → (are_for x b ≡ true) × (are_for x rest ≡ true)
both_are_for x c b rest e =
    let p = and_parts (not (is_done b && is_done rest)) ((are_for x b && true) && are_for x rest) e in
    let q = and_parts (are_for x b && true) (are_for x rest) p.1 in
    ((and_parts (are_for x b) true q.0).0, q.1)

choice_below : (x old n : ℕ) (b : Bool) (ps qs : List Piece) → after_pieces x old ps < n → after_pieces x old qs < n → after_pieces x old (cond b ps qs) < n
choice_below x old n true ps qs h k = h
choice_below x old n false ps qs h k = k

stmt_keeps : (d : Design) (v : Values) (x : ℕ) (g : ℕ → tree.Stmt) → Keeps d → ((k : ℕ) → KeepsBits (shapes d) v x (g k)) → (o : Option Stmt) → KeepsBits (shapes d) v x (stmt_of (term d) (target d) g o)
stmt_keeps d v x g keeps h None e old l = absurd (cc)
stmt_keeps d v x g keeps h (Some (a_stmt.Assign target_id value line)) e old l =
    target_below (shapes d) v x (target d target_id.place) (value_of (shapes d) v (term d value.place)) (target_inside d target_id.place keeps) e old l
stmt_keeps d v x g keeps h (Some (a_stmt.If [] rest line)) e old l = absurd (cc)
stmt_keeps d v x g keeps h (Some (a_stmt.If (b ∷ (c ∷ cs)) rest line)) e old l = absurd (cc)
stmt_keeps d v x g keeps h (Some (a_stmt.If (b ∷ []) rest line)) e old l =
    let both = both_are_for x (term d b.cond.place) (block_at g b.body) (block_at g rest) e in
    choice_below x old (2 ^ (shapes d x).bits) (is_zero (value_of (shapes d) v (term d b.cond.place))) (taken_block (shapes d) v (block_at g rest)) (taken_block (shapes d) v (block_at g b.body))
    (block_keeps (shapes d) v x g h rest both.1 old l)
    (block_keeps (shapes d) v x g h b.body both.0 old l)
stmt_keeps d v x g keeps h (Some (a_stmt.Case on arms rest line)) e old l = absurd (cc)

pub within_keeps : (d : Design) (v : Values) (x : ℕ) → Keeps d → (n k : ℕ) → KeepsBits (shapes d) v x (stmt_within (term d) (target d) d.stmts n k)
within_keeps d v x keeps zero k e old l = absurd (cc)
within_keeps d v x keeps (suc n) k e old l = stmt_keeps d v x (stmt_within (term d) (target d) d.stmts n) keeps (within_keeps d v x keeps n) (slice_get d.stmts k) e old l

pub stmt_at_keeps : (d : Design) (v : Values) (x : ℕ) → Keeps d → (k : ℕ) → KeepsBits (shapes d) v x (stmt d k)
unfolding fold_at stmt_at
stmt_at_keeps d v x keeps k e old l = within_keeps d v x keeps (suc k) k e old l

-- statements for a signal leave it a pattern of its bits
pub pieces_below : (d : Design) (v : Values) (x : ℕ) → Keeps d → (ids : List StmtId) → all_stmts_below (length d.stmts) ids ≡ true → are_for x (block d ids) ≡ true → (old : ℕ) → old < 2 ^ (shapes d x).bits → after_pieces x old (taken_block (shapes d) v (block d ids)) < 2 ^ (shapes d x).bits
pieces_below d v x keeps ids there e old l = block_keeps (shapes d) v x (stmt d) (stmt_at_keeps d v x keeps) ids e old l

-- ---- the statements that assign a signal

-- a statement for one signal drives no other
mutual
  driven_is : (x y : ℕ) (st : tree.Stmt) → is_for y st ≡ true → drives x st ≡ true → y ≡ x
  driven_is x y (tree.Assign (tree.Whole z) value) e f = sym (eqb-true z y e) ∙ eqb-true z x f
  driven_is x y (tree.Assign (tree.Part z low len) value) e f = sym (eqb-true z y e) ∙ eqb-true z x f
  driven_is x y (tree.Assign (tree.CatTarget parts) value) e f = absurd (cc)
  driven_is x y (tree.Assign (tree.PickTarget items index) value) e f = absurd (cc)
  driven_is x y (tree.If bs rest) e f =
      let p = and_parts (is_lone bs rest) (branches_are_for y bs && are_for y rest) e in
      let q = and_parts (branches_are_for y bs) (are_for y rest) p.1 in
      some_of (drives_branch x bs) (drives_block x rest) f (branches_driven_are x y bs q.0) (block_driven_is x y rest q.1)
  driven_is x y (tree.Case on arms rest) e f = absurd (cc)

  branches_driven_are : (x y : ℕ) (bs : tree.Branches) → branches_are_for y bs ≡ true → drives_branch x bs ≡ true → y ≡ x
  branches_driven_are x y tree.NoBranch e f = absurd (cc)
  branches_driven_are x y (tree.Branch c b more) e f =
      let p = and_parts (are_for y b) (branches_are_for y more) e in
      some_of (drives_block x b) (drives_branch x more) f (block_driven_is x y b p.0) (branches_driven_are x y more p.1)

  block_driven_is : (x y : ℕ) (b : tree.Block) → are_for y b ≡ true → drives_block x b ≡ true → y ≡ x
  block_driven_is x y tree.Done e f = absurd (cc)
  block_driven_is x y (tree.Then st ss) e f =
      let p = and_parts (is_for y st) (are_for y ss) e in
      some_of (drives x st) (drives_block x ss) f (driven_is x y st p.0) (block_driven_is x y ss p.1)

driven_is_for : (x : ℕ) (st : tree.Stmt) → IsPlain st → drives x st ≡ true → is_for x st ≡ true
driven_is_for x st plain e = subst (λ (y : ℕ). is_for y st ≡ true) (driven_is x plain.signal st (true_of (is_for plain.signal st) plain.alone) e) (true_of (is_for plain.signal st) plain.alone)

pub own_for : (d : Design) (x : ℕ) (ids : List StmtId) → ArePlain (block d ids) → are_for x (block d (own d x ids)) ≡ true
unfolding own
own_for d x [] plain = refl
own_for d x (i ∷ is) plain =
    by_test (drives x (stmt d i.place))
    (λ e. rw e (and_from (is_for x (stmt d i.place)) (are_for x (block d (own d x is))) (driven_is_for x (stmt d i.place) plain.0 e) (own_for d x is plain.1)))
    (λ e. rw e (own_for d x is plain.1))

pub own_takes : (d : Design) (v : Values) (x : ℕ) (ids : List StmtId) → ArePlain (block d ids) → (old : ℕ) → after_pieces x old (taken_block (shapes d) v (block d (own d x ids))) ≡ after_pieces x old (taken_block (shapes d) v (block d ids))
unfolding own
own_takes d v x [] plain old = refl
own_takes d v x (i ∷ is) plain old =
    let here = taken (shapes d) v (stmt d i.place) in
    let rest = taken_block (shapes d) v (block d is) in
    let owned = taken_block (shapes d) v (block d (own d x is)) in
    by_test (drives x (stmt d i.place))
    (λ e. rw e (after_append x old here owned ∙ own_takes d v x is plain.1 (after_pieces x old here) ∙ sym (after_append x old here rest)))
    (λ e. rw e (own_takes d v x is plain.1 old ∙ ap (λ (p : ℕ). after_pieces x p rest) (sym (stmt_leaves (shapes d) v x (stmt d i.place) e old)) ∙ sym (after_append x old here rest)))

pub own_below : (d : Design) (x n : ℕ) (ids : List StmtId) → all_stmts_below n ids ≡ true → all_stmts_below n (own d x ids) ≡ true
unfolding own
own_below d x n [] e = refl
own_below d x n (i ∷ is) e =
    let p = and_parts (nat_lt i.place n) (all_stmts_below n is) e in
    by_test (drives x (stmt d i.place))
    (λ f. rw f (and_from (nat_lt i.place n) (all_stmts_below n (own d x is)) p.0 (own_below d x n is p.1)))
    (λ f. rw f (own_below d x n is p.1))

pub own_some : (d : Design) (x : ℕ) (ids : List StmtId) → drives_block x (block d ids) ≡ true → 0 < length (own d x ids)
unfolding own
own_some d x [] e = absurd (cc)
own_some d x (i ∷ is) e =
    by_test (drives x (stmt d i.place))
    (λ f. rw f (omega arith))
    (λ f. rw f (own_some d x is (some_of (drives x (stmt d i.place)) (drives_block x (block d is)) e (λ t. absurd (cc)) (λ t. t))))

-- ---- one whole assignment

-- bits that are all of a pattern
pub laid_covering : (p low len n : ℕ) (z : ℤ) → covers n low len ≡ true → p < 2 ^ n → laid_over p low len z ≡ modulo z (2 ^ n)
laid_covering p low len n z e h =
    let q = and_parts (nat_eq low 0) (nat_eq len n) e in
    ap (λ (k : ℕ). laid_over p k len z) (eqb-true low 0 q.0) ∙ ap (λ (k : ℕ). laid_over p 0 k z) (eqb-true len n q.1) ∙ laid_whole p n z h

-- a whole target of the signal takes all its bits
whole_takes : (d : Design) (v : Values) (x : ℕ) (g : ℕ → tree.Target) (z : ℤ) (o : Option Target) → is_whole d o ≡ true → is_plain_target x (target_of (term d) g o) ≡ true
    → (old : ℕ) → old < 2 ^ (shapes d x).bits → after_pieces x old (pieces (shapes d) v (target_of (term d) g o) z) ≡ modulo z (2 ^ (shapes d x).bits)
whole_takes d v x g z (Some (a_target.Whole y)) w e old l =
    let n = same_bits (shapes d) y.0 x e in
    after_piece x y.0 old 0 (shapes d y.0).bits z e ∙ ap (λ (k : ℕ). laid_over old 0 k z) n ∙ laid_whole old (shapes d x).bits z l
whole_takes d v x g z (Some (a_target.Part y low len)) w e old l =
    let n = same_bits (shapes d) y.0 x e in
    after_piece x y.0 old low len z e ∙ laid_covering old low len (shapes d x).bits z (ap (λ (k : ℕ). covers k low len) (sym n) ∙ w) l
whole_takes d v x g z (Some (a_target.Cat parts)) w e old l = absurd (cc)
whole_takes d v x g z (Some (a_target.Pick items index)) w e old l = absurd (cc)
whole_takes d v x g z None w e old l = absurd (cc)

target_takes : (d : Design) (v : Values) (x : ℕ) (z : ℤ) (k : ℕ) → is_whole d (slice_get d.targets k) ≡ true → is_plain_target x (target d k) ≡ true
    → (old : ℕ) → old < 2 ^ (shapes d x).bits → after_pieces x old (pieces (shapes d) v (target d k) z) ≡ modulo z (2 ^ (shapes d x).bits)
unfolding fold_at target_at
target_takes d v x z k w e old l = whole_takes d v x (target_within (term d) d.targets k) z (slice_get d.targets k) w e old l

-- what a right side alone gives its signal
abbrev IsGiven : Design → Values → ℕ → ExprId → tree.Block → Type 0
IsGiven d v x value b =
    (value.place < length d.exprs) × ((old : ℕ) → old < 2 ^ (shapes d x).bits → after_pieces x old (taken_block (shapes d) v b) ≡ modulo (value_of (shapes d) v (term d value.place)) (2 ^ (shapes d x).bits))

some_value : (b : Bool) (x y : ExprId) → cond b (Some x) None ≡ Some y → (b ≡ true) × (x ≡ y)
some_value true x y e = (refl, cc)
some_value false x y e = absurd (cc)

stmt_given : (d : Design) (v : Values) (x : ℕ) (g : ℕ → tree.Stmt) (value : ExprId) (o : Option Stmt) → ((a : Stmt) → o ≡ Some a → StmtStands (length d.exprs) (length d.targets) a) → whole_value d o ≡ Some value
    → is_for x (stmt_of (term d) (target d) g o) ≡ true → IsGiven d v x value (tree.Then (stmt_of (term d) (target d) g o) tree.Done)
stmt_given d v x g value (Some (a_stmt.Assign target_id right line)) stands w e =
    let q = some_value (is_whole d (slice_get d.targets target_id.place)) right value w in
    let z = value_of (shapes d) v (term d right.place) in
    subst (λ (i : ExprId). IsGiven d v x i (tree.Then (tree.Assign (target d target_id.place) (term d right.place)) tree.Done)) q.1
    ((stands (a_stmt.Assign target_id right line) refl).1, λ old l. after_append x old (pieces (shapes d) v (target d target_id.place) z) [] ∙ target_takes d v x z target_id.place q.0 e old l)
stmt_given d v x g value (Some (a_stmt.If branches rest line)) stands w e = absurd (cc)
stmt_given d v x g value (Some (a_stmt.Case on arms rest line)) stands w e = absurd (cc)
stmt_given d v x g value None stands w e = absurd (cc)

at_given : (d : Design) (v : Values) (x : ℕ) → Keeps d → (value : ExprId) (k : ℕ) → whole_value d (slice_get d.stmts k) ≡ Some value → is_for x (stmt d k) ≡ true → IsGiven d v x value (tree.Then (stmt d k) tree.Done)
unfolding fold_at stmt_at
at_given d v x keeps value k w e = stmt_given d v x (stmt_within (term d) (target d) d.stmts k) value (slice_get d.stmts k) (keeps.arenas.stmts k) w e

-- a list that is one whole assignment gives its right side
pub single_value : (d : Design) (names : List Name) (v : Values) (x : ℕ) → Keeps d → x < length d.signals → (ids : List StmtId) → all_stmts_below (length d.stmts) ids ≡ true → are_for x (block d ids) ≡ true
    → (value : ExprId) → single d ids ≡ Some value
    → (value.place < length d.exprs) × ((old : ℕ) → old < 2 ^ (shapes d x).bits → after_pieces x old (taken_block (shapes d) v (block d ids)) ≡ modulo (value_of (shapes d) v (term d value.place)) (2 ^ (shapes d x).bits))
single_value d names v x keeps made [] there e value s = absurd (cc)
single_value d names v x keeps made (i ∷ []) there e value s = at_given d v x keeps value i.place s (and_parts (is_for x (stmt d i.place)) true e).0
single_value d names v x keeps made (i ∷ (j ∷ is)) there e value s = absurd (cc)
