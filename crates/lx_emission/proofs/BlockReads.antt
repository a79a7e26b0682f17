-- What the texts of the statements for one signal read.
use Rattle.std.proofs.Common.{◌≡◌, ℕ, ◌+◌, ◌<◌, Bool, true, false, ◌&&◌, ◌||◌, List, [], ◌∷◌, length, refl, ◌∙◌, arith, inl, inr, ◌⊎◌}
use Rattle.std.proofs.lemmas.Bool.{and_parts, and_from, or_left, or_right}
use Rattle.lx_circuit.specs.Places.{Place, At}
use Rattle.lx_circuit.specs.Statements as tree
use Rattle.lx_circuit.specs.Reads as circuit
use Rattle.lx_vtext.specs.Tree.{Name, VStmt, When, VBlock, EndBlock}
use Rattle.lx_vmeaning.specs.Loops.{reads, stmt_reads, else_reads, block_reads}
use Rattle.lx_vmeaning.proofs.Frames.{some_of}
use Rattle.lx_fhdl.specs.Below.{StmtId, all_stmts_below}
use Rattle.lx_fhdl.specs.Stmts.{block_at}
use Rattle.lx_fhdl.specs.Designs.{term, stmt, block}
use Rattle.lx_fhdl.specs.Lowered.{is_plain_target, is_for, are_for}
use Rattle.lx_fhdl.specs.Keeping.{Keeps}
use Rattle.lx_fhdl.specs.declared.design.Design.{Design}
use Rattle.lx_emission.specs.Nodes.{operand}
use Rattle.lx_emission.specs.Signals.{own}
use Rattle.lx_emission.specs.Texts.{block_onto, else_text, stmt_text}
use Rattle.lx_emission.proofs.Blocks.{text_holds, by_choice}

-- a name is read by the text of an expression, whose signals x reads in these statements
pub record TextReads (d : Design) (names : List Name) (x : ℕ) (ids : List StmtId) (n : Name) : Type 0 where
  pub place : ℕ
  pub within : place < length d.exprs
  pub read : reads n (operand d names place) ≡ true
  pub signals : (y : ℕ) → circuit.names (At y) (term d place) ≡ true → circuit.reads_block x (At y) (block d ids) ≡ true

-- the same of any test of signals
record ReadsBy (d : Design) (names : List Name) (n : Name) (test : ℕ → Bool) : Type 0 where
  place : ℕ
  within : place < length d.exprs
  read : reads n (operand d names place) ≡ true
  signals : (y : ℕ) → circuit.names (At y) (term d place) ≡ true → test y ≡ true

-- and of a test that more signals pass
wider : (d : Design) (names : List Name) (n : Name) (f g : ℕ → Bool) → ((y : ℕ) → f y ≡ true → g y ≡ true) → ReadsBy d names n f → ReadsBy d names n g
wider d names n f g h r = record { place = r.place; within = r.within; read = r.read; signals = λ y e. h y (r.signals y e) }

-- what a statement for x has: it drives x, and its text reads what it reads
record StmtReads (d : Design) (names : List Name) (x : ℕ) (n : Name) (s : tree.Stmt) (v : VStmt) : Type 0 where
  drives : tree.drives x s ≡ true
  reads : stmt_reads n v ≡ true → ReadsBy d names n (λ y. circuit.reads x (At y) s)

pub plain_is_target : (x : ℕ) (t : tree.Target) → is_plain_target x t ≡ true → tree.is_target x t ≡ true
plain_is_target x (tree.Whole y) h = h
plain_is_target x (tree.Part y low len) h = h
plain_is_target x (tree.CatTarget parts) h = absurd (cc)
plain_is_target x (tree.PickTarget items index) h = absurd (cc)

list_drives : (d : Design) (names : List Name) (x : ℕ) (n : Name) (s : ℕ → tree.Stmt) (g : ℕ → VStmt) → ((j : ℕ) → is_for x (s j) ≡ true → StmtReads d names x n (s j) (g j)) → (ids : List StmtId)
    → are_for x (block_at s ids) ≡ true → 0 < length ids → tree.drives_block x (block_at s ids) ≡ true
list_drives d names x n s g h [] plain some = absurd (omega arith)
list_drives d names x n s g h (i ∷ is) plain some =
    or_left (tree.drives x (s i.place)) (tree.drives_block x (block_at s is)) (h i.place (and_parts (is_for x (s i.place)) (are_for x (block_at s is)) plain).0).drives

list_reads : (d : Design) (names : List Name) (x : ℕ) (n : Name) (s : ℕ → tree.Stmt) (g : ℕ → VStmt) → ((j : ℕ) → is_for x (s j) ≡ true → StmtReads d names x n (s j) (g j)) → (ids : List StmtId)
    → are_for x (block_at s ids) ≡ true → (end : VBlock) → block_reads n (block_onto g ids end) ≡ true → (block_reads n end ≡ true) ⊎ ReadsBy d names n (λ y. circuit.reads_block x (At y) (block_at s ids))
list_reads d names x n s g h [] plain end e = inl e
list_reads d names x n s g h (i ∷ is) plain end e =
    let p = and_parts (is_for x (s i.place)) (are_for x (block_at s is)) plain in
    let here = λ (y : ℕ). circuit.reads x (At y) (s i.place) in
    let later = λ (y : ℕ). circuit.reads_block x (At y) (block_at s is) in
    let all = λ (y : ℕ). here y || later y in
    some_of (stmt_reads n (g i.place)) (block_reads n (block_onto g is end)) e
    (λ f. inr (wider d names n here all (λ y r. or_left (here y) (later y) r) ((h i.place p.0).reads f)))
    (λ f. elim (list_reads d names x n s g h is p.1 end f) [
      | inl k ↦ inl k
      | inr k ↦ inr (wider d names n later all (λ y r. or_right (here y) (later y) r) k)
    ])

read_here : {A : Type 0} → (false ≡ true) ⊎ A → A
read_here (inl e) = absurd (cc)
read_here (inr k) = k

else_reads_by : (d : Design) (names : List Name) (x : ℕ) (n : Name) (s : ℕ → tree.Stmt) (g : ℕ → VStmt) → ((j : ℕ) → is_for x (s j) ≡ true → StmtReads d names x n (s j) (g j)) → (ids : List StmtId)
    → are_for x (block_at s ids) ≡ true → else_reads n (else_text g ids) ≡ true → ReadsBy d names n (λ y. circuit.reads_block x (At y) (block_at s ids))
else_reads_by d names x n s g h [] plain e = absurd (cc)
else_reads_by d names x n s g h (i ∷ is) plain e = read_here (list_reads d names x n s g h (i ∷ is) plain EndBlock e)

some_drives : (d : Design) (names : List Name) (x : ℕ) (n : Name) (s : ℕ → tree.Stmt) (g : ℕ → VStmt) → ((j : ℕ) → is_for x (s j) ≡ true → StmtReads d names x n (s j) (g j)) → (body rest : List StmtId)
    → are_for x (block_at s body) ≡ true → are_for x (block_at s rest) ≡ true → 0 < length body + length rest → (tree.drives_block x (block_at s body) || tree.drives_block x (block_at s rest)) ≡ true
some_drives d names x n s g h [] rest p q some = list_drives d names x n s g h rest q (omega arith)
some_drives d names x n s g h (i ∷ is) rest p q some =
    or_left (tree.drives_block x (block_at s (i ∷ is))) (tree.drives_block x (block_at s rest)) (list_drives d names x n s g h (i ∷ is) p (omega arith))

or_none : (a b : Bool) → ((a || false) || b) ≡ (a || b)
or_none true b = refl
or_none false b = refl

when_reads : (d : Design) (names : List Name) (x : ℕ) (n : Name) (s : ℕ → tree.Stmt) (g : ℕ → VStmt) (k : ℕ) (body rest : List StmtId) → k < length d.exprs → ((j : ℕ) → is_for x (s j) ≡ true → StmtReads d names x n (s j) (g j))
    → are_for x (block_at s body) ≡ true → are_for x (block_at s rest) ≡ true → 0 < length body + length rest
    → StmtReads d names x n (tree.If (tree.Branch (term d k) (block_at s body) tree.NoBranch) (block_at s rest)) (When (operand d names k) (block_onto g body EndBlock) (else_text g rest))
when_reads d names x n s g k body rest l h p q some =
    let driven = some_drives d names x n s g h body rest p q some in
    let drives = tree.drives_block x (block_at s body) || tree.drives_block x (block_at s rest) in
    let on = λ (y : ℕ). circuit.names (At y) (term d k) && drives in
    let so = λ (y : ℕ). circuit.reads_block x (At y) (block_at s body) in
    let other = λ (y : ℕ). circuit.reads_block x (At y) (block_at s rest) in
    let all = λ (y : ℕ). on y || (so y || other y) in
    record {
      drives = or_none (tree.drives_block x (block_at s body)) (tree.drives_block x (block_at s rest)) ∙ driven;
      reads = λ e.
          some_of (reads n (operand d names k)) (block_reads n (block_onto g body EndBlock) || else_reads n (else_text g rest)) e
          (λ f. record { place = k; within = l; read = f; signals = λ y r. or_left (on y) (so y || other y) (and_from (circuit.names (At y) (term d k)) drives r driven) })
          (λ f.
          some_of (block_reads n (block_onto g body EndBlock)) (else_reads n (else_text g rest)) f
          (λ r. wider d names n so all (λ y t. or_right (on y) (so y || other y) (or_left (so y) (other y) t)) (read_here (list_reads d names x n s g h body p EndBlock r)))
          (λ r. wider d names n other all (λ y t. or_right (on y) (so y || other y) (or_right (so y) (other y) t)) (else_reads_by d names x n s g h rest q r)));
    }

stmt_text_reads : (d : Design) (names : List Name) (now : Bool) (x : ℕ) → Keeps d → (n : Name) (k : ℕ) → is_for x (stmt d k) ≡ true → StmtReads d names x n (stmt d k) (stmt_text d names now k)
stmt_text_reads d names now x keeps n = text_holds d names now x (λ s v. StmtReads d names x n s v) keeps (record {
  assigns = λ t c k h made l.
      let target = plain_is_target x t h in
      record {
        drives = target;
        reads = λ e. record {
          place = k;
          within = l;
          read = e;
          signals = λ y r. and_from (tree.is_target x t) (circuit.names (At y) (term d k) || circuit.target_names (At y) t) target (or_left (circuit.names (At y) (term d k)) (circuit.target_names (At y) t) r);
        };
      };
  chooses = λ s g k body rest l h p q some. when_reads d names x n s g k body rest l h p q some;
})

-- what a block of statements for x reads, past its end, x reads in the statements
pub text_reads : (d : Design) (names : List Name) (now : Bool) (x : ℕ) → Keeps d → (ids : List StmtId) → all_stmts_below (length d.stmts) ids ≡ true → are_for x (block d ids) ≡ true
    → (end : VBlock) (n : Name) → block_reads n (block_onto (stmt_text d names now) ids end) ≡ true → (block_reads n end ≡ true) ⊎ TextReads d names x ids n
text_reads d names now x keeps ids below plain end n e =
    elim (list_reads d names x n (stmt d) (stmt_text d names now) (stmt_text_reads d names now x keeps n) ids plain end e) [
      | inl k ↦ inl k
      | inr k ↦ inr (record { place = k.place; within = k.within; read = k.read; signals = k.signals })
    ]

-- the statements of a list that assign x are among its statements
pub own_reads : (d : Design) (x : ℕ) (y : Place) (ids : List StmtId) → circuit.reads_block x y (block d (own d x ids)) ≡ true → circuit.reads_block x y (block d ids) ≡ true
unfolding own
own_reads d x y [] e = e
own_reads d x y (i ∷ is) e =
    by_choice (λ ks. circuit.reads_block x y (block d ks) ≡ true → circuit.reads_block x y (block d (i ∷ is)) ≡ true) (tree.drives x (stmt d i.place)) (i ∷ own d x is) (own d x is)
    (λ h f.
    some_of (circuit.reads x y (stmt d i.place)) (circuit.reads_block x y (block d (own d x is))) f
    (λ r. or_left (circuit.reads x y (stmt d i.place)) (circuit.reads_block x y (block d is)) r)
    (λ r. or_right (circuit.reads x y (stmt d i.place)) (circuit.reads_block x y (block d is)) (own_reads d x y is r)))
    (λ h f. or_right (circuit.reads x y (stmt d i.place)) (circuit.reads_block x y (block d is)) (own_reads d x y is f))
    e
