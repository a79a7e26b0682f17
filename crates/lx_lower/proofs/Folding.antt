-- The signals and statements that are folded.
use Rattle.std.proofs.Common.{◌≡◌, ℕ, zero, suc, ◌+◌, ◌*◌, ◌^◌, ◌<◌, Bool, true, false, List, [], ◌∷◌, length, drop, get_or, to_z, of_z, refl, sym, ap, ◌∙◌, arith}
use Rattle.std.specs.Prelude.{ℤ, pos, FitsSigned, ◌==◌, Some, slice_get}
use Rattle.std.proofs.Math.Nat.{zero-mod, zero-div}
use Rattle.std.specs.Int.{w128}
use Rattle.std.proofs.lemmas.Int.{to_z-of_z, to_z_pos}
use Rattle.std.proofs.lemmas.Bool.{and_parts}
use Rattle.lx_num.specs.declared.Shape.{Shape}
use Rattle.lx_num.specs.Ints.{modulo, wrapped}
use Rattle.lx_circuit.specs.Circuit.{Made}
use Rattle.lx_circuit.specs.Shapes.{Shapes}
use Rattle.lx_circuit.specs.Statements as tree
use Rattle.lx_circuit.specs.Statements.{after_pieces, laid_over, result, taken, taken_block}
use Rattle.lx_circuit.specs.Places.{Values}
use Rattle.lx_circuit.proofs.Cases.{after_append}
use Rattle.lx_fhdl.specs.Below.{StmtId}
use Rattle.lx_fhdl.specs.Designs as design
use Rattle.lx_fhdl.specs.declared.stmts.Stmt.{Stmt}
use Rattle.lx_plain.specs.Lines.{Assigned, alone, first_line, folded_lines, lines_in}
use Rattle.lx_fhdl.specs.Designs.{circuit_of, shapes}
use Rattle.lx_fhdl.specs.Lowered.{is_done, is_for, are_for}
use Rattle.lx_fhdl.specs.Stmts.{block_at}
use Rattle.lx_fhdl.specs.declared.design.Design.{Design}
use Rattle.lx_fhdl.specs.declared.design.Signal.{Signal}
use Rattle.lx_lowering.specs.Constants.{block_reads_none, reads_none, zeros, constant_of, or_constant, folded}
use Rattle.lx_lowering.specs.Flat.{one}
use Rattle.lx_lower.specs.Fixed.{AreForFree, constant_in, folded_in, reset_of}
use Rattle.lx_flat.proofs.Items.{next_item}
use Rattle.lx_plain.proofs.Reading.{made_at}

-- ---- signals

pub signal_reset : (d : Design) (x : ℕ) (s : Signal) → slice_get d.signals x ≡ Some s → s.reset ≡ reset_of d x
unfolding circuit_of
signal_reset d x s e = ap (λ (m : Made). m.reset) (made_at d.signals x s e)

-- ---- one statement more

pub after_next : (s : Shapes) (v : Values) (f : ℕ → tree.Stmt) (x p q r : ℕ) (ids : List StmtId) (k : ℕ) (d : StmtId) → k < length ids → after_pieces x p (taken_block s v (block_at f (drop k ids))) ≡ r
    → q ≡ after_pieces x p (taken s v (f (get_or ids k d).place)) → after_pieces x q (taken_block s v (block_at f (drop (k + 1) ids))) ≡ r
after_next s v f x p q r ids k d l e g =
    let later = taken_block s v (block_at f (drop (k + 1) ids)) in
    ap (λ (n : ℕ). after_pieces x n later) g
    ∙ sym (after_append x p (taken s v (f (get_or ids k d).place)) later)
    ∙ sym (ap (λ (is : List StmtId). after_pieces x p (taken_block s v (block_at f is))) (next_item ids k d l))
    ∙ e

pub free_after : (x : ℕ) (f : ℕ → tree.Stmt) (ids : List StmtId) (k : ℕ) (d : StmtId) → k < length ids → AreForFree x (block_at f (drop k ids)) → AreForFree x (block_at f (drop (k + 1) ids))
free_after x f ids k d l h =
    let own = (get_or ids k d).place in
    let later = block_at f (drop (k + 1) ids) in
    record {
      alone = (and_parts (is_for x (f own)) (are_for x later) (sym (ap (λ (is : List StmtId). are_for x (block_at f is)) (next_item ids k d l)) ∙ h.alone)).1;
      free = (and_parts (reads_none (f own)) (block_reads_none later) (sym (ap (λ (is : List StmtId). block_reads_none (block_at f is)) (next_item ids k d l)) ∙ h.free)).1;
    }

-- ---- the constant

fold_is : (s : Shapes) (x : ℕ) (start : ℤ) (b : tree.Block) → is_done b ≡ false → block_reads_none b ≡ true → one (tree.Assign (tree.Whole x) (constant_of s x start b)) ≡ folded s x start b
fold_is s x start tree.Done e f = absurd (cc)
fold_is s x start (tree.Then t ts) e f = ap (or_constant s x start (tree.Then t ts)) (sym f)

-- the lowest bits of a number
laid_low : (n : ℕ) (z : ℤ) → laid_over 0 0 n z ≡ modulo z (2 ^ n)
laid_low n z = omega (arith, zero-mod (2 ^ 0), zero-div (2 ^ (0 + n)), ap (λ (k : ℕ). 2 ^ (0 + n) * k) (zero-div (2 ^ (0 + n))))

-- what the signal is after its statements
number_is : (s : Shapes) (x pattern after : ℕ) (b : tree.Block) (a : Shape) (reset w : ℤ) → a ≡ s x → pattern ≡ laid_over 0 0 a.bits reset → after ≡ after_pieces x pattern (taken_block s zeros b) → w ≡ wrapped a (pos after) → w ≡ result s x reset (taken_block s zeros b)
number_is s x pattern after b a reset w e p q r =
    let ps = taken_block s zeros b in
    r
    ∙ ap (λ (h : Shape). wrapped h (pos after)) e
    ∙ ap (λ (k : ℕ). wrapped (s x) (pos k)) q
    ∙ ap (λ (k : ℕ). wrapped (s x) (pos (after_pieces x k ps))) (p ∙ laid_low a.bits reset ∙ ap (λ (h : Shape). modulo reset (2 ^ h.bits)) e)

pub fold_number : (d : Design) (x pattern after : ℕ) (b : tree.Block) (a : Shape) (reset w : ℤ) → is_done b ≡ false → true ≡ block_reads_none b → a ≡ shapes d x → reset ≡ reset_of d x → FitsSigned w128 reset → FitsSigned w128 w
    → pattern ≡ laid_over 0 0 a.bits (to_z w128 (of_z w128 reset)) → after ≡ after_pieces x pattern (taken_block (shapes d) zeros b) → after < 2 ^ 64 → w ≡ wrapped a (to_z w128 after) → constant_in d x (to_z w128 (of_z w128 w)) ≡ folded_in d x b
fold_number d x pattern after b a reset w some f e g h i p q l r =
    let s = shapes d in
    let pattern_is = p ∙ ap (laid_over 0 0 a.bits) (to_z-of_z w128 reset h) in
    let wrapped_is = r ∙ ap (wrapped a) (to_z_pos w128 after (omega arith)) in
    ap (constant_in d x) (to_z-of_z w128 w i ∙ number_is s x pattern after b a reset w e pattern_is q wrapped_is ∙ ap (λ (z : ℤ). result s x z (taken_block s zeros b)) g)
    ∙ fold_is s x (reset_of d x) b some (sym f)

pub some_done : (f : ℕ → tree.Stmt) (ids : List StmtId) (b : Bool) → b ≡ (length ids == 0) → b ≡ false → is_done (block_at f ids) ≡ false
some_done f [] b e h = absurd (cc)
some_done f (i ∷ is) b e h = refl

-- ---- nodes of a draft

pub block_some : (f : ℕ → tree.Stmt) (ids : List StmtId) → 0 < length ids → is_done (block_at f ids) ≡ false
block_some f [] l = absurd (omega arith)
block_some f (i ∷ is) l = refl

-- ---- the lines

pub none_folded : (f : ℕ → List Assigned) (ids : List StmtId) (none : Bool) → ids ≡ [] → lines_in f ids ≡ folded_lines none (lines_in f ids)
none_folded f ids none e = ap (lines_in f) e ∙ by_test none ∙ sym (ap (λ (is : List StmtId). folded_lines none (lines_in f is)) e)
  where
    by_test : (b : Bool) → [] ≡ folded_lines b []
    by_test true = refl
    by_test false = refl

pub line_folded : (ls : List Assigned) (line : ℕ) (none : Bool) → true ≡ none → first_line ls ≡ Some line → alone line ∷ [] ≡ folded_lines none ls
line_folded [] line none e h = absurd (cc)
line_folded (l ∷ ls) line none e h = let same : l.line ≡ line = cc in ap (λ (k : ℕ). alone k ∷ []) (sym same) ∙ ap (λ (b : Bool). folded_lines b (l ∷ ls)) e
