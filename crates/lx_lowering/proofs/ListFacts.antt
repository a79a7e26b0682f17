-- The lists of all signals joined: each signal is after all of them what it is after its own.
use Rattle.std.proofs.Common.{◌≡◌, ℕ, ◌+◌, ◌<◌, ◌≤◌, Bool, true, false, ◌&&◌, ◌||◌, List, [], ◌∷◌, length, not, nat_eq, refl, sym, ◌∙◌, ap, subst, arith, eqb-true, ne_eqb}
use Rattle.std.proofs.Math.Bool.{or-false, and-false}
use Rattle.std.proofs.lemmas.Bool.{and_parts, and_right, or_parts, or_from, eqb-false}
use Rattle.lx_circuit.specs.Places.{Place, Values}
use Rattle.lx_circuit.specs.Shapes.{Shapes}
use Rattle.lx_circuit.specs.Statements.{Stmt, Assign, If, Case, Branches, NoBranch, Branch, Arms, NoArm, Arm, Block, Done, Then, taken_block, after_pieces, drives, drives_branch, drives_arm, drives_block}
use Rattle.lx_circuit.specs.Circuit.{Made}
use Rattle.lx_circuit.specs.Reads.{names, reads, reads_branch, reads_arm, reads_block}
use Rattle.lx_circuit.proofs.Cases.{by_test, after_append}
use Rattle.lx_circuit.proofs.Frames.{block_leaves}
use Rattle.lx_fhdl.specs.Keeping.{block_depth}
use Rattle.lx_fhdl.specs.Lowered.{is_done, is_for, are_for, ArePlain}
use Rattle.lx_lowering.specs.Flat.{append}
use Rattle.lx_lowering.specs.Lowering.{BlockKeeps, lists_from}
use Rattle.lx_lowering.proofs.Appends.{taken_append, drives_append, reads_append, keeps_append, depth_append}
use Rattle.lx_lowering.proofs.FoldFacts.{for_drives}

-- ---- a signal reads only where it is driven

mutual
  stmt_undriven : (x : ℕ) (y : Place) (st : Stmt) → drives x st ≡ false → reads x y st ≡ false
  stmt_undriven x y (Assign t e) d = rw d refl
  stmt_undriven x y (If bs rest) d =
      let both = or_parts (drives_branch x bs) (drives_block x rest) d in
      branch_undriven x y bs (drives_block x rest) (reads_block x y rest) both.0 both.1 (undriven x y rest both.1)
  stmt_undriven x y (Case on arms rest) d =
      let both = or_parts (drives_arm x arms) (drives_block x rest) d in
      rw (both.0, both.1, arm_undriven x y arms both.0, undriven x y rest both.1) (ap (λ b. b || false) (and-false (names y on)))

  branch_undriven : (x : ℕ) (y : Place) (bs : Branches) (driven read : Bool) → drives_branch x bs ≡ false → driven ≡ false → read ≡ false → reads_branch x y bs driven read ≡ false
  branch_undriven x y NoBranch driven read d e f = f
  branch_undriven x y (Branch c b more) driven read d e f =
      let both = or_parts (drives_block x b) (drives_branch x more) d in
      or_from (names y c && (drives_block x b || (drives_branch x more || driven))) (reads_block x y b || reads_branch x y more driven read)
      (and_right (names y c) (drives_block x b || (drives_branch x more || driven)) (or_from (drives_block x b) (drives_branch x more || driven) both.0 (or_from (drives_branch x more) driven both.1 e)))
      (or_from (reads_block x y b) (reads_branch x y more driven read) (undriven x y b both.0) (branch_undriven x y more driven read both.1 e f))

  arm_undriven : (x : ℕ) (y : Place) (arms : Arms) → drives_arm x arms ≡ false → reads_arm x y arms ≡ false
  arm_undriven x y NoArm d = refl
  arm_undriven x y (Arm key b more) d =
      let both = or_parts (drives_block x b) (drives_arm x more) d in
      or_from (reads_block x y b) (reads_arm x y more) (undriven x y b both.0) (arm_undriven x y more both.1)

  -- a signal that statements don't drive reads nothing in them
  pub undriven : (x : ℕ) (y : Place) (b : Block) → drives_block x b ≡ false → reads_block x y b ≡ false
  undriven x y Done d = refl
  undriven x y (Then st ss) d =
      let both = or_parts (drives x st) (drives_block x ss) d in
      or_from (reads x y st) (reads_block x y ss) (stmt_undriven x y st both.0) (undriven x y ss both.1)

-- ---- lists for their signals

-- each list is for its own signal
pub record EachFor (f : ℕ → Block) : Type 0 where
  pub each : (x : ℕ) → are_for x (f x) ≡ true

other_idle : (f : ℕ → Block) → EachFor f → (x y : ℕ) → (x ≡ y → ⊥) → drives_block y (f x) ≡ false
other_idle f own x y ne = for_drives x y (f x) (own.each x) ∙ ap (λ b. b && not (is_done (f x))) (ne_eqb x y ne)

-- the lists of later signals don't drive an earlier one
later_idle : (f : ℕ → Block) → EachFor f → (k y : ℕ) (ms : List Made) → y < k → drives_block y (lists_from f k ms) ≡ false
later_idle f own k y [] lt = refl
later_idle f own k y (m ∷ ms) lt =
    drives_append y (f k) (lists_from f (k + 1) ms)
    ∙ or_from (drives_block y (f k)) (drives_block y (lists_from f (k + 1) ms)) (other_idle f own k y (λ e. omega arith)) (later_idle f own (k + 1) y ms (omega arith))

past_idle : (f : ℕ → Block) → EachFor f → (k y : ℕ) (ms : List Made) → k + length ms ≤ y → drives_block y (lists_from f k ms) ≡ false
past_idle f own k y [] le = refl
past_idle f own k y (m ∷ ms) le =
    drives_append y (f k) (lists_from f (k + 1) ms)
    ∙ or_from (drives_block y (f k)) (drives_block y (lists_from f (k + 1) ms)) (other_idle f own k y (λ e. omega arith)) (past_idle f own (k + 1) y ms (omega arith))

from_pieces : (s : Shapes) (v : Values) (f : ℕ → Block) → EachFor f → (k y p : ℕ) (ms : List Made) → k ≤ y → y < k + length ms → after_pieces y p (taken_block s v (lists_from f k ms)) ≡ after_pieces y p (taken_block s v (f y))
from_pieces s v f own k y p [] le lt = absurd (omega arith)
from_pieces s v f own k y p (m ∷ ms) le lt =
    ap (λ qs. after_pieces y p qs) (taken_append s v (f k) (lists_from f (k + 1) ms))
    ∙ (after_append y p (taken_block s v (f k)) (taken_block s v (lists_from f (k + 1) ms))
    ∙ by_test (nat_eq k y)
    (λ e. let same = eqb-true k y e in
    block_leaves s v y (lists_from f (k + 1) ms) (later_idle f own (k + 1) y ms (omega arith)) (after_pieces y p (taken_block s v (f k)))
    ∙ ap (λ (x : ℕ). after_pieces y p (taken_block s v (f x))) same)
    (λ e. let ne = eqb-false k y e in
    ap (λ (q : ℕ). after_pieces y q (taken_block s v (lists_from f (k + 1) ms))) (block_leaves s v y (f k) (other_idle f own k y ne) p)
    ∙ from_pieces s v f own (k + 1) y p ms (omega arith) (omega arith)))

from_drives : (f : ℕ → Block) → EachFor f → (k y : ℕ) (ms : List Made) → k ≤ y → y < k + length ms → drives_block y (lists_from f k ms) ≡ drives_block y (f y)
from_drives f own k y [] le lt = absurd (omega arith)
from_drives f own k y (m ∷ ms) le lt =
    drives_append y (f k) (lists_from f (k + 1) ms)
    ∙ by_test (nat_eq k y)
    (λ e. let same = eqb-true k y e in
    rw (later_idle f own (k + 1) y ms (omega arith)) (or-false (drives_block y (f k)) ∙ ap (λ (x : ℕ). drives_block y (f x)) same))
    (λ e. let ne = eqb-false k y e in rw (other_idle f own k y ne) (from_drives f own (k + 1) y ms (omega arith) (omega arith)))

from_reads : (f : ℕ → Block) → EachFor f → (k y : ℕ) (z : Place) (ms : List Made) → reads_block y z (lists_from f k ms) ≡ true → reads_block y z (f y) ≡ true
from_reads f own k y z [] r = absurd (cc)
from_reads f own k y z (m ∷ ms) r =
    let both : (reads_block y z (f k) || reads_block y z (lists_from f (k + 1) ms)) ≡ true = sym (reads_append y z (f k) (lists_from f (k + 1) ms)) ∙ r in
    by_test (nat_eq k y)
    (λ e. let same = eqb-true k y e in by_test (reads_block y z (f k))
    (λ here. subst (λ (x : ℕ). reads_block y z (f x) ≡ true) same here)
    (λ no. from_reads f own (k + 1) y z ms (ap (λ b. b || reads_block y z (lists_from f (k + 1) ms)) (sym no) ∙ both)))
    (λ e. let no = undriven y z (f k) (other_idle f own k y (eqb-false k y e)) in
    from_reads f own (k + 1) y z ms (ap (λ b. b || reads_block y z (lists_from f (k + 1) ms)) (sym no) ∙ both))

-- a signal is after all lists what it is after its own
pub lists_pieces : (s : Shapes) (v : Values) (f : ℕ → Block) (ms : List Made) → EachFor f → (y p : ℕ) → y < length ms → after_pieces y p (taken_block s v (lists_from f 0 ms)) ≡ after_pieces y p (taken_block s v (f y))
lists_pieces s v f ms own y p lt = from_pieces s v f own 0 y p ms (omega arith) (omega arith)

pub lists_drive : (f : ℕ → Block) (ms : List Made) → EachFor f → (y : ℕ) → y < length ms → drives_block y (lists_from f 0 ms) ≡ drives_block y (f y)
lists_drive f ms own y lt = from_drives f own 0 y ms (omega arith) (omega arith)

-- past the end there is nothing
pub lists_end : (f : ℕ → Block) (ms : List Made) → EachFor f → (y : ℕ) → length ms ≤ y → drives_block y (lists_from f 0 ms) ≡ false
lists_end f ms own y le = past_idle f own 0 y ms (omega arith)

pub lists_read : (f : ℕ → Block) (ms : List Made) → EachFor f → (y : ℕ) (z : Place) → reads_block y z (lists_from f 0 ms) ≡ true → reads_block y z (f y) ≡ true
lists_read f ms own y z r = from_reads f own 0 y z ms r

-- ---- each statement is for one signal

plain_append : (a b : Block) → ArePlain a → ArePlain b → ArePlain (append a b)
plain_append Done b p q = q
plain_append (Then st ss) b p q = (p.0, plain_append ss b p.1 q)

for_plain : (x : ℕ) (b : Block) → are_for x b ≡ true → ArePlain b
for_plain x Done e = tt
for_plain x (Then st ss) e =
    let both = and_parts (is_for x st) (are_for x ss) e in
    (record { signal = x; alone = both.0 }, for_plain x ss both.1)

from_plain : (f : ℕ → Block) → EachFor f → (k : ℕ) (ms : List Made) → ArePlain (lists_from f k ms)
from_plain f own k [] = tt
from_plain f own k (m ∷ ms) = plain_append (f k) (lists_from f (k + 1) ms) (for_plain k (f k) (own.each k)) (from_plain f own (k + 1) ms)

pub lists_plain : (f : ℕ → Block) (ms : List Made) → EachFor f → ArePlain (lists_from f 0 ms)
lists_plain f ms own = from_plain f own 0 ms

-- ---- what they keep, and how deep they nest

from_keep : (s : Shapes) (n : ℕ) (f : ℕ → Block) (k : ℕ) (ms : List Made) → ((x : ℕ) → x < k + length ms → BlockKeeps s n (f x)) → BlockKeeps s n (lists_from f k ms)
from_keep s n f k [] h = tt
from_keep s n f k (m ∷ ms) h = keeps_append s n (f k) (lists_from f (k + 1) ms) (h k (omega arith)) (from_keep s n f (k + 1) ms (λ x lt. h x (omega arith)))

pub lists_keep : (s : Shapes) (n : ℕ) (f : ℕ → Block) (ms : List Made) → ((x : ℕ) → x < length ms → BlockKeeps s n (f x)) → BlockKeeps s n (lists_from f 0 ms)
lists_keep s n f ms h = from_keep s n f 0 ms (λ x lt. h x (omega arith))

from_depth : (d : ℕ) (f : ℕ → Block) (k : ℕ) (ms : List Made) → ((x : ℕ) → x < k + length ms → block_depth (f x) ≤ d) → block_depth (lists_from f k ms) ≤ d
from_depth d f k [] h = omega arith
from_depth d f k (m ∷ ms) h =
    let here = h k (omega arith) in
    let later = from_depth d f (k + 1) ms (λ x lt. h x (omega arith)) in
    omega (arith, depth_append (f k) (lists_from f (k + 1) ms))

pub lists_depth : (d : ℕ) (f : ℕ → Block) (ms : List Made) → ((x : ℕ) → x < length ms → block_depth (f x) ≤ d) → block_depth (lists_from f 0 ms) ≤ d
lists_depth d f ms h = from_depth d f 0 ms (λ x lt. h x (omega arith))
