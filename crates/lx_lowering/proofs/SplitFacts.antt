-- The statements of one signal among flat ones: they take its pieces, and drive, read and keep what they did.
use Rattle.std.proofs.Common.{◌≡◌, ℕ, ◌+◌, ◌≤◌, Bool, true, false, ◌&&◌, ◌||◌, [], max, not, nat_eq, cond, refl, sym, ◌∙◌, ap, arith, eqb-true, eq-eqb}
use Rattle.std.proofs.Math.Bool.{or-false, and-true, and-false, and-or_distrib_left}
use Rattle.std.proofs.lemmas.Bool.{and_parts, and_from, cond_both}
use Rattle.std.proofs.lemmas.List.{append-nil}
use Rattle.lx_circuit.specs.Places.{Place, Values}
use Rattle.lx_circuit.specs.Terms.{Term}
use Rattle.lx_circuit.specs.Shapes.{Shapes}
use Rattle.lx_circuit.specs.Values.{value_of, is_zero}
use Rattle.lx_circuit.specs.Statements.{Target, Whole, Part, CatTarget, PickTarget, Stmt, Assign, If, Case, Branches, NoBranch, Branch, Block, Done, Then, pieces, taken, taken_block, after_pieces, is_target, drives, drives_block}
use Rattle.lx_circuit.specs.Reads.{names, target_names, reads, reads_block}
use Rattle.lx_circuit.proofs.Cases.{by_test, same_choice}
use Rattle.lx_circuit.proofs.Frames.{target_leaves, then_same}
use Rattle.lx_fhdl.specs.Keeping.{target_depth, stmt_depth, block_depth}
use Rattle.lx_fhdl.specs.Lowered.{is_plain_target, is_done, is_lone, is_for, are_for}
use Rattle.lx_lowering.specs.Flat.{append, one}
use Rattle.lx_lowering.specs.Split.{lone_if, split, split_block}
use Rattle.lx_lowering.specs.Lowering.{TermKeeps, StmtKeeps, BlockKeeps}
use Rattle.lx_lowering.proofs.Appends.{taken_append, drives_append, reads_append, keeps_append, depth_append}

-- ---- flat statements

-- a signal, or some of its bits
abbrev pub is_bits : Target → Bool
is_bits (Whole x) = true
is_bits (Part x low len) = true
is_bits (CatTarget parts) = false
is_bits (PickTarget items index) = false

-- assignments to bits, under conditions with one branch each
abbrev mutual
  pub is_flat : Stmt → Bool
  is_flat (Assign t e) = is_bits t
  is_flat (If bs rest) = is_lone bs rest && (branches_are_flat bs && is_flat_block rest)
  is_flat (Case on arms rest) = false

  pub branches_are_flat : Branches → Bool
  branches_are_flat NoBranch = true
  branches_are_flat (Branch c b more) = is_flat_block b && branches_are_flat more

  pub is_flat_block : Block → Bool
  is_flat_block Done = true
  is_flat_block (Then s ss) = is_flat s && is_flat_block ss

-- the two blocks of a condition are flat
pub both_flat : (c : Term) (b rest : Block) → is_flat (If (Branch c b NoBranch) rest) ≡ true → (is_flat_block b ≡ true) × (is_flat_block rest ≡ true)
both_flat c b rest e =
    let p = and_parts (not (is_done b && is_done rest)) ((is_flat_block b && true) && is_flat_block rest) e in
    let q = and_parts (is_flat_block b && true) (is_flat_block rest) p.1 in
    ((and_parts (is_flat_block b) true q.0).0, q.1)

-- ---- the pieces

either_same : {A : Type 0} (b : Bool) (x : A) → cond b x x ≡ x
either_same true x = refl
either_same false x = refl

lone_taken : (s : Shapes) (v : Values) (c : Term) (b rest : Block) → taken_block s v (lone_if c b rest) ≡ cond (is_zero (value_of s v c)) (taken_block s v rest) (taken_block s v b)
lone_taken s v c Done Done = sym (either_same (is_zero (value_of s v c)) [])
lone_taken s v c Done (Then t ts) = append-nil (cond (is_zero (value_of s v c)) (taken_block s v (Then t ts)) [])
lone_taken s v c (Then t ts) rest = append-nil (cond (is_zero (value_of s v c)) (taken_block s v rest) (taken_block s v (Then t ts)))

mutual
  stmt_pieces : (s : Shapes) (v : Values) (x : ℕ) (st : Stmt) → is_flat st ≡ true → (p : ℕ) → after_pieces x p (taken_block s v (split x st)) ≡ after_pieces x p (taken s v st)
  stmt_pieces s v x (Assign t e) f p =
      cond_both (is_target x t) (one (Assign t e)) Done (λ b. after_pieces x p (taken_block s v b) ≡ after_pieces x p (pieces s v t (value_of s v e)))
      (λ d. ap (λ qs. after_pieces x p qs) (append-nil (pieces s v t (value_of s v e))))
      (λ d. sym (target_leaves s v x t (value_of s v e) d p))
  stmt_pieces s v x (If NoBranch rest) f p = absurd (cc)
  stmt_pieces s v x (If (Branch c b (Branch d a more)) rest) f p = absurd (cc)
  stmt_pieces s v x (If (Branch c b NoBranch) rest) f p =
      let both = both_flat c b rest f in
      ap (λ qs. after_pieces x p qs) (lone_taken s v c (split_block x b) (split_block x rest))
      ∙ same_choice (λ qs. after_pieces x p qs) (is_zero (value_of s v c)) (taken_block s v (split_block x rest)) (taken_block s v rest) (taken_block s v (split_block x b)) (taken_block s v b)
      (split_pieces s v x rest both.1 p) (split_pieces s v x b both.0 p)
  stmt_pieces s v x (Case on arms rest) f p = absurd (cc)

  -- what the signal is after its own statements is what it is after all
  pub split_pieces : (s : Shapes) (v : Values) (x : ℕ) (b : Block) → is_flat_block b ≡ true → (p : ℕ) → after_pieces x p (taken_block s v (split_block x b)) ≡ after_pieces x p (taken_block s v b)
  split_pieces s v x Done f p = refl
  split_pieces s v x (Then st ss) f p =
      let both = and_parts (is_flat st) (is_flat_block ss) f in
      ap (λ qs. after_pieces x p qs) (taken_append s v (split x st) (split_block x ss))
      ∙ then_same x (taken_block s v (split x st)) (taken_block s v (split_block x ss)) (taken s v st) (taken_block s v ss) (stmt_pieces s v x st both.0) (split_pieces s v x ss both.1) p

-- ---- they are for the signal

pub for_append : (x : ℕ) (a b : Block) → are_for x a ≡ true → are_for x b ≡ true → are_for x (append a b) ≡ true
for_append x Done b f g = g
for_append x (Then st ss) b f g =
    let both = and_parts (is_for x st) (are_for x ss) f in
    and_from (is_for x st) (are_for x (append ss b)) both.0 (for_append x ss b both.1 g)

lone_for : (x : ℕ) (c : Term) (b rest : Block) → are_for x b ≡ true → are_for x rest ≡ true → are_for x (lone_if c b rest) ≡ true
lone_for x c Done Done f g = refl
lone_for x c Done (Then t ts) f g = rw g refl
lone_for x c (Then t ts) rest f g = rw (f, g) refl

plain_for : (x : ℕ) (t : Target) → is_bits t ≡ true → is_target x t ≡ true → is_plain_target x t ≡ true
plain_for x (Whole y) f e = e
plain_for x (Part y low len) f e = e
plain_for x (CatTarget parts) f e = absurd (cc)
plain_for x (PickTarget items index) f e = absurd (cc)

mutual
  stmt_for : (x : ℕ) (st : Stmt) → is_flat st ≡ true → are_for x (split x st) ≡ true
  stmt_for x (Assign t e) f = cond_both (is_target x t) (one (Assign t e)) Done (λ b. are_for x b ≡ true) (λ d. rw (plain_for x t f d) refl) (λ d. refl)
  stmt_for x (If NoBranch rest) f = absurd (cc)
  stmt_for x (If (Branch c b (Branch d a more)) rest) f = absurd (cc)
  stmt_for x (If (Branch c b NoBranch) rest) f =
      let both = both_flat c b rest f in
      lone_for x c (split_block x b) (split_block x rest) (split_for x b both.0) (split_for x rest both.1)
  stmt_for x (Case on arms rest) f = absurd (cc)

  -- a signal's own statements assign no other
  pub split_for : (x : ℕ) (b : Block) → is_flat_block b ≡ true → are_for x (split_block x b) ≡ true
  split_for x Done f = refl
  split_for x (Then st ss) f =
      let both = and_parts (is_flat st) (is_flat_block ss) f in
      for_append x (split x st) (split_block x ss) (stmt_for x st both.0) (split_for x ss both.1)

-- ---- what they drive

lone_drives : (y : ℕ) (c : Term) (b rest : Block) → drives_block y (lone_if c b rest) ≡ (drives_block y b || drives_block y rest)
lone_drives y c Done Done = refl
lone_drives y c Done (Then t ts) = or-false (drives_block y (Then t ts))
lone_drives y c (Then t ts) rest = or-false ((drives_block y (Then t ts) || false) || drives_block y rest) ∙ ap (λ z. z || drives_block y rest) (or-false (drives_block y (Then t ts)))

bits_drive : (x y : ℕ) (t : Target) → is_bits t ≡ true → is_target x t ≡ true → is_target y t ≡ nat_eq x y
bits_drive x y (Whole z) f e = rw (eqb-true z x e) refl
bits_drive x y (Part z low len) f e = rw (eqb-true z x e) refl
bits_drive x y (CatTarget parts) f e = absurd (cc)
bits_drive x y (PickTarget items index) f e = absurd (cc)

mutual
  stmt_drives : (x y : ℕ) (st : Stmt) → is_flat st ≡ true → drives_block y (split x st) ≡ (nat_eq x y && drives x st)
  stmt_drives x y (Assign t e) f =
      by_test (is_target x t)
      (λ d. rw d (or-false (is_target y t) ∙ bits_drive x y t f d ∙ sym (and-true (nat_eq x y))))
      (λ d. rw d (sym (and-false (nat_eq x y))))
  stmt_drives x y (If NoBranch rest) f = absurd (cc)
  stmt_drives x y (If (Branch c b (Branch d a more)) rest) f = absurd (cc)
  stmt_drives x y (If (Branch c b NoBranch) rest) f =
      let both = both_flat c b rest f in
      lone_drives y c (split_block x b) (split_block x rest)
      ∙ (rw (split_drives x y b both.0, split_drives x y rest both.1, or-false (drives_block x b)) (sym (and-or_distrib_left (nat_eq x y) (drives_block x b) (drives_block x rest))))
  stmt_drives x y (Case on arms rest) f = absurd (cc)

  -- a signal's own statements drive it where all do, and no other
  pub split_drives : (x y : ℕ) (b : Block) → is_flat_block b ≡ true → drives_block y (split_block x b) ≡ (nat_eq x y && drives_block x b)
  split_drives x y Done f = sym (and-false (nat_eq x y))
  split_drives x y (Then st ss) f =
      let both = and_parts (is_flat st) (is_flat_block ss) f in
      drives_append y (split x st) (split_block x ss)
      ∙ (rw (stmt_drives x y st both.0, split_drives x y ss both.1) (sym (and-or_distrib_left (nat_eq x y) (drives x st) (drives_block x ss))))

-- ---- what they read

lone_reads : (x : ℕ) (y : Place) (c : Term) (b rest : Block) → reads_block x y (lone_if c b rest) ≡ ((names y c && (drives_block x b || drives_block x rest)) || (reads_block x y b || reads_block x y rest))
lone_reads x y c Done Done = rw (and-false (names y c)) refl
lone_reads x y c Done (Then t ts) = or-false ((names y c && drives_block x (Then t ts)) || reads_block x y (Then t ts))
lone_reads x y c (Then t ts) rest = or-false ((names y c && (drives_block x (Then t ts) || drives_block x rest)) || (reads_block x y (Then t ts) || reads_block x y rest))

own_drives : (x : ℕ) (b : Block) → is_flat_block b ≡ true → drives_block x (split_block x b) ≡ drives_block x b
own_drives x b f = split_drives x x b f ∙ ap (λ z. z && drives_block x b) (eq-eqb x x refl)

mutual
  stmt_same_reads : (x : ℕ) (y : Place) (st : Stmt) → is_flat st ≡ true → reads_block x y (split x st) ≡ reads x y st
  stmt_same_reads x y (Assign t e) f =
      by_test (is_target x t)
      (λ d. rw d (rw d (or-false (names y e || target_names y t))))
      (λ d. rw d refl)
  stmt_same_reads x y (If NoBranch rest) f = absurd (cc)
  stmt_same_reads x y (If (Branch c b (Branch d a more)) rest) f = absurd (cc)
  stmt_same_reads x y (If (Branch c b NoBranch) rest) f =
      let both = both_flat c b rest f in
      lone_reads x y c (split_block x b) (split_block x rest)
      ∙ (rw (own_drives x b both.0, own_drives x rest both.1, same_reads x y b both.0, same_reads x y rest both.1) refl)
  stmt_same_reads x y (Case on arms rest) f = absurd (cc)

  pub same_reads : (x : ℕ) (y : Place) (b : Block) → is_flat_block b ≡ true → reads_block x y (split_block x b) ≡ reads_block x y b
  same_reads x y Done f = refl
  same_reads x y (Then st ss) f =
      let both = and_parts (is_flat st) (is_flat_block ss) f in
      reads_append x y (split x st) (split_block x ss) ∙ (rw (stmt_same_reads x y st both.0, same_reads x y ss both.1) refl)

-- what a signal reads in its own statements it reads in all
pub split_reads : (x : ℕ) (y : Place) (b : Block) → is_flat_block b ≡ true → reads_block x y (split_block x b) ≡ true → reads_block x y b ≡ true
split_reads x y b f r = sym (same_reads x y b f) ∙ r

-- ---- what they keep

lone_keeps : (s : Shapes) (n : ℕ) (c : Term) (b rest : Block) → TermKeeps s n c → BlockKeeps s n b → BlockKeeps s n rest → BlockKeeps s n (lone_if c b rest)
lone_keeps s n c Done Done k l m = tt
lone_keeps s n c Done (Then t ts) k l m = (((k, l, tt), m), tt)
lone_keeps s n c (Then t ts) rest k l m = (((k, l, tt), m), tt)

mutual
  stmt_keeps : (s : Shapes) (n x : ℕ) (st : Stmt) → StmtKeeps s n st → is_flat st ≡ true → BlockKeeps s n (split x st)
  stmt_keeps s n x (Assign t e) k f = cond_both (is_target x t) (one (Assign t e)) Done (λ b. BlockKeeps s n b) (λ d. (k, tt)) (λ d. tt)
  stmt_keeps s n x (If NoBranch rest) k f = absurd (cc)
  stmt_keeps s n x (If (Branch c b (Branch d a more)) rest) k f = absurd (cc)
  stmt_keeps s n x (If (Branch c b NoBranch) rest) k f =
      let both = both_flat c b rest f in
      lone_keeps s n c (split_block x b) (split_block x rest) k.0.0 (split_keeps s n x b k.0.1 both.0) (split_keeps s n x rest k.1 both.1)
  stmt_keeps s n x (Case on arms rest) k f = absurd (cc)

  -- a signal's own statements keep what all do
  pub split_keeps : (s : Shapes) (n x : ℕ) (b : Block) → BlockKeeps s n b → is_flat_block b ≡ true → BlockKeeps s n (split_block x b)
  split_keeps s n x Done k f = tt
  split_keeps s n x (Then st ss) k f =
      let both = and_parts (is_flat st) (is_flat_block ss) f in
      keeps_append s n (split x st) (split_block x ss) (stmt_keeps s n x st k.0 both.0) (split_keeps s n x ss k.1 both.1)

-- ---- how deep they nest

lone_depth : (c : Term) (b rest : Block) → block_depth (lone_if c b rest) ≤ 1 + max (block_depth b) (block_depth rest)
lone_depth c Done Done = omega arith
lone_depth c Done (Then t ts) = omega arith
lone_depth c (Then t ts) rest = omega arith

mutual
  stmt_split_depth : (x : ℕ) (st : Stmt) → block_depth (split x st) ≤ stmt_depth st
  stmt_split_depth x (Assign t e) = cond_both (is_target x t) (one (Assign t e)) Done (λ b. block_depth b ≤ 1 + target_depth t) (λ d. omega arith) (λ d. omega arith)
  stmt_split_depth x (If NoBranch rest) = omega arith
  stmt_split_depth x (If (Branch c b more) rest) = omega (arith, lone_depth c (split_block x b) (split_block x rest), split_depth x b, split_depth x rest)
  stmt_split_depth x (Case on arms rest) = omega arith

  -- a signal's own statements nest no deeper than all
  pub split_depth : (x : ℕ) (b : Block) → block_depth (split_block x b) ≤ block_depth b
  split_depth x Done = omega arith
  split_depth x (Then st ss) = omega (arith, depth_append (split x st) (split_block x ss), stmt_split_depth x st, split_depth x ss)
