-- Statements of one signal that read nothing give what the constant in their place gives.
use Rattle.std.proofs.Common.{◌≡◌, ℕ, ℤ, ◌%◌, ◌^◌, ◌<◌, ◌≤◌, Bool, true, false, ◌&&◌, ◌||◌, not, nat_eq, refl, sym, ◌∙◌, ap, arith, eqb-true, eq-eqb}
use Rattle.std.proofs.Math.Bool.{or-false, and-true, and-false}
use Rattle.std.proofs.lemmas.Bool.{and_parts, or_from}
use Rattle.std.proofs.lemmas.Nat.{pow_pos, mod_below}
use Rattle.lx_num.specs.Ints.{modulo, read_bits, wrapped, FitsBits}
use Rattle.lx_num.proofs.Ranges.{FitsBits-read_bits, wrap_bits_same}
use Rattle.lx_circuit.specs.Places.{Place, Values}
use Rattle.lx_circuit.specs.Terms.{Term, Terms, Constant, Signal, Unary, Binary, Mux, Cat, Replicate, Slice, Pick, Fetch, NoTerm, MoreTerms}
use Rattle.lx_circuit.specs.Shapes.{Shapes}
use Rattle.lx_circuit.specs.Statements.{Target, Whole, Part, CatTarget, PickTarget, Stmt, Assign, If, Case, NoBranch, Branch, Block, Done, Then, taken_block, after_pieces, result, is_target, drives, drives_block}
use Rattle.lx_circuit.specs.Reads.{names, some_names, target_names, reads, reads_block}
use Rattle.lx_circuit.proofs.Frames.{block_same}
use Rattle.lx_circuit.proofs.Whole.{whole_assigned}
use Rattle.lx_fhdl.specs.Nodes.{IsSmall}
use Rattle.lx_fhdl.specs.Keeping.{stmt_depth, block_depth}
use Rattle.lx_fhdl.specs.Lowered.{is_plain_target, is_done, is_for, are_for}
use Rattle.lx_lowering.specs.Flat.{one}
use Rattle.lx_lowering.specs.Constants.{names_none, all_name_none, reads_none, block_reads_none, zeros, constant_of, or_constant, folded}
use Rattle.lx_lowering.specs.Lowering.{BlockKeeps}
use Rattle.lx_lowering.proofs.Picks.{small_constant}

-- ---- what reads nothing

mutual
  names_nothing : (y : Place) (t : Term) → names_none t ≡ true → names y t ≡ false
  names_nothing y (Constant value a) e = refl
  names_nothing y (Signal x) e = absurd (cc)
  names_nothing y (Unary o a) e = names_nothing y a e
  names_nothing y (Binary o a b) e = let p = and_parts (names_none a) (names_none b) e in or_from (names y a) (names y b) (names_nothing y a p.0) (names_nothing y b p.1)
  names_nothing y (Mux c a b) e =
      let p = and_parts (names_none c) (names_none a && names_none b) e in
      let q = and_parts (names_none a) (names_none b) p.1 in
      or_from (names y c) (names y a || names y b) (names_nothing y c p.0) (or_from (names y a) (names y b) (names_nothing y a q.0) (names_nothing y b q.1))
  names_nothing y (Cat parts) e = some_name_nothing y parts e
  names_nothing y (Replicate a count) e = names_nothing y a e
  names_nothing y (Slice a low high) e = names_nothing y a e
  names_nothing y (Pick items index) e =
      let p = and_parts (all_name_none items) (names_none index) e in
      or_from (some_names y items) (names y index) (some_name_nothing y items p.0) (names_nothing y index p.1)
  names_nothing y (Fetch m width i) e = absurd (cc)

  some_name_nothing : (y : Place) (ts : Terms) → all_name_none ts ≡ true → some_names y ts ≡ false
  some_name_nothing y NoTerm e = refl
  some_name_nothing y (MoreTerms t ts) e = let p = and_parts (names_none t) (all_name_none ts) e in or_from (names y t) (some_names y ts) (names_nothing y t p.0) (some_name_nothing y ts p.1)

-- the two blocks of a condition are for the signal, and one has statements
pub both_for : (x : ℕ) (c : Term) (b rest : Block) → is_for x (If (Branch c b NoBranch) rest) ≡ true → (not (is_done b && is_done rest) ≡ true) × (are_for x b ≡ true) × (are_for x rest ≡ true)
both_for x c b rest e =
    let p = and_parts (not (is_done b && is_done rest)) ((are_for x b && true) && are_for x rest) e in
    let q = and_parts (are_for x b && true) (are_for x rest) p.1 in
    (p.0, (and_parts (are_for x b) true q.0).0, q.1)

plain_names : (x : ℕ) (y : Place) (t : Target) → is_plain_target x t ≡ true → target_names y t ≡ false
plain_names x y (Whole z) f = refl
plain_names x y (Part z low len) f = refl
plain_names x y (CatTarget parts) f = absurd (cc)
plain_names x y (PickTarget items index) f = absurd (cc)

mutual
  stmt_reads_nothing : (x z : ℕ) (y : Place) (st : Stmt) → is_for x st ≡ true → reads_none st ≡ true → reads z y st ≡ false
  stmt_reads_nothing x z y (Assign t e) f r =
      ap (λ b. is_target z t && b) (or_from (names y e) (target_names y t) (names_nothing y e r) (plain_names x y t f)) ∙ and-false (is_target z t)
  stmt_reads_nothing x z y (If NoBranch rest) f r = absurd (cc)
  stmt_reads_nothing x z y (If (Branch c b (Branch d a more)) rest) f r = absurd (cc)
  stmt_reads_nothing x z y (If (Branch c b NoBranch) rest) f r =
      let both = both_for x c b rest f in
      let p = and_parts (names_none c && (block_reads_none b && true)) (block_reads_none rest) r in
      let q = and_parts (names_none c) (block_reads_none b && true) p.0 in
      rw (names_nothing y c q.0, reads_nothing x z y b both.1 (and_parts (block_reads_none b) true q.1).0, reads_nothing x z y rest both.2 p.1) refl
  stmt_reads_nothing x z y (Case on arms rest) f r = absurd (cc)

  reads_nothing : (x z : ℕ) (y : Place) (b : Block) → are_for x b ≡ true → block_reads_none b ≡ true → reads_block z y b ≡ false
  reads_nothing x z y Done f r = refl
  reads_nothing x z y (Then st ss) f r =
      let both = and_parts (is_for x st) (are_for x ss) f in
      let p = and_parts (reads_none st) (block_reads_none ss) r in
      or_from (reads z y st) (reads_block z y ss) (stmt_reads_nothing x z y st both.0 p.0) (reads_nothing x z y ss both.1 p.1)

-- so it takes the same pieces under all values
same_after : (s : Shapes) (v w : Values) (x p : ℕ) (b : Block) → are_for x b ≡ true → block_reads_none b ≡ true → after_pieces x p (taken_block s v b) ≡ after_pieces x p (taken_block s w b)
same_after s v w x p b f r = block_same s v w x b (λ y e. absurd (let n = reads_nothing x x y b f r in cc)) p

-- ---- the constant

-- what is so of some statements, and of the constant in their place, is so once they are folded
by_fold : (s : Shapes) (x : ℕ) (start : ℤ) (b : Block) (P : Block → Type 0) → P b → (is_done b ≡ false → block_reads_none b ≡ true → P (one (Assign (Whole x) (constant_of s x start b)))) → P (folded s x start b)
by_fold s x start Done P kept changed = kept
by_fold s x start (Then t ts) P kept changed = by_answer (block_reads_none (Then t ts)) refl
  where
    by_answer : (none : Bool) → block_reads_none (Then t ts) ≡ none → P (or_constant s x start (Then t ts) none)
    by_answer true e = changed refl e
    by_answer false e = kept

-- a whole assignment of a value that fits gives this value
whole_result : (s : Shapes) (v : Values) (x : ℕ) (start r : ℤ) → 1 ≤ (s x).bits → FitsBits (s x).bits (s x).signed r → result s x start (taken_block s v (one (Assign (Whole x) (Constant r (s x))))) ≡ r
whole_result s v x start r some fits =
    let same : wrapped (s x) r ≡ r = wrap_bits_same (s x).bits (s x).signed r some fits in
    whole_assigned s x start (wrapped (s x) r) ∙ (ap (λ z. wrapped (s x) z) same ∙ same)

result_fits : (s : Shapes) (v : Values) (x : ℕ) (start : ℤ) (b : Block) → 1 ≤ (s x).bits → FitsBits (s x).bits (s x).signed (result s x start (taken_block s v b))
result_fits s v x start b some =
    let n = (s x).bits in
    FitsBits-read_bits n (s x).signed (after_pieces x (modulo start (2 ^ n)) (taken_block s v b) % 2 ^ n) some (mod_below (after_pieces x (modulo start (2 ^ n)) (taken_block s v b)) (2 ^ n) (pow_pos n))

-- folding keeps what the signal is after its statements
pub folded_result : (s : Shapes) (v : Values) (x : ℕ) (start : ℤ) (b : Block) → 1 ≤ (s x).bits → are_for x b ≡ true → result s x start (taken_block s v (folded s x start b)) ≡ result s x start (taken_block s v b)
folded_result s v x start b some f =
    by_fold s x start b (λ c. result s x start (taken_block s v c) ≡ result s x start (taken_block s v b)) refl
    (λ d r. whole_result s v x start (result s x start (taken_block s zeros b)) some (result_fits s zeros x start b some)
    ∙ ap (λ (p : ℕ). read_bits (s x).bits (s x).signed (p % 2 ^ (s x).bits)) (same_after s zeros v x (modulo start (2 ^ (s x).bits)) b f r))

-- ---- what folded statements drive, read and keep

pub folded_for : (s : Shapes) (x : ℕ) (start : ℤ) (b : Block) → are_for x b ≡ true → are_for x (folded s x start b) ≡ true
folded_for s x start b f = by_fold s x start b (λ c. are_for x c ≡ true) f (λ d r. rw (eq-eqb x x refl) refl)

plain_drives : (x y : ℕ) (t : Target) → is_plain_target x t ≡ true → is_target y t ≡ nat_eq x y
plain_drives x y (Whole z) f = rw (eqb-true z x f) refl
plain_drives x y (Part z low len) f = rw (eqb-true z x f) refl
plain_drives x y (CatTarget parts) f = absurd (cc)
plain_drives x y (PickTarget items index) f = absurd (cc)

one_drives : (n a b : Bool) → not (a && b) ≡ true → (((n && not a) || false) || (n && not b)) ≡ n
one_drives true true true e = absurd (cc)
one_drives true true false e = refl
one_drives true false b e = refl
one_drives false a b e = refl

absorbed : (n b : Bool) → (n || (n && b)) ≡ n
absorbed true b = refl
absorbed false b = refl

mutual
  for_stmt_drives : (x y : ℕ) (st : Stmt) → is_for x st ≡ true → drives y st ≡ nat_eq x y
  for_stmt_drives x y (Assign t e) f = plain_drives x y t f
  for_stmt_drives x y (If NoBranch rest) f = absurd (cc)
  for_stmt_drives x y (If (Branch c b (Branch d a more)) rest) f = absurd (cc)
  for_stmt_drives x y (If (Branch c b NoBranch) rest) f =
      let both = both_for x c b rest f in
      rw (for_drives x y b both.1, for_drives x y rest both.2) (one_drives (nat_eq x y) (is_done b) (is_done rest) both.0)
  for_stmt_drives x y (Case on arms rest) f = absurd (cc)

  -- statements of one signal drive it, where there are any, and no other
  pub for_drives : (x y : ℕ) (b : Block) → are_for x b ≡ true → drives_block y b ≡ (nat_eq x y && not (is_done b))
  for_drives x y Done f = sym (and-false (nat_eq x y))
  for_drives x y (Then st ss) f =
      let both = and_parts (is_for x st) (are_for x ss) f in
      rw (for_stmt_drives x y st both.0, for_drives x y ss both.1) (absorbed (nat_eq x y) (not (is_done ss)) ∙ sym (and-true (nat_eq x y)))

pub folded_drives : (s : Shapes) (x y : ℕ) (start : ℤ) (b : Block) → are_for x b ≡ true → drives_block y (folded s x start b) ≡ drives_block y b
folded_drives s x y start b f =
    by_fold s x start b (λ c. drives_block y c ≡ drives_block y b) refl
    (λ d r. or-false (nat_eq x y) ∙ sym (for_drives x y b f ∙ (rw d (and-true (nat_eq x y)))))

pub folded_reads : (s : Shapes) (x z : ℕ) (y : Place) (start : ℤ) (b : Block) → reads_block z y (folded s x start b) ≡ true → reads_block z y b ≡ true
folded_reads s x z y start b =
    by_fold s x start b (λ c. reads_block z y c ≡ true → reads_block z y b ≡ true) (λ e. e)
    (λ d r e. absurd (let n : ((nat_eq x z && false) || false) ≡ false = or-false (nat_eq x z && false) ∙ and-false (nat_eq x z) in cc))

pub folded_keeps : (s : Shapes) (n x : ℕ) (start : ℤ) (b : Block) → x < n → IsSmall (s x) → BlockKeeps s n b → BlockKeeps s n (folded s x start b)
folded_keeps s n x start b lt small k =
    by_fold s x start b (λ c. BlockKeeps s n c) k (λ d r. ((lt, small.most, record { sound = refl; fault = small_constant (s x) small }), tt))

stmt_deep : (st : Stmt) → 1 ≤ stmt_depth st
stmt_deep (Assign t e) = omega arith
stmt_deep (If bs rest) = omega arith
stmt_deep (Case on arms rest) = omega arith

some_deep : (b : Block) → is_done b ≡ false → 1 ≤ block_depth b
some_deep Done e = absurd (cc)
some_deep (Then st ss) e = omega (arith, stmt_deep st)

pub folded_depth : (s : Shapes) (x : ℕ) (start : ℤ) (b : Block) → block_depth (folded s x start b) ≤ block_depth b
folded_depth s x start b = by_fold s x start b (λ c. block_depth c ≤ block_depth b) (omega arith) (λ d r. omega (arith, some_deep b d))
