-- A lowered term has the shape and the value of the term, no fault, no pick, and no further name.
use Rattle.std.proofs.Common.{◌≡◌, ℕ, ◌+◌, ◌-◌, ◌*◌, ◌^◌, ◌<◌, ◌≤◌, Bool, true, false, ◌&&◌, ◌||◌, List, ◌∷◌, refl, sym, ◌∙◌, ap, subst, arith, nat_lt, nat_le}
use Rattle.std.specs.Prelude.{ℤ, pos, negsuc}
use Rattle.std.proofs.Math.Nat.{pow-le-pow_right, div-eq_of_lt}
use Rattle.std.proofs.lemmas.Bool.{cond_both, leb-true, or_parts, and_parts, and_from, or_from}
use Rattle.lx_num.specs.declared.Shape.{Shape}
use Rattle.lx_num.specs.Ints.{unsigned, floor_div, field_of, FitsBits, Fits, wrapped}
use Rattle.lx_num.specs.Fewest.{magnitude_of}
use Rattle.lx_num.proofs.Ranges.{pos_fits, unsigned_fits}
use Rattle.lx_tables.specs.declared.operators.Op.{Op}
use Rattle.lx_tables.specs.declared.operators.Op.TheVariants as op
use Rattle.lx_circuit.specs.Places.{Place, Values, Word, is_word}
use Rattle.lx_circuit.specs.Terms.{Term, Terms, Constant, Signal, Unary, Binary, Mux, Cat, Replicate, Slice, Pick, Fetch, NoTerm, MoreTerms}
use Rattle.lx_circuit.specs.Shapes.{Shapes, shape_of, shapes_of, joined, pick_shape, bits_sum, unary_shape, binary_shape, too_wide, index_fault, binary_fault, replicate_fault, slice_fault, pick_fault}
use Rattle.lx_circuit.specs.Values.{value_of, values_of, unary_value, binary_value, mux_value, cat_pattern, replicate_value, pick_value, count_of}
use Rattle.lx_circuit.specs.Reads.{names, some_names}
use Rattle.lx_circuit.proofs.Cases.{by_test}
use Rattle.lx_fhdl.proofs.Fitting.{count_below, magnitude_fits}
use Rattle.lx_fhdl.proofs.Operators.{unsigned_operand, index_unsigned}
use Rattle.lx_lowering.specs.Terms.{never, is_item, pick_from, cut_amount, lower_binary, lower_term, lower_terms}
use Rattle.lx_lowering.specs.Lowering.{TermKeeps, has_some}
use Rattle.lx_lowering.proofs.TermFacts.{TermsKeep, AreSmall, AreFit, constant_own, unary_of, unary_own, binary_left, binary_right, binary_own, mux_cond, mux_so, mux_other, mux_own, first_keeps, rest_keeps, cat_some, cat_parts, cat_own, replicate_of, replicate_own, slice_of, slice_own, pick_some, pick_items, pick_index, pick_own, fetch_of, fetch_own, keeps_constant, keeps_unary, keeps_binary, keeps_mux, keeps_more, keeps_cat, keeps_replicate, keeps_slice, keeps_pick, keeps_fetch, term_small, term_fits}
use Rattle.lx_lowering.proofs.Picks.{held, pick_from_no_name, picked_shape, picked_value, picked_keeps}

-- ---- shifts by all bits and more

pub magnitude_below : (n : ℕ) (s : Bool) (z : ℤ) → FitsBits n s z → magnitude_of z < 2 ^ n
magnitude_below n true z f =
    let two : 0 < 2 = omega arith in
    let l : n - 1 ≤ n = omega arith in
    omega (arith, magnitude_fits n z f, pow-le-pow_right two l)
magnitude_below n false (pos a) f = pos_fits n a f
magnitude_below n false (negsuc a) f = absurd (omega (arith, unsigned_fits n (negsuc a) f))

past_all : (z : ℤ) (m k : ℕ) → magnitude_of z < m → m ≤ k → floor_div z k ≡ floor_div z m
past_all (pos a) m k h l = let far : a < k = omega arith in ap pos (div-eq_of_lt far ∙ sym (div-eq_of_lt h))
past_all (negsuc a) m k h l = let far : a < k = omega arith in ap negsuc (div-eq_of_lt far ∙ sym (div-eq_of_lt h))

-- a number of n bits that is shifted right by n or more is 0 or -1
pub shifted_out : (n k : ℕ) (s : Bool) (z : ℤ) → n ≤ k → FitsBits n s z → floor_div z (2 ^ k) ≡ floor_div z (2 ^ n)
shifted_out n k s z h f = let two : 0 < 2 = omega arith in past_all z (2 ^ n) (2 ^ k) (magnitude_below n s z f) (pow-le-pow_right two h)

-- ---- the amount of a right shift

-- a cut amount is the amount, or a constant that is no greater
cut_cases : (P : Term → Type 0) (n : ℕ) (t : Term) → P t → ((value : ℤ) (a : Shape) → t ≡ Constant value a → n ≤ count_of (wrapped a value) → P (Constant (pos n) a)) → P (cut_amount n t)
cut_cases P n (Constant value a) p f =
    cond_both (nat_le n (count_of (wrapped a value))) (Constant (pos n) a) (Constant value a) P
    (λ e. f value a refl (leb-true n (count_of (wrapped a value)) e))
    (λ _. p)
cut_cases P n (Signal x) p f = p
cut_cases P n (Unary o a) p f = p
cut_cases P n (Binary o a b) p f = p
cut_cases P n (Mux c a b) p f = p
cut_cases P n (Cat parts) p f = p
cut_cases P n (Replicate a count) p f = p
cut_cases P n (Slice a low high) p f = p
cut_cases P n (Pick items i) p f = p
cut_cases P n (Fetch m width i) p f = p

pub cut_shape : (s : Shapes) (n : ℕ) (t : Term) → shape_of s (cut_amount n t) ≡ shape_of s t
cut_shape s n t = cut_cases (λ u. shape_of s u ≡ shape_of s t) n t refl (λ value a e l. sym (ap (shape_of s) e))

pub cut_keeps : (s : Shapes) (n k : ℕ) (t : Term) → TermKeeps s n t → TermKeeps s n (cut_amount k t)
cut_keeps s n k t h =
    cut_cases (λ u. TermKeeps s n u) k t h
    (λ value a e l. keeps_constant s n (pos k) a (constant_own s n value a (subst (λ u. TermKeeps s n u) e h)))

pub cut_no_name : (k : ℕ) (y : Place) (t : Term) → names y t ≡ false → names y (cut_amount k t) ≡ false
cut_no_name k y t e = cut_cases (λ u. names y u ≡ false) k t e (λ value a q l. refl)

-- the cut amount of a number that has as many bits
pub cut_value : (s : Shapes) (n : ℕ) (v : Values) (a : Shape) (x : ℤ) (t : Term) → AreSmall s n → AreFit s n v → Fits a x → TermKeeps s n t → (shape_of s t).signed ≡ false → binary_value op.Shr x (value_of s v (cut_amount a.bits t)) ≡ binary_value op.Shr x (value_of s v t)
cut_value s n v a x t h f g k e =
    cut_cases (λ u. binary_value op.Shr x (value_of s v u) ≡ binary_value op.Shr x (value_of s v t)) a.bits t refl
    (λ value b q l.
    let m = count_of (wrapped b value) in
    let c = subst (λ u. TermKeeps s n u) q k in
    let natural : b.signed ≡ false = ap (λ u. (shape_of s u).signed) (sym q) ∙ e in
    let below = count_below b.bits (wrapped b value) (unsigned_operand b (wrapped b value) natural (term_fits s n v (Constant value b) h f c)) in
    ap (λ (z : ℤ). floor_div x (2 ^ count_of z)) (held b a.bits (term_small s n (Constant value b) h c).some natural (omega arith))
    ∙ sym (shifted_out a.bits m a.signed x l g)
    ∙ ap (λ u. floor_div x (2 ^ count_of (value_of s v u))) (sym q))

-- ---- operators

-- a lowered operator is the operator, or a right shift by a cut amount
binary_cases : (P : Term → Type 0) (s : Shapes) (o : Op) (a b : Term) → P (Binary o a b) → (o ≡ op.Shr → P (Binary op.Shr a (cut_amount (shape_of s a).bits b))) → P (lower_binary s o a b)
binary_cases P s op.Neg a b p f = p
binary_cases P s op.Not a b p f = p
binary_cases P s op.Add a b p f = p
binary_cases P s op.Sub a b p f = p
binary_cases P s op.Mul a b p f = p
binary_cases P s op.Shl a b p f = p
binary_cases P s op.Shr a b p f = f refl
binary_cases P s op.And a b p f = p
binary_cases P s op.Or a b p f = p
binary_cases P s op.Xor a b p f = p
binary_cases P s op.Eq a b p f = p
binary_cases P s op.Ne a b p f = p
binary_cases P s op.Lt a b p f = p
binary_cases P s op.Le a b p f = p
binary_cases P s op.Gt a b p f = p
binary_cases P s op.Ge a b p f = p
binary_cases P s op.Mux a b p f = p
binary_cases P s op.Cat a b p f = p
binary_cases P s op.Replicate a b p f = p

pub lower_binary_shape : (s : Shapes) (o : Op) (a b : Term) → shape_of s (lower_binary s o a b) ≡ binary_shape o (shape_of s a) (shape_of s b)
lower_binary_shape s o a b =
    binary_cases (λ t. shape_of s t ≡ binary_shape o (shape_of s a) (shape_of s b)) s o a b refl
    (λ e. ap (λ (p : Op). binary_shape p (shape_of s a) (shape_of s b)) (sym e))

pub lower_binary_value : (s : Shapes) (n : ℕ) (v : Values) (o : Op) (a b : Term) → AreSmall s n → AreFit s n v → TermKeeps s n (Binary o a b) → value_of s v (lower_binary s o a b) ≡ binary_value o (value_of s v a) (value_of s v b)
lower_binary_value s n v o a b h f k =
    let x = value_of s v a in
    let y = value_of s v b in
    binary_cases (λ t. value_of s v t ≡ binary_value o x y) s o a b refl
    (λ e.
    let own = ap (λ (p : Op). binary_fault p (shape_of s a) (shape_of s b)) (sym e) ∙ binary_own s n o a b k in
    cut_value s n v (shape_of s a) x b h f (term_fits s n v a h f (binary_left s n o a b k)) (binary_right s n o a b k) (index_unsigned (shape_of s b) own)
    ∙ ap (λ (p : Op). binary_value p x y) (sym e))

pub lower_binary_keeps : (s : Shapes) (n : ℕ) (o : Op) (a b : Term) → TermKeeps s n (Binary o a b) → TermKeeps s n (lower_binary s o a b)
lower_binary_keeps s n o a b k =
    let bits = (shape_of s a).bits in
    binary_cases (λ t. TermKeeps s n t) s o a b k
    (λ e.
    let own = ap (λ (p : Op). binary_fault p (shape_of s a) (shape_of s b)) (sym e) ∙ binary_own s n o a b k in
    keeps_binary s n op.Shr a (cut_amount bits b) (binary_left s n o a b k) (cut_keeps s n bits b (binary_right s n o a b k))
    (ap (λ (c : Shape). index_fault c) (cut_shape s bits b) ∙ own))

lower_binary_no_name : (s : Shapes) (y : Place) (o : Op) (a b : Term) → names y a ≡ false → names y b ≡ false → names y (lower_binary s o a b) ≡ false
lower_binary_no_name s y o a b e f =
    binary_cases (λ t. names y t ≡ false) s o a b (or_from (names y a) (names y b) e f)
    (λ _. or_from (names y a) (names y (cut_amount (shape_of s a).bits b)) e (cut_no_name (shape_of s a).bits y b f))

-- ---- the shape

has_some_lowered : (s : Shapes) (ts : Terms) → has_some (lower_terms s ts) ≡ has_some ts
has_some_lowered s NoTerm = refl
has_some_lowered s (MoreTerms t ts) = refl

-- the operands of an operator are lowered first
lowered_operands : (s : Shapes) (n : ℕ) (o : Op) (a b : Term) → TermKeeps s n (Binary o a b) → TermKeeps s n (lower_term s a) → TermKeeps s n (lower_term s b) → shape_of s (lower_term s a) ≡ shape_of s a → shape_of s (lower_term s b) ≡ shape_of s b → TermKeeps s n (Binary o (lower_term s a) (lower_term s b))
lowered_operands s n o a b k m j e f =
    keeps_binary s n o (lower_term s a) (lower_term s b) m j
    (ap (λ (c : Shape). binary_fault o c (shape_of s (lower_term s b))) e ∙ ap (binary_fault o (shape_of s a)) f ∙ binary_own s n o a b k)

-- so are the items and the index of a pick
lowered_pick : (s : Shapes) (n : ℕ) (items : Terms) (i : Term) → TermKeeps s n (Pick items i) → TermsKeep s n (lower_terms s items) → TermKeeps s n (lower_term s i) → shapes_of s (lower_terms s items) ≡ shapes_of s items → shape_of s (lower_term s i) ≡ shape_of s i → TermKeeps s n (Pick (lower_terms s items) (lower_term s i))
lowered_pick s n items i k m j e f =
    keeps_pick s n (lower_terms s items) (lower_term s i) (has_some_lowered s items ∙ pick_some s n items i k) m j
    (ap (λ (as_ : List Shape). pick_fault as_ (shape_of s (lower_term s i))) e ∙ ap (pick_fault (shapes_of s items)) f ∙ pick_own s n items i k)

-- a lowered term has the shape of the term
mutual
  pub lower_shape : (s : Shapes) (n : ℕ) (t : Term) → TermKeeps s n t → shape_of s (lower_term s t) ≡ shape_of s t
  lower_shape s n (Constant value a) k = refl
  lower_shape s n (Signal x) k = refl
  lower_shape s n (Unary o a) k = ap (unary_shape o) (lower_shape s n a (unary_of s n o a k))
  lower_shape s n (Binary o a b) k =
      lower_binary_shape s o (lower_term s a) (lower_term s b)
      ∙ ap (λ (c : Shape). binary_shape o c (shape_of s (lower_term s b))) (lower_shape s n a (binary_left s n o a b k))
      ∙ ap (binary_shape o (shape_of s a)) (lower_shape s n b (binary_right s n o a b k))
  lower_shape s n (Mux c a b) k =
      ap (λ (d : Shape). joined d (shape_of s (lower_term s b))) (lower_shape s n a (mux_so s n c a b k))
      ∙ ap (joined (shape_of s a)) (lower_shape s n b (mux_other s n c a b k))
  lower_shape s n (Cat parts) k = ap (λ (as_ : List Shape). unsigned (bits_sum as_)) (lower_shapes s n parts (cat_parts s n parts k))
  lower_shape s n (Replicate a count) k = ap (λ (b : Shape). unsigned (count * b.bits)) (lower_shape s n a (replicate_of s n a count k))
  lower_shape s n (Slice a low high) k = refl
  lower_shape s n (Pick items i) k =
      picked_shape s (lower_terms s items) (lower_term s i) (has_some_lowered s items ∙ pick_some s n items i k)
      ∙ ap pick_shape (lower_shapes s n items (pick_items s n items i k))
  lower_shape s n (Fetch m width i) k = refl

  pub lower_shapes : (s : Shapes) (n : ℕ) (ts : Terms) → TermsKeep s n ts → shapes_of s (lower_terms s ts) ≡ shapes_of s ts
  lower_shapes s n NoTerm k = refl
  lower_shapes s n (MoreTerms t ts) k =
      ap (λ (a : Shape). a ∷ shapes_of s (lower_terms s ts)) (lower_shape s n t (first_keeps s n t ts k))
      ∙ ap (λ (as_ : List Shape). shape_of s t ∷ as_) (lower_shapes s n ts (rest_keeps s n t ts k))

-- ---- what a lowered term keeps

mutual
  pub lower_keeps : (s : Shapes) (n : ℕ) (t : Term) → AreSmall s n → TermKeeps s n t → TermKeeps s n (lower_term s t)
  lower_keeps s n (Constant value a) h k = k
  lower_keeps s n (Signal x) h k = k
  lower_keeps s n (Unary o a) h k =
      let p = unary_of s n o a k in
      keeps_unary s n o (lower_term s a) (lower_keeps s n a h p) (ap (λ (b : Shape). too_wide (unary_shape o b).bits) (lower_shape s n a p) ∙ unary_own s n o a k)
  lower_keeps s n (Binary o a b) h k =
      let p = binary_left s n o a b k in
      let q = binary_right s n o a b k in
      lower_binary_keeps s n o (lower_term s a) (lower_term s b)
      (lowered_operands s n o a b k (lower_keeps s n a h p) (lower_keeps s n b h q) (lower_shape s n a p) (lower_shape s n b q))
  lower_keeps s n (Mux c a b) h k =
      let p = mux_so s n c a b k in
      let q = mux_other s n c a b k in
      keeps_mux s n (lower_term s c) (lower_term s a) (lower_term s b) (lower_keeps s n c h (mux_cond s n c a b k)) (lower_keeps s n a h p) (lower_keeps s n b h q)
      (ap (λ (d : Shape). too_wide (joined d (shape_of s (lower_term s b))).bits) (lower_shape s n a p) ∙ ap (λ (d : Shape). too_wide (joined (shape_of s a) d).bits) (lower_shape s n b q) ∙ mux_own s n c a b k)
  lower_keeps s n (Cat parts) h k =
      let p = cat_parts s n parts k in
      keeps_cat s n (lower_terms s parts) (has_some_lowered s parts ∙ cat_some s n parts k) (lowers_keep s n parts h p)
      (ap (λ (as_ : List Shape). too_wide (bits_sum as_)) (lower_shapes s n parts p) ∙ cat_own s n parts k)
  lower_keeps s n (Replicate a count) h k =
      let p = replicate_of s n a count k in
      keeps_replicate s n (lower_term s a) count (lower_keeps s n a h p) (ap (λ (b : Shape). replicate_fault b count) (lower_shape s n a p) ∙ replicate_own s n a count k)
  lower_keeps s n (Slice a low high) h k =
      let p = slice_of s n a low high k in
      keeps_slice s n (lower_term s a) low high (lower_keeps s n a h p) (ap (λ (b : Shape). slice_fault b low high) (lower_shape s n a p) ∙ slice_own s n a low high k)
  lower_keeps s n (Pick items i) h k =
      let p = pick_items s n items i k in
      let q = pick_index s n items i k in
      picked_keeps s n (lower_terms s items) (lower_term s i) h
      (lowered_pick s n items i k (lowers_keep s n items h p) (lower_keeps s n i h q) (lower_shapes s n items p) (lower_shape s n i q))
  lower_keeps s n (Fetch m width i) h k = keeps_fetch s n m width (lower_term s i) (lower_keeps s n i h (fetch_of s n m width i k)) (fetch_own s n m width i k)

  pub lowers_keep : (s : Shapes) (n : ℕ) (ts : Terms) → AreSmall s n → TermsKeep s n ts → TermsKeep s n (lower_terms s ts)
  lowers_keep s n NoTerm h k = k
  lowers_keep s n (MoreTerms t ts) h k =
      keeps_more s n (lower_term s t) (lower_terms s ts) (lower_keeps s n t h (first_keeps s n t ts k)) (lowers_keep s n ts h (rest_keeps s n t ts k))

-- ---- the value

-- a lowered term has the value of the term
mutual
  pub lower_value : (s : Shapes) (n : ℕ) (v : Values) (t : Term) → AreSmall s n → AreFit s n v → TermKeeps s n t → value_of s v (lower_term s t) ≡ value_of s v t
  lower_value s n v (Constant value a) h f k = refl
  lower_value s n v (Signal x) h f k = refl
  lower_value s n v (Unary o a) h f k =
      let p = unary_of s n o a k in
      ap (λ (b : Shape). unary_value o b (value_of s v (lower_term s a))) (lower_shape s n a p) ∙ ap (unary_value o (shape_of s a)) (lower_value s n v a h f p)
  lower_value s n v (Binary o a b) h f k =
      let p = binary_left s n o a b k in
      let q = binary_right s n o a b k in
      let whole = lowered_operands s n o a b k (lower_keeps s n a h p) (lower_keeps s n b h q) (lower_shape s n a p) (lower_shape s n b q) in
      lower_binary_value s n v o (lower_term s a) (lower_term s b) h f whole
      ∙ ap (λ (z : ℤ). binary_value o z (value_of s v (lower_term s b))) (lower_value s n v a h f p)
      ∙ ap (binary_value o (value_of s v a)) (lower_value s n v b h f q)
  lower_value s n v (Mux c a b) h f k =
      ap (λ (z : ℤ). mux_value z (value_of s v (lower_term s a)) (value_of s v (lower_term s b))) (lower_value s n v c h f (mux_cond s n c a b k))
      ∙ ap (λ (z : ℤ). mux_value (value_of s v c) z (value_of s v (lower_term s b))) (lower_value s n v a h f (mux_so s n c a b k))
      ∙ ap (mux_value (value_of s v c) (value_of s v a)) (lower_value s n v b h f (mux_other s n c a b k))
  lower_value s n v (Cat parts) h f k =
      let p = cat_parts s n parts k in
      ap (λ (as_ : List Shape). pos (cat_pattern as_ (values_of s v (lower_terms s parts)))) (lower_shapes s n parts p)
      ∙ ap (λ (zs : List ℤ). pos (cat_pattern (shapes_of s parts) zs)) (lower_values s n v parts h f p)
  lower_value s n v (Replicate a count) h f k =
      let p = replicate_of s n a count k in
      ap (λ (b : Shape). replicate_value b count (value_of s v (lower_term s a))) (lower_shape s n a p)
      ∙ ap (replicate_value (shape_of s a) count) (lower_value s n v a h f p)
  lower_value s n v (Slice a low high) h f k = ap (λ (z : ℤ). pos (field_of z low (high - low))) (lower_value s n v a h f (slice_of s n a low high k))
  lower_value s n v (Pick items i) h f k =
      let p = pick_items s n items i k in
      let q = pick_index s n items i k in
      let whole = lowered_pick s n items i k (lowers_keep s n items h p) (lower_keeps s n i h q) (lower_shapes s n items p) (lower_shape s n i q) in
      picked_value s n v (lower_terms s items) (lower_term s i) h f whole
      ∙ ap (λ (zs : List ℤ). pick_value zs (value_of s v (lower_term s i))) (lower_values s n v items h f p)
      ∙ ap (pick_value (values_of s v items)) (lower_value s n v i h f q)
  lower_value s n v (Fetch m width i) h f k = ap (λ (z : ℤ). wrapped (unsigned width) (v (Word m (count_of z)))) (lower_value s n v i h f (fetch_of s n m width i k))

  pub lower_values : (s : Shapes) (n : ℕ) (v : Values) (ts : Terms) → AreSmall s n → AreFit s n v → TermsKeep s n ts → values_of s v (lower_terms s ts) ≡ values_of s v ts
  lower_values s n v NoTerm h f k = refl
  lower_values s n v (MoreTerms t ts) h f k =
      ap (λ (z : ℤ). z ∷ values_of s v (lower_terms s ts)) (lower_value s n v t h f (first_keeps s n t ts k))
      ∙ ap (λ (zs : List ℤ). value_of s v t ∷ zs) (lower_values s n v ts h f (rest_keeps s n t ts k))

-- ---- the signals that it names

mutual
  lower_no_name : (s : Shapes) (y : Place) (t : Term) → names y t ≡ false → names y (lower_term s t) ≡ false
  lower_no_name s y (Constant value a) e = refl
  lower_no_name s y (Signal x) e = e
  lower_no_name s y (Unary o a) e = lower_no_name s y a e
  lower_no_name s y (Binary o a b) e =
      let p = or_parts (names y a) (names y b) e in
      lower_binary_no_name s y o (lower_term s a) (lower_term s b) (lower_no_name s y a p.0) (lower_no_name s y b p.1)
  lower_no_name s y (Mux c a b) e =
      let p = or_parts (names y c) (names y a || names y b) e in
      let q = or_parts (names y a) (names y b) p.1 in
      or_from (names y (lower_term s c)) (names y (lower_term s a) || names y (lower_term s b)) (lower_no_name s y c p.0)
      (or_from (names y (lower_term s a)) (names y (lower_term s b)) (lower_no_name s y a q.0) (lower_no_name s y b q.1))
  lower_no_name s y (Cat parts) e = lowers_no_name s y parts e
  lower_no_name s y (Replicate a count) e = lower_no_name s y a e
  lower_no_name s y (Slice a low high) e = lower_no_name s y a e
  lower_no_name s y (Pick items i) e =
      let p = or_parts (some_names y items) (names y i) e in
      pick_from_no_name s y 0 (lower_terms s items) (lower_term s i) (lowers_no_name s y items p.0) (lower_no_name s y i p.1)
  lower_no_name s y (Fetch m width i) e =
      let p = or_parts (is_word m y) (names y i) e in
      or_from (is_word m y) (names y (lower_term s i)) p.0 (lower_no_name s y i p.1)

  lowers_no_name : (s : Shapes) (y : Place) (ts : Terms) → some_names y ts ≡ false → some_names y (lower_terms s ts) ≡ false
  lowers_no_name s y NoTerm e = refl
  lowers_no_name s y (MoreTerms t ts) e =
      let p = or_parts (names y t) (some_names y ts) e in
      or_from (names y (lower_term s t)) (some_names y (lower_terms s ts)) (lower_no_name s y t p.0) (lowers_no_name s y ts p.1)

-- a lowered term names only what the term names
pub lower_names : (s : Shapes) (y : Place) (t : Term) → names y (lower_term s t) ≡ true → names y t ≡ true
lower_names s y t e = by_test (names y t) (λ q. q) (λ q. absurd (let f = lower_no_name s y t q in cc))

-- ---- no pick

abbrev mutual
  pub has_no_pick : Term → Bool
  has_no_pick (Constant value a) = true
  has_no_pick (Signal x) = true
  has_no_pick (Unary o a) = has_no_pick a
  has_no_pick (Binary o a b) = has_no_pick a && has_no_pick b
  has_no_pick (Mux c a b) = has_no_pick c && (has_no_pick a && has_no_pick b)
  has_no_pick (Cat parts) = have_no_pick parts
  has_no_pick (Replicate a count) = has_no_pick a
  has_no_pick (Slice a low high) = has_no_pick a
  has_no_pick (Pick items i) = false
  has_no_pick (Fetch m width i) = has_no_pick i

  pub have_no_pick : Terms → Bool
  have_no_pick NoTerm = true
  have_no_pick (MoreTerms t ts) = has_no_pick t && have_no_pick ts

cut_no_pick : (k : ℕ) (t : Term) → has_no_pick t ≡ true → has_no_pick (cut_amount k t) ≡ true
cut_no_pick k t e = cut_cases (λ u. has_no_pick u ≡ true) k t e (λ value a q l. refl)

pub item_no_pick : (s : Shapes) (i : Term) (k : ℕ) → has_no_pick i ≡ true → has_no_pick (is_item s i k) ≡ true
item_no_pick s i k e =
    cond_both (nat_lt k (2 ^ (shape_of s i).bits)) (Binary op.Eq i (Constant (pos k) (shape_of s i))) never (λ t. has_no_pick t ≡ true)
    (λ _. and_from (has_no_pick i) true e refl)
    (λ _. refl)

pick_from_no_pick : (s : Shapes) (k : ℕ) (ts : Terms) (i : Term) → have_no_pick ts ≡ true → has_no_pick i ≡ true → has_no_pick (pick_from s k ts i) ≡ true
pick_from_no_pick s k NoTerm i e f = refl
pick_from_no_pick s k (MoreTerms t NoTerm) i e f = (and_parts (has_no_pick t) true e).0
pick_from_no_pick s k (MoreTerms t (MoreTerms u us)) i e f =
    let p = and_parts (has_no_pick t) (have_no_pick (MoreTerms u us)) e in
    let rest = pick_from s (k + 1) (MoreTerms u us) i in
    and_from (has_no_pick (is_item s i k)) (has_no_pick t && has_no_pick rest) (item_no_pick s i k f)
    (and_from (has_no_pick t) (has_no_pick rest) p.0 (pick_from_no_pick s (k + 1) (MoreTerms u us) i p.1 f))

lower_binary_no_pick : (s : Shapes) (o : Op) (a b : Term) → has_no_pick a ≡ true → has_no_pick b ≡ true → has_no_pick (lower_binary s o a b) ≡ true
lower_binary_no_pick s o a b e f =
    binary_cases (λ t. has_no_pick t ≡ true) s o a b (and_from (has_no_pick a) (has_no_pick b) e f)
    (λ _. and_from (has_no_pick a) (has_no_pick (cut_amount (shape_of s a).bits b)) e (cut_no_pick (shape_of s a).bits b f))

-- a lowered term has no pick
mutual
  pub lower_no_pick : (s : Shapes) (t : Term) → has_no_pick (lower_term s t) ≡ true
  lower_no_pick s (Constant value a) = refl
  lower_no_pick s (Signal x) = refl
  lower_no_pick s (Unary o a) = lower_no_pick s a
  lower_no_pick s (Binary o a b) = lower_binary_no_pick s o (lower_term s a) (lower_term s b) (lower_no_pick s a) (lower_no_pick s b)
  lower_no_pick s (Mux c a b) =
      and_from (has_no_pick (lower_term s c)) (has_no_pick (lower_term s a) && has_no_pick (lower_term s b)) (lower_no_pick s c)
      (and_from (has_no_pick (lower_term s a)) (has_no_pick (lower_term s b)) (lower_no_pick s a) (lower_no_pick s b))
  lower_no_pick s (Cat parts) = lowers_no_pick s parts
  lower_no_pick s (Replicate a count) = lower_no_pick s a
  lower_no_pick s (Slice a low high) = lower_no_pick s a
  lower_no_pick s (Pick items i) = pick_from_no_pick s 0 (lower_terms s items) (lower_term s i) (lowers_no_pick s items) (lower_no_pick s i)
  lower_no_pick s (Fetch m width i) = lower_no_pick s i

  pub lowers_no_pick : (s : Shapes) (ts : Terms) → have_no_pick (lower_terms s ts) ≡ true
  lowers_no_pick s NoTerm = refl
  lowers_no_pick s (MoreTerms t ts) = and_from (has_no_pick (lower_term s t)) (have_no_pick (lower_terms s ts)) (lower_no_pick s t) (lowers_no_pick s ts)
