-- A tree without a fault has a small shape, and its value fits it.
use Rattle.std.proofs.Common.{◌≡◌, ℕ, ◌-◌, ◌<◌, false, length, arith}
use Rattle.std.specs.Prelude.{pos, None}
use Rattle.lx_num.specs.Ints.{Fits, unsigned}
use Rattle.lx_num.proofs.Ranges.{fits_pos, FitsBits-wrap_bits}
use Rattle.lx_circuit.specs.Terms as term
use Rattle.lx_circuit.specs.Terms.{Term, Terms, NoTerm, MoreTerms}
use Rattle.lx_circuit.specs.Shapes.{Shapes, shape_of, shapes_of, fault_of, faults_of, joined, bits_sum, some_signed, widest, pick_shape, unary_shape, too_wide, or_else, index_fault, binary_fault, replicate_fault, slice_fault, pick_fault, constant_fault}
use Rattle.lx_circuit.specs.Places.{Values, At, Word}
use Rattle.lx_circuit.specs.Values.{value_of, values_of, cat_pattern, count_of}
use Rattle.lx_circuit.proofs.Values.{cat_below}
use Rattle.lx_fhdl.specs.Keeping.{EachOf}
use Rattle.lx_fhdl.specs.Nodes.{IsSmall}
use Rattle.lx_fhdl.proofs.Items.{EachFits, sum_some, widest_some, items_fit}
use Rattle.lx_fhdl.proofs.Arena.{constant_small, replicate_small, slice_inside}
use Rattle.lx_fhdl.proofs.Fitting.{fits_copies, fits_field, fits_mux, fits_zero}
use Rattle.lx_fhdl.proofs.Operators.{binary_fits, binary_small, unary_fits, unary_some, joined_some, not_wide, none_left, none_right}

abbrev pub IsSome : Terms → Type 0
IsSome NoTerm = ⊥
IsSome (MoreTerms t ts) = Unit {0}

-- each signal in a tree has P, each Cat a part, and each Pick an item
abbrev mutual
  pub HasAllParts : (ℕ → Type 0) → Term → Type 0
  HasAllParts P (term.Constant value a) = Unit {0}
  HasAllParts P (term.Signal x) = P x
  HasAllParts P (term.Unary op a) = HasAllParts P a
  HasAllParts P (term.Binary op a b) = HasAllParts P a × HasAllParts P b
  HasAllParts P (term.Mux c a b) = HasAllParts P c × (HasAllParts P a × HasAllParts P b)
  HasAllParts P (term.Cat parts) = IsSome parts × HaveAllParts P parts
  HasAllParts P (term.Replicate a count) = HasAllParts P a
  HasAllParts P (term.Slice a low high) = HasAllParts P a
  HasAllParts P (term.Pick items index) = IsSome items × (HaveAllParts P items × HasAllParts P index)
  HasAllParts P (term.Fetch memory width at) = HasAllParts P at

  pub HaveAllParts : (ℕ → Type 0) → Terms → Type 0
  HaveAllParts P NoTerm = Unit {0}
  HaveAllParts P (MoreTerms t ts) = HasAllParts P t × HaveAllParts P ts

-- the signals that have P are small
abbrev pub AreSmall : (ℕ → Type 0) → Shapes → Type 0
AreSmall P s = (x : ℕ) → P x → IsSmall (s x)

-- ---- shapes

-- so has the list of its shapes
some_shapes : (s : Shapes) (ts : Terms) → IsSome ts → 0 < length (shapes_of s ts)
some_shapes s NoTerm h = absurd h
some_shapes s (MoreTerms t ts) h = omega arith

mutual
  -- a tree without a fault has 1 to 127 bits
  pub tree_small : (P : ℕ → Type 0) (s : Shapes) → AreSmall P s → (t : Term) → HasAllParts P t → fault_of s t ≡ None → IsSmall (shape_of s t)
  tree_small P s m (term.Constant value a) h e = constant_small a e
  tree_small P s m (term.Signal x) h e = m x h
  tree_small P s m (term.Unary op a) h e =
      let own = none_right (fault_of s a) (too_wide (unary_shape op (shape_of s a)).bits) e in
      let p = tree_small P s m a h (none_left (fault_of s a) (too_wide (unary_shape op (shape_of s a)).bits) e) in
      record { some = unary_some op (shape_of s a) p.some; most = not_wide (unary_shape op (shape_of s a)).bits own }
  tree_small P s m (term.Binary op a b) h e =
      let own = binary_fault op (shape_of s a) (shape_of s b) in
      let later = none_right (fault_of s a) (or_else (fault_of s b) own) e in
      binary_small op (shape_of s a) (shape_of s b)
      (tree_small P s m a h.0 (none_left (fault_of s a) (or_else (fault_of s b) own) e))
      (tree_small P s m b h.1 (none_left (fault_of s b) own later))
      (none_right (fault_of s b) own later)
  tree_small P s m (term.Mux c a b) h e =
      let own = too_wide (joined (shape_of s a) (shape_of s b)).bits in
      let first = none_right (fault_of s c) (or_else (fault_of s a) (or_else (fault_of s b) own)) e in
      let second = none_right (fault_of s a) (or_else (fault_of s b) own) first in
      let p = tree_small P s m a h.1.0 (none_left (fault_of s a) (or_else (fault_of s b) own) first) in
      record {
        some = joined_some (shape_of s a) (shape_of s b) p;
        most = not_wide (joined (shape_of s a) (shape_of s b)).bits (none_right (fault_of s b) own second);
      }
  tree_small P s m (term.Cat parts) h e =
      let own = too_wide (bits_sum (shapes_of s parts)) in
      record {
        some = sum_some (shapes_of s parts) (some_shapes s parts h.0) (trees_small P s m parts h.1 (none_left (faults_of s parts) own e));
        most = not_wide (bits_sum (shapes_of s parts)) (none_right (faults_of s parts) own e);
      }
  tree_small P s m (term.Replicate a count) h e =
      let own = replicate_fault (shape_of s a) count in
      let q = replicate_small (shape_of s a) count (tree_small P s m a h (none_left (fault_of s a) own e)) (none_right (fault_of s a) own e) in
      record { some = q.0; most = q.1 }
  tree_small P s m (term.Slice a low high) h e =
      let own = slice_fault (shape_of s a) low high in
      let p = tree_small P s m a h (none_left (fault_of s a) own e) in
      let q = slice_inside (shape_of s a) low high (none_right (fault_of s a) own e) in
      record { some = omega arith; most = omega (arith, p.most) }
  tree_small P s m (term.Pick items index) h e =
      let own = pick_fault (shapes_of s items) (shape_of s index) in
      let later = none_right (faults_of s items) (or_else (fault_of s index) own) e in
      let wide = none_right (index_fault (shape_of s index)) (too_wide (pick_shape (shapes_of s items)).bits) (none_right (fault_of s index) own later) in
      record {
        some = widest_some (some_signed (shapes_of s items)) (shapes_of s items) (some_shapes s items h.0) (trees_small P s m items h.1.0 (none_left (faults_of s items) (or_else (fault_of s index) own) e));
        most = not_wide (pick_shape (shapes_of s items)).bits wide;
      }
  tree_small P s m (term.Fetch memory width at) h e = constant_small (unsigned width) (none_right (fault_of s at) (constant_fault (unsigned width)) e)

  pub trees_small : (P : ℕ → Type 0) (s : Shapes) → AreSmall P s → (ts : Terms) → HaveAllParts P ts → faults_of s ts ≡ None → EachOf IsSmall (shapes_of s ts)
  trees_small P s m NoTerm h e = tt
  trees_small P s m (MoreTerms t ts) h e = (
    tree_small P s m t h.0 (none_left (fault_of s t) (faults_of s ts) e),
    trees_small P s m ts h.1 (none_right (fault_of s t) (faults_of s ts) e),
  )

-- ---- values

mutual
  -- the value of a tree without a fault fits its shape
  pub tree_fits : (P : ℕ → Type 0) (s : Shapes) (v : Values) → AreSmall P s → ((x : ℕ) → P x → Fits (s x) (v (At x))) → (t : Term) → HasAllParts P t → fault_of s t ≡ None → Fits (shape_of s t) (value_of s v t)
  tree_fits P s v m f (term.Constant value a) h e = FitsBits-wrap_bits a.bits a.signed value (constant_small a e).some
  tree_fits P s v m f (term.Signal x) h e = f x h
  tree_fits P s v m f (term.Unary op a) h e =
      let sound = none_left (fault_of s a) (too_wide (unary_shape op (shape_of s a)).bits) e in
      unary_fits op (shape_of s a) (value_of s v a) (tree_small P s m a h sound).some (tree_fits P s v m f a h sound)
  tree_fits P s v m f (term.Binary op a b) h e =
      let own = binary_fault op (shape_of s a) (shape_of s b) in
      let left = none_left (fault_of s a) (or_else (fault_of s b) own) e in
      let later = none_right (fault_of s a) (or_else (fault_of s b) own) e in
      let right = none_left (fault_of s b) own later in
      binary_fits op (shape_of s a) (shape_of s b) (value_of s v a) (value_of s v b)
      (tree_small P s m a h.0 left) (tree_small P s m b h.1 right) (none_right (fault_of s b) own later)
      (tree_fits P s v m f a h.0 left) (tree_fits P s v m f b h.1 right)
  tree_fits P s v m f (term.Mux c a b) h e =
      let own = too_wide (joined (shape_of s a) (shape_of s b)).bits in
      let first = none_right (fault_of s c) (or_else (fault_of s a) (or_else (fault_of s b) own)) e in
      let second = none_right (fault_of s a) (or_else (fault_of s b) own) first in
      fits_mux (shape_of s a) (shape_of s b) (value_of s v c) (value_of s v a) (value_of s v b)
      (tree_fits P s v m f a h.1.0 (none_left (fault_of s a) (or_else (fault_of s b) own) first))
      (tree_fits P s v m f b h.1.1 (none_left (fault_of s b) own second))
  tree_fits P s v m f (term.Cat parts) h e = fits_pos (bits_sum (shapes_of s parts)) (cat_pattern (shapes_of s parts) (values_of s v parts)) (cat_below (shapes_of s parts) (values_of s v parts))
  tree_fits P s v m f (term.Replicate a count) h e = fits_copies (shape_of s a) count (value_of s v a)
  tree_fits P s v m f (term.Slice a low high) h e = fits_field (value_of s v a) low (high - low)
  tree_fits P s v m f (term.Pick items index) h e =
      let own = pick_fault (shapes_of s items) (shape_of s index) in
      let some = some_signed (shapes_of s items) in
      let w = widest some (shapes_of s items) in
      items_fit some w (shapes_of s items) (values_of s v items) (pos 0) (count_of (value_of s v index)) (fits_zero w some) (omega arith) (λ g. g)
      (trees_fit P s v m f items h.1.0 (none_left (faults_of s items) (or_else (fault_of s index) own) e))
  tree_fits P s v m f (term.Fetch memory width at) h e =
      FitsBits-wrap_bits width false (v (Word memory (count_of (value_of s v at)))) (constant_small (unsigned width) (none_right (fault_of s at) (constant_fault (unsigned width)) e)).some

  pub trees_fit : (P : ℕ → Type 0) (s : Shapes) (v : Values) → AreSmall P s → ((x : ℕ) → P x → Fits (s x) (v (At x))) → (ts : Terms) → HaveAllParts P ts → faults_of s ts ≡ None → EachFits (shapes_of s ts) (values_of s v ts)
  trees_fit P s v m f NoTerm h e = tt
  trees_fit P s v m f (MoreTerms t ts) h e = (
    tree_fits P s v m f t h.0 (none_left (fault_of s t) (faults_of s ts) e),
    trees_fit P s v m f ts h.1 (none_right (fault_of s t) (faults_of s ts) e),
  )
