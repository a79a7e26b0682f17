-- Terms that keep to n signals: their parts keep too, their shapes are small, and their values fit.
use Rattle.std.proofs.Common.{◌≡◌, ℕ, ◌<◌, true, false, ◌&&◌, refl}
use Rattle.std.specs.Prelude.{ℤ, None}
use Rattle.std.proofs.lemmas.Bool.{ltb-true, lt-ltb, and_parts, and_from}
use Rattle.lx_num.specs.declared.Shape.{Shape}
use Rattle.lx_num.specs.Ints.{Fits, unsigned}
use Rattle.lx_tables.specs.declared.operators.Op.{Op}
use Rattle.lx_circuit.specs.Places.{Values, At}
use Rattle.lx_circuit.specs.Terms.{Term, Terms, Constant, Signal, Unary, Binary, Mux, Cat, Replicate, Slice, Pick, Fetch, NoTerm, MoreTerms}
use Rattle.lx_circuit.specs.Shapes.{Shapes, shape_of, shapes_of, fault_of, faults_of, or_else, joined, pick_shape, bits_sum, unary_shape, too_wide, index_fault, binary_fault, replicate_fault, slice_fault, pick_fault, constant_fault}
use Rattle.lx_circuit.specs.Values.{value_of}
use Rattle.lx_fhdl.specs.Nodes.{IsSmall}
use Rattle.lx_fhdl.proofs.Operators.{none_left, none_right, index_unsigned}
use Rattle.lx_fhdl.proofs.TreesFit.{HasAllParts, HaveAllParts, IsSome, tree_small, tree_fits}
use Rattle.lx_fhdl.proofs.Meanings.{after_none}
use Rattle.lx_lowering.specs.Lowering.{TermKeeps, is_sound, are_sound, has_some}

-- a list of terms that keep
pub record TermsKeep (s : Shapes) (n : ℕ) (ts : Terms) : Type 0 where
  pub sound : are_sound n ts ≡ true
  pub fault : faults_of s ts ≡ None

-- all signals are small
abbrev pub AreSmall : Shapes → ℕ → Type 0
AreSmall s n = (x : ℕ) → x < n → IsSmall (s x)

-- the value of each signal fits its shape
abbrev pub AreFit : Shapes → ℕ → Values → Type 0
AreFit s n v = (x : ℕ) → x < n → Fits (s x) (v (At x))

-- ---- the parts of a term that keeps

pub constant_own : (s : Shapes) (n : ℕ) (value : ℤ) (a : Shape) → TermKeeps s n (Constant value a) → constant_fault a ≡ None
constant_own s n value a k = k.fault

pub signal_below : (s : Shapes) (n x : ℕ) → TermKeeps s n (Signal x) → x < n
signal_below s n x k = ltb-true x n k.sound

pub unary_of : (s : Shapes) (n : ℕ) (o : Op) (a : Term) → TermKeeps s n (Unary o a) → TermKeeps s n a
unary_of s n o a k = record { sound = k.sound; fault = none_left (fault_of s a) (too_wide (unary_shape o (shape_of s a)).bits) k.fault }

pub unary_own : (s : Shapes) (n : ℕ) (o : Op) (a : Term) → TermKeeps s n (Unary o a) → too_wide (unary_shape o (shape_of s a)).bits ≡ None
unary_own s n o a k = none_right (fault_of s a) (too_wide (unary_shape o (shape_of s a)).bits) k.fault

pub binary_left : (s : Shapes) (n : ℕ) (o : Op) (a b : Term) → TermKeeps s n (Binary o a b) → TermKeeps s n a
binary_left s n o a b k = record {
  sound = (and_parts (is_sound n a) (is_sound n b) k.sound).0;
  fault = none_left (fault_of s a) (or_else (fault_of s b) (binary_fault o (shape_of s a) (shape_of s b))) k.fault;
}

pub binary_right : (s : Shapes) (n : ℕ) (o : Op) (a b : Term) → TermKeeps s n (Binary o a b) → TermKeeps s n b
binary_right s n o a b k = record {
  sound = (and_parts (is_sound n a) (is_sound n b) k.sound).1;
  fault = none_left (fault_of s b) (binary_fault o (shape_of s a) (shape_of s b)) (none_right (fault_of s a) (or_else (fault_of s b) (binary_fault o (shape_of s a) (shape_of s b))) k.fault);
}

pub binary_own : (s : Shapes) (n : ℕ) (o : Op) (a b : Term) → TermKeeps s n (Binary o a b) → binary_fault o (shape_of s a) (shape_of s b) ≡ None
binary_own s n o a b k =
    none_right (fault_of s b) (binary_fault o (shape_of s a) (shape_of s b))
    (none_right (fault_of s a) (or_else (fault_of s b) (binary_fault o (shape_of s a) (shape_of s b))) k.fault)

pub mux_cond : (s : Shapes) (n : ℕ) (c a b : Term) → TermKeeps s n (Mux c a b) → TermKeeps s n c
mux_cond s n c a b k = record {
  sound = (and_parts (is_sound n c) (is_sound n a && is_sound n b) k.sound).0;
  fault = none_left (fault_of s c) (or_else (fault_of s a) (or_else (fault_of s b) (too_wide (joined (shape_of s a) (shape_of s b)).bits))) k.fault;
}

-- what a Mux says of its two values alone
mux_values : (s : Shapes) (n : ℕ) (c a b : Term) → TermKeeps s n (Mux c a b) → (TermKeeps s n a) × (TermKeeps s n b) × (too_wide (joined (shape_of s a) (shape_of s b)).bits ≡ None)
mux_values s n c a b k =
    let own = too_wide (joined (shape_of s a) (shape_of s b)).bits in
    let p = and_parts (is_sound n a) (is_sound n b) (and_parts (is_sound n c) (is_sound n a && is_sound n b) k.sound).1 in
    let e = none_right (fault_of s c) (or_else (fault_of s a) (or_else (fault_of s b) own)) k.fault in
    let f = none_right (fault_of s a) (or_else (fault_of s b) own) e in (
      record { sound = p.0; fault = none_left (fault_of s a) (or_else (fault_of s b) own) e },
      record { sound = p.1; fault = none_left (fault_of s b) own f },
      none_right (fault_of s b) own f,
    )

pub mux_so : (s : Shapes) (n : ℕ) (c a b : Term) → TermKeeps s n (Mux c a b) → TermKeeps s n a
mux_so s n c a b k = (mux_values s n c a b k).0

pub mux_other : (s : Shapes) (n : ℕ) (c a b : Term) → TermKeeps s n (Mux c a b) → TermKeeps s n b
mux_other s n c a b k = (mux_values s n c a b k).1

pub mux_own : (s : Shapes) (n : ℕ) (c a b : Term) → TermKeeps s n (Mux c a b) → too_wide (joined (shape_of s a) (shape_of s b)).bits ≡ None
mux_own s n c a b k = (mux_values s n c a b k).2

pub first_keeps : (s : Shapes) (n : ℕ) (t : Term) (ts : Terms) → TermsKeep s n (MoreTerms t ts) → TermKeeps s n t
first_keeps s n t ts k = record { sound = (and_parts (is_sound n t) (are_sound n ts) k.sound).0; fault = none_left (fault_of s t) (faults_of s ts) k.fault }

pub rest_keeps : (s : Shapes) (n : ℕ) (t : Term) (ts : Terms) → TermsKeep s n (MoreTerms t ts) → TermsKeep s n ts
rest_keeps s n t ts k = record { sound = (and_parts (is_sound n t) (are_sound n ts) k.sound).1; fault = none_right (fault_of s t) (faults_of s ts) k.fault }

pub cat_some : (s : Shapes) (n : ℕ) (parts : Terms) → TermKeeps s n (Cat parts) → has_some parts ≡ true
cat_some s n parts k = (and_parts (has_some parts) (are_sound n parts) k.sound).0

pub cat_parts : (s : Shapes) (n : ℕ) (parts : Terms) → TermKeeps s n (Cat parts) → TermsKeep s n parts
cat_parts s n parts k = record {
  sound = (and_parts (has_some parts) (are_sound n parts) k.sound).1;
  fault = none_left (faults_of s parts) (too_wide (bits_sum (shapes_of s parts))) k.fault;
}

pub cat_own : (s : Shapes) (n : ℕ) (parts : Terms) → TermKeeps s n (Cat parts) → too_wide (bits_sum (shapes_of s parts)) ≡ None
cat_own s n parts k = none_right (faults_of s parts) (too_wide (bits_sum (shapes_of s parts))) k.fault

pub replicate_of : (s : Shapes) (n : ℕ) (a : Term) (count : ℕ) → TermKeeps s n (Replicate a count) → TermKeeps s n a
replicate_of s n a count k = record { sound = k.sound; fault = none_left (fault_of s a) (replicate_fault (shape_of s a) count) k.fault }

pub replicate_own : (s : Shapes) (n : ℕ) (a : Term) (count : ℕ) → TermKeeps s n (Replicate a count) → replicate_fault (shape_of s a) count ≡ None
replicate_own s n a count k = none_right (fault_of s a) (replicate_fault (shape_of s a) count) k.fault

pub slice_of : (s : Shapes) (n : ℕ) (a : Term) (low high : ℕ) → TermKeeps s n (Slice a low high) → TermKeeps s n a
slice_of s n a low high k = record { sound = k.sound; fault = none_left (fault_of s a) (slice_fault (shape_of s a) low high) k.fault }

pub slice_own : (s : Shapes) (n : ℕ) (a : Term) (low high : ℕ) → TermKeeps s n (Slice a low high) → slice_fault (shape_of s a) low high ≡ None
slice_own s n a low high k = none_right (fault_of s a) (slice_fault (shape_of s a) low high) k.fault

pub pick_some : (s : Shapes) (n : ℕ) (items : Terms) (i : Term) → TermKeeps s n (Pick items i) → has_some items ≡ true
pick_some s n items i k = (and_parts (has_some items) (are_sound n items && is_sound n i) k.sound).0

pub pick_items : (s : Shapes) (n : ℕ) (items : Terms) (i : Term) → TermKeeps s n (Pick items i) → TermsKeep s n items
pick_items s n items i k = record {
  sound = (and_parts (are_sound n items) (is_sound n i) (and_parts (has_some items) (are_sound n items && is_sound n i) k.sound).1).0;
  fault = none_left (faults_of s items) (or_else (fault_of s i) (pick_fault (shapes_of s items) (shape_of s i))) k.fault;
}

pub pick_index : (s : Shapes) (n : ℕ) (items : Terms) (i : Term) → TermKeeps s n (Pick items i) → TermKeeps s n i
pick_index s n items i k = record {
  sound = (and_parts (are_sound n items) (is_sound n i) (and_parts (has_some items) (are_sound n items && is_sound n i) k.sound).1).1;
  fault = none_left (fault_of s i) (pick_fault (shapes_of s items) (shape_of s i)) (none_right (faults_of s items) (or_else (fault_of s i) (pick_fault (shapes_of s items) (shape_of s i))) k.fault);
}

pub pick_own : (s : Shapes) (n : ℕ) (items : Terms) (i : Term) → TermKeeps s n (Pick items i) → pick_fault (shapes_of s items) (shape_of s i) ≡ None
pick_own s n items i k =
    none_right (fault_of s i) (pick_fault (shapes_of s items) (shape_of s i))
    (none_right (faults_of s items) (or_else (fault_of s i) (pick_fault (shapes_of s items) (shape_of s i))) k.fault)

-- a pick's index is unsigned
pub pick_unsigned : (s : Shapes) (n : ℕ) (items : Terms) (i : Term) → TermKeeps s n (Pick items i) → (shape_of s i).signed ≡ false
pick_unsigned s n items i k = index_unsigned (shape_of s i) (none_left (index_fault (shape_of s i)) (too_wide (pick_shape (shapes_of s items)).bits) (pick_own s n items i k))

pub fetch_of : (s : Shapes) (n m width : ℕ) (i : Term) → TermKeeps s n (Fetch m width i) → TermKeeps s n i
fetch_of s n m width i k = record { sound = k.sound; fault = none_left (fault_of s i) (constant_fault (unsigned width)) k.fault }

pub fetch_own : (s : Shapes) (n m width : ℕ) (i : Term) → TermKeeps s n (Fetch m width i) → constant_fault (unsigned width) ≡ None
fetch_own s n m width i k = none_right (fault_of s i) (constant_fault (unsigned width)) k.fault

-- ---- terms that keep, of parts that keep

pub keeps_constant : (s : Shapes) (n : ℕ) (value : ℤ) (a : Shape) → constant_fault a ≡ None → TermKeeps s n (Constant value a)
keeps_constant s n value a e = record { sound = refl; fault = e }

pub keeps_signal : (s : Shapes) (n x : ℕ) → x < n → TermKeeps s n (Signal x)
keeps_signal s n x h = record { sound = lt-ltb x n h; fault = refl }

pub keeps_unary : (s : Shapes) (n : ℕ) (o : Op) (a : Term) → TermKeeps s n a → too_wide (unary_shape o (shape_of s a)).bits ≡ None → TermKeeps s n (Unary o a)
keeps_unary s n o a k e = record { sound = k.sound; fault = after_none (fault_of s a) (too_wide (unary_shape o (shape_of s a)).bits) k.fault e }

pub keeps_binary : (s : Shapes) (n : ℕ) (o : Op) (a b : Term) → TermKeeps s n a → TermKeeps s n b → binary_fault o (shape_of s a) (shape_of s b) ≡ None → TermKeeps s n (Binary o a b)
keeps_binary s n o a b k m e = record {
  sound = and_from (is_sound n a) (is_sound n b) k.sound m.sound;
  fault = after_none (fault_of s a) (or_else (fault_of s b) (binary_fault o (shape_of s a) (shape_of s b))) k.fault (after_none (fault_of s b) (binary_fault o (shape_of s a) (shape_of s b)) m.fault e);
}

pub keeps_mux : (s : Shapes) (n : ℕ) (c a b : Term) → TermKeeps s n c → TermKeeps s n a → TermKeeps s n b → too_wide (joined (shape_of s a) (shape_of s b)).bits ≡ None → TermKeeps s n (Mux c a b)
keeps_mux s n c a b j k m e =
    let own = too_wide (joined (shape_of s a) (shape_of s b)).bits in
    record {
      sound = and_from (is_sound n c) (is_sound n a && is_sound n b) j.sound (and_from (is_sound n a) (is_sound n b) k.sound m.sound);
      fault = after_none (fault_of s c) (or_else (fault_of s a) (or_else (fault_of s b) own)) j.fault (after_none (fault_of s a) (or_else (fault_of s b) own) k.fault (after_none (fault_of s b) own m.fault e));
    }

pub keeps_none : (s : Shapes) (n : ℕ) → TermsKeep s n NoTerm
keeps_none s n = record { sound = refl; fault = refl }

pub keeps_more : (s : Shapes) (n : ℕ) (t : Term) (ts : Terms) → TermKeeps s n t → TermsKeep s n ts → TermsKeep s n (MoreTerms t ts)
keeps_more s n t ts k m = record {
  sound = and_from (is_sound n t) (are_sound n ts) k.sound m.sound;
  fault = after_none (fault_of s t) (faults_of s ts) k.fault m.fault;
}

pub keeps_cat : (s : Shapes) (n : ℕ) (parts : Terms) → has_some parts ≡ true → TermsKeep s n parts → too_wide (bits_sum (shapes_of s parts)) ≡ None → TermKeeps s n (Cat parts)
keeps_cat s n parts h k e = record {
  sound = and_from (has_some parts) (are_sound n parts) h k.sound;
  fault = after_none (faults_of s parts) (too_wide (bits_sum (shapes_of s parts))) k.fault e;
}

pub keeps_pick : (s : Shapes) (n : ℕ) (items : Terms) (i : Term) → has_some items ≡ true → TermsKeep s n items → TermKeeps s n i → pick_fault (shapes_of s items) (shape_of s i) ≡ None → TermKeeps s n (Pick items i)
keeps_pick s n items i h k m e = record {
  sound = and_from (has_some items) (are_sound n items && is_sound n i) h (and_from (are_sound n items) (is_sound n i) k.sound m.sound);
  fault = after_none (faults_of s items) (or_else (fault_of s i) (pick_fault (shapes_of s items) (shape_of s i))) k.fault (after_none (fault_of s i) (pick_fault (shapes_of s items) (shape_of s i)) m.fault e);
}

pub keeps_replicate : (s : Shapes) (n : ℕ) (a : Term) (count : ℕ) → TermKeeps s n a → replicate_fault (shape_of s a) count ≡ None → TermKeeps s n (Replicate a count)
keeps_replicate s n a count k e = record { sound = k.sound; fault = after_none (fault_of s a) (replicate_fault (shape_of s a) count) k.fault e }

pub keeps_slice : (s : Shapes) (n : ℕ) (a : Term) (low high : ℕ) → TermKeeps s n a → slice_fault (shape_of s a) low high ≡ None → TermKeeps s n (Slice a low high)
keeps_slice s n a low high k e = record { sound = k.sound; fault = after_none (fault_of s a) (slice_fault (shape_of s a) low high) k.fault e }

pub keeps_fetch : (s : Shapes) (n m width : ℕ) (i : Term) → TermKeeps s n i → constant_fault (unsigned width) ≡ None → TermKeeps s n (Fetch m width i)
keeps_fetch s n m width i k e = record { sound = k.sound; fault = after_none (fault_of s i) (constant_fault (unsigned width)) k.fault e }

-- ---- shapes and values

mutual
  -- what the test of a term says of its parts
  sound_parts : (n : ℕ) (t : Term) → is_sound n t ≡ true → HasAllParts (λ x. x < n) t
  sound_parts n (Constant value a) e = tt
  sound_parts n (Signal x) e = ltb-true x n e
  sound_parts n (Unary o a) e = sound_parts n a e
  sound_parts n (Binary o a b) e = let p = and_parts (is_sound n a) (is_sound n b) e in (sound_parts n a p.0, sound_parts n b p.1)
  sound_parts n (Mux c a b) e =
      let p = and_parts (is_sound n c) (is_sound n a && is_sound n b) e in
      let q = and_parts (is_sound n a) (is_sound n b) p.1 in
      (sound_parts n c p.0, (sound_parts n a q.0, sound_parts n b q.1))
  sound_parts n (Cat parts) e = let p = and_parts (has_some parts) (are_sound n parts) e in (some_part parts p.0, all_sound n parts p.1)
  sound_parts n (Replicate a count) e = sound_parts n a e
  sound_parts n (Slice a low high) e = sound_parts n a e
  sound_parts n (Pick items i) e =
      let p = and_parts (has_some items) (are_sound n items && is_sound n i) e in
      let q = and_parts (are_sound n items) (is_sound n i) p.1 in
      (some_part items p.0, (all_sound n items q.0, sound_parts n i q.1))
  sound_parts n (Fetch m width i) e = sound_parts n i e

  all_sound : (n : ℕ) (ts : Terms) → are_sound n ts ≡ true → HaveAllParts (λ x. x < n) ts
  all_sound n NoTerm e = tt
  all_sound n (MoreTerms t ts) e = let p = and_parts (is_sound n t) (are_sound n ts) e in (sound_parts n t p.0, all_sound n ts p.1)

  some_part : (ts : Terms) → has_some ts ≡ true → IsSome ts
  some_part NoTerm e = absurd (cc)
  some_part (MoreTerms t ts) e = tt

-- a term that keeps has 1 to 127 bits
pub term_small : (s : Shapes) (n : ℕ) (t : Term) → AreSmall s n → TermKeeps s n t → IsSmall (shape_of s t)
term_small s n t h k = tree_small (λ x. x < n) s h t (sound_parts n t k.sound) k.fault

-- its value fits its shape
pub term_fits : (s : Shapes) (n : ℕ) (v : Values) (t : Term) → AreSmall s n → AreFit s n v → TermKeeps s n t → Fits (shape_of s t) (value_of s v t)
term_fits s n v t h f k = tree_fits (λ x. x < n) s v h f t (sound_parts n t k.sound) k.fault
