-- Laws of terms that are lowered, the conditions of flat statements, and the assignments to the parts of a target.
use Rattle.std.proofs.Common.{◌≡◌, ℕ, ℤ, pos, negsuc, zero, suc, Bool, true, false, ◌&&◌, not, cond, List, [], ◌∷◌, ◌++◌, None, ◌+◌, ◌-◌, ◌^◌, ◌<◌, ◌≤◌, min, nat_lt, refl, sym, ◌∙◌, ap, subst, arith, inl, inr}
use Rattle.std.specs.Prelude.{eqb, int_lt}
use Rattle.std.specs.Ordering.{int_eq}
use Rattle.std.proofs.lemmas.Bool.{cases_lt, cases_eq, lt-ltb, le-ltb, eq-eqb, ne_eqb}
use Rattle.std.proofs.Math.Nat.{mod-eq_of_lt, div-eq_of_lt, pow-le-pow_right}
use Rattle.std.proofs.lemmas.List.{append-nil}
use Rattle.lx_num.specs.declared.Shape.{Shape}
use Rattle.lx_num.specs.Ints.{floor_div, Fits, FitsBits}
use Rattle.lx_num.proofs.Ranges.{pos_fits, fits_magnitude}
use Rattle.lx_num.proofs.Ints.{halves}
use Rattle.lx_tables.specs.declared.operators.Op.TheVariants as op
use Rattle.lx_circuit.specs.Places.{Place, Values, At}
use Rattle.lx_circuit.specs.Terms.{Term, Constant, Binary}
use Rattle.lx_circuit.specs.Shapes.{Shapes, shape_of, or_else}
use Rattle.lx_circuit.specs.Values.{value_of, is_zero, flag, count_of, nth_or_last}
use Rattle.lx_circuit.specs.Statements.{Target, Targets, Whole, Part, CatTarget, PickTarget, NoTarget, MoreTargets, Block, Done, Then, pieces, parts_pieces, items_pieces, taken_block, target_bits}
use Rattle.lx_circuit.specs.Reads.{names}
use Rattle.lx_fhdl.specs.Nodes.{IsSmall}
use Rattle.lx_lowering.specs.Terms.{never, is_item, lower_term}
use Rattle.lx_lowering.specs.Flat.{when, some_when, without_low, is_last, item_assigns, assigns, parts_assigns, items_assigns}
use Rattle.lx_lowering.specs.Lowering.{TermKeeps, TargetKeeps, TargetsKeep}
use Rattle.lx_lowering.proofs.Appends.{both_taken}
use Rattle.lx_lowering.proofs.Picks.{held, same_test}

-- what lowering keeps of a term, its value aside
pub record ShapeLaws (s : Shapes) (n : ℕ) : Type 0 where
  pub small : (x : ℕ) → x < n → IsSmall (s x)
  pub term_small : (t : Term) → TermKeeps s n t → IsSmall (shape_of s t)
  pub lower_shape : (t : Term) → TermKeeps s n t → shape_of s (lower_term s t) ≡ shape_of s t
  pub lower_keeps : (t : Term) → TermKeeps s n t → TermKeeps s n (lower_term s t)
  pub lower_names : (y : Place) (t : Term) → TermKeeps s n t → names y (lower_term s t) ≡ true → names y t ≡ true

-- and its value
pub record TermLaws (s : Shapes) (n : ℕ) (v : Values) : Type 0 where
  pub small : (x : ℕ) → x < n → IsSmall (s x)
  pub fits : (x : ℕ) → x < n → Fits (s x) (v (At x))
  pub term_small : (t : Term) → TermKeeps s n t → IsSmall (shape_of s t)
  pub term_fits : (t : Term) → TermKeeps s n t → Fits (shape_of s t) (value_of s v t)
  pub lower_shape : (t : Term) → TermKeeps s n t → shape_of s (lower_term s t) ≡ shape_of s t
  pub lower_value : (t : Term) → TermKeeps s n t → value_of s v (lower_term s t) ≡ value_of s v t
  pub lower_keeps : (t : Term) → TermKeeps s n t → TermKeeps s n (lower_term s t)
  pub lower_names : (y : Place) (t : Term) → TermKeeps s n t → names y (lower_term s t) ≡ true → names y t ≡ true

pub shape_laws : (s : Shapes) (n : ℕ) (v : Values) → TermLaws s n v → ShapeLaws s n
shape_laws s n v laws = record { small = laws.small; term_small = laws.term_small; lower_shape = laws.lower_shape; lower_keeps = laws.lower_keeps; lower_names = laws.lower_names }

-- ---- statements under a condition

pub is_zero-flag : (b : Bool) → is_zero (flag b) ≡ not b
is_zero-flag true = refl
is_zero-flag false = refl

pub when_taken : (s : Shapes) (v : Values) (c : Term) (so : Block) (t : Bool) → value_of s v c ≡ flag t → taken_block s v (when c so) ≡ cond t (taken_block s v so) []
when_taken s v c so t e =
    append-nil (cond (is_zero (value_of s v c)) [] (taken_block s v so))
    ∙ ap (λ z. cond (is_zero z) [] (taken_block s v so)) e
    ∙ by_flag t
  where
    by_flag : (b : Bool) → cond (is_zero (flag b)) [] (taken_block s v so) ≡ cond b (taken_block s v so) []
    by_flag true = refl
    by_flag false = refl

pub some_when_taken : (s : Shapes) (v : Values) (c : Term) (so : Block) (t : Bool) → value_of s v c ≡ flag t → taken_block s v (some_when c so) ≡ cond t (taken_block s v so) []
some_when_taken s v c Done true e = refl
some_when_taken s v c Done false e = refl
some_when_taken s v c (Then x xs) t e = when_taken s v c (Then x xs) t e

-- ---- the number of an index

-- an index is its count
pub index_is : (a : Shape) (z : ℤ) → a.signed ≡ false → Fits a z → (z ≡ pos (count_of z)) × (count_of z < 2 ^ a.bits)
index_is a z e f = by_sign z (let P : Bool → Type 0 = λ b. FitsBits a.bits b z in subst P e f)
  where
    by_sign : (z : ℤ) → FitsBits a.bits false z → (z ≡ pos (count_of z)) × (count_of z < 2 ^ a.bits)
    by_sign (pos m) g = (refl, pos_fits a.bits m g)
    by_sign (negsuc m) g = absurd (omega (arith, g.low))

-- ---- a number without its lowest bits

-- of a value of n bits nothing but its sign is left after n bits
past_bits : (n k : ℕ) (g : Bool) (z : ℤ) → 1 ≤ n → FitsBits n g z → n ≤ k → floor_div z (2 ^ n) ≡ floor_div z (2 ^ k)
past_bits n k g (pos a) h f l =
    let two : 0 < 2 = omega arith in
    let w = pow-le-pow_right two l in
    let e = fits_magnitude n g (pos a) h f in
    let p : a < 2 ^ n = omega arith in
    let q : a < 2 ^ k = omega arith in
    ap pos (div-eq_of_lt p ∙ sym (div-eq_of_lt q))
past_bits n k g (negsuc a) h f l =
    let two : 0 < 2 = omega arith in
    let w = pow-le-pow_right two l in
    let e = fits_magnitude n g (negsuc a) h f in
    let t = halves n h in
    let p : a < 2 ^ n = omega arith in
    let q : a < 2 ^ k = omega arith in
    ap negsuc (div-eq_of_lt p ∙ sym (div-eq_of_lt q))

pub without_low_value : (s : Shapes) (v : Values) (k : ℕ) (e : Term) → IsSmall (shape_of s e) → Fits (shape_of s e) (value_of s v e) → value_of s v (without_low s k e) ≡ floor_div (value_of s v e) (2 ^ k)
without_low_value s v k e p f =
    let n = (shape_of s e).bits in
    let small : min k n < 2 ^ 7 = omega (arith, p.most) in
    ap (λ (j : ℕ). floor_div (value_of s v e) (2 ^ j)) (mod-eq_of_lt small)
    ∙ elim (cases_lt k n) [
      | inl le ↦ ap (λ (j : ℕ). floor_div (value_of s v e) (2 ^ j)) (omega arith)
      | inr gt ↦
          ap (λ (j : ℕ). floor_div (value_of s v e) (2 ^ j)) (omega arith) ∙ past_bits n k (shape_of s e).signed (value_of s v e) p.some f (omega arith)
    ]

pub without_low_keeps : (s : Shapes) (n k : ℕ) (e : Term) → TermKeeps s n e → TermKeeps s n (without_low s k e)
without_low_keeps s n k e p = record {
  sound = ap (λ b. b && true) p.sound;
  fault = ap (λ o. or_else o None) p.fault;
}

-- ---- the conditions that pick an item

-- an index: an unsigned value of its shape
pub record IsIndex (s : Shapes) (v : Values) (i : Term) : Type 0 where
  pub small : IsSmall (shape_of s i)
  pub plain : (shape_of s i).signed ≡ false
  pub fits : Fits (shape_of s i) (value_of s v i)

abbrev pub count_at : Shapes → Values → Term → ℕ
count_at s v i = count_of (value_of s v i)

pub item_value : (s : Shapes) (v : Values) (i : Term) (k : ℕ) → IsIndex s v i → value_of s v (is_item s i k) ≡ flag (eqb (count_at s v i) k)
item_value s v i k x =
    let a = shape_of s i in
    let z = index_is a (value_of s v i) x.plain x.fits in
    elim (cases_lt k (2 ^ a.bits)) [
      | inl p ↦
          ap (λ b. value_of s v (cond b (Binary op.Eq i (Constant (pos k) a)) never)) (lt-ltb k (2 ^ a.bits) p)
          ∙ ap (λ y. flag (int_eq (value_of s v i) y)) (held a k x.small.some x.plain p)
          ∙ ap (λ y. flag (int_eq y (pos k))) z.0
          ∙ ap flag (same_test (count_at s v i) k)
      | inr p ↦
          ap (λ b. value_of s v (cond b (Binary op.Eq i (Constant (pos k) a)) never)) (le-ltb k (2 ^ a.bits) p)
          ∙ ap flag (sym (ne_eqb (count_at s v i) k (λ e. omega (arith, z.1))))
    ]

pub last_value : (s : Shapes) (v : Values) (i : Term) (k : ℕ) → IsIndex s v i → value_of s v (is_last s i k) ≡ flag (not (nat_lt (count_at s v i) k))
last_value s v i k x =
    let a = shape_of s i in
    let z = index_is a (value_of s v i) x.plain x.fits in
    elim (cases_lt k (2 ^ a.bits)) [
      | inl p ↦
          ap (λ b. value_of s v (cond b (Binary op.Ge i (Constant (pos k) a)) never)) (lt-ltb k (2 ^ a.bits) p)
          ∙ ap (λ y. flag (not (int_lt (value_of s v i) y))) (held a k x.small.some x.plain p)
          ∙ ap (λ y. flag (not (int_lt y (pos k)))) z.0
      | inr p ↦
          ap (λ b. value_of s v (cond b (Binary op.Ge i (Constant (pos k) a)) never)) (le-ltb k (2 ^ a.bits) p)
          ∙ ap (λ b. flag (not b)) (sym (lt-ltb (count_at s v i) k (omega (arith, z.1))))
    ]

nth_one : {A : Type 0} (a x : A) (k : ℕ) → nth_or_last a (x ∷ []) k ≡ x
nth_one a x zero = refl
nth_one a x (suc k) = refl

nth_first : {A : Type 0} (a x : A) (xs : List A) (k : ℕ) → k ≡ 0 → nth_or_last a (x ∷ xs) k ≡ x
nth_first a x xs k e = ap (λ j. nth_or_last a (x ∷ xs) j) e

nth_some : {A : Type 0} (a b x : A) (xs : List A) (k : ℕ) → nth_or_last a (x ∷ xs) k ≡ nth_or_last b (x ∷ xs) k
nth_some a b x xs zero = refl
nth_some a b x xs (suc k) = refl

nth_later : {A : Type 0} (a x y : A) (ys : List A) (k j : ℕ) → k ≡ suc j → nth_or_last a (x ∷ y ∷ ys) k ≡ nth_or_last a (y ∷ ys) j
nth_later a x y ys k j e = ap (λ i. nth_or_last a (x ∷ y ∷ ys) i) e ∙ nth_some x a y ys j

-- an item under its condition
own_taken : (s : Shapes) (v : Values) (i : Term) (k : ℕ) (own : Block) → IsIndex s v i → count_at s v i ≡ k → taken_block s v (when (is_item s i k) own) ≡ taken_block s v own
own_taken s v i k own x e = when_taken s v (is_item s i k) own true (item_value s v i k x ∙ ap flag (eq-eqb (count_at s v i) k e))

own_skipped : (s : Shapes) (v : Values) (i : Term) (k : ℕ) (own : Block) → IsIndex s v i → (count_at s v i ≡ k → ⊥) → taken_block s v (when (is_item s i k) own) ≡ []
own_skipped s v i k own x e = when_taken s v (is_item s i k) own false (item_value s v i k x ∙ ap flag (ne_eqb (count_at s v i) k e))

last_taken : (s : Shapes) (v : Values) (i : Term) (k : ℕ) (own more : Block) → IsIndex s v i → k ≤ count_at s v i → taken_block s v (item_assigns s k own NoTarget more i) ≡ taken_block s v own
last_taken s v i zero own more x h = refl
last_taken s v i (suc k) own more x h =
    ap (λ b. taken_block s v (cond b own (when (is_last s i (suc k)) own))) (ne_eqb (suc k) 0 (λ e. omega arith))
    ∙ when_taken s v (is_last s i (suc k)) own true (last_value s v i (suc k) x ∙ ap (λ b. flag (not b)) (le-ltb (count_at s v i) (suc k) h))

last_skipped : (s : Shapes) (v : Values) (i : Term) (k : ℕ) (own more : Block) → IsIndex s v i → count_at s v i < k → taken_block s v (item_assigns s k own NoTarget more i) ≡ []
last_skipped s v i zero own more x h = absurd (omega arith)
last_skipped s v i (suc k) own more x h =
    ap (λ b. taken_block s v (cond b own (when (is_last s i (suc k)) own))) (ne_eqb (suc k) 0 (λ e. omega arith))
    ∙ when_taken s v (is_last s i (suc k)) own false (last_value s v i (suc k) x ∙ ap (λ b. flag (not b)) (lt-ltb (count_at s v i) (suc k) h))

-- items past the index are skipped
items_skipped : (s : Shapes) (v : Values) (i e : Term) (k : ℕ) (ts : Targets) → IsIndex s v i → count_at s v i < k → taken_block s v (items_assigns s k ts i e) ≡ []
items_skipped s v i e k NoTarget x h = refl
items_skipped s v i e k (MoreTargets t NoTarget) x h = last_skipped s v i k (assigns s t e) (items_assigns s (k + 1) NoTarget i e) x h
items_skipped s v i e k (MoreTargets t (MoreTargets u us)) x h =
    both_taken s v (when (is_item s i k) (assigns s t e)) (items_assigns s (k + 1) (MoreTargets u us) i e) [] []
    (own_skipped s v i k (assigns s t e) x (λ q. omega arith)) (items_skipped s v i e (k + 1) (MoreTargets u us) x (omega arith))

pub lowered_index : (s : Shapes) (n : ℕ) (v : Values) → TermLaws s n v → (t : Term) → TermKeeps s n t → (shape_of s t).signed ≡ false → IsIndex s v (lower_term s t)
lowered_index s n v laws t p plain = record {
  small = laws.term_small (lower_term s t) (laws.lower_keeps t p);
  plain = ap (λ (a : Shape). a.signed) (laws.lower_shape t p) ∙ plain;
  fits = laws.term_fits (lower_term s t) (laws.lower_keeps t p);
}

-- the assignments to the parts of a target take the pieces of the target
mutual
  pub assigns_taken : (s : Shapes) (n : ℕ) (v : Values) → TermLaws s n v → (t : Target) → TargetKeeps s n t → (e : Term) → TermKeeps s n e → taken_block s v (assigns s t e) ≡ pieces s v t (value_of s v e)
  assigns_taken s n v laws (Whole x) p e q = refl
  assigns_taken s n v laws (Part x low len) p e q = refl
  assigns_taken s n v laws (CatTarget parts) p e q = parts_taken s n v laws parts p.1 e q
  assigns_taken s n v laws (PickTarget items index) p e q =
      let x = lowered_index s n v laws index p.2 p.3 in
      items_taken s n v laws items p.1 (lower_term s index) x 0 (omega arith) e q
      ∙ ap (λ c. nth_or_last [] (items_pieces s v items (value_of s v e)) c) (let f : count_at s v (lower_term s index) - 0 ≡ count_at s v (lower_term s index) = omega arith in f)
      ∙ ap (λ z. nth_or_last [] (items_pieces s v items (value_of s v e)) (count_of z)) (laws.lower_value index p.2)

  pub parts_taken : (s : Shapes) (n : ℕ) (v : Values) → TermLaws s n v → (ts : Targets) → TargetsKeep s n ts → (e : Term) → TermKeeps s n e → taken_block s v (parts_assigns s ts e) ≡ parts_pieces s v ts (value_of s v e)
  parts_taken s n v laws NoTarget p e q = refl
  parts_taken s n v laws (MoreTargets t ts) p e q =
      both_taken s v (assigns s t e) (parts_assigns s ts (without_low s (target_bits s t) e)) (pieces s v t (value_of s v e)) (parts_pieces s v ts (value_of s v (without_low s (target_bits s t) e)))
      (assigns_taken s n v laws t p.0 e q)
      (parts_taken s n v laws ts p.1 (without_low s (target_bits s t) e) (without_low_keeps s n (target_bits s t) e q))
      ∙ ap (λ z. pieces s v t (value_of s v e) ++ parts_pieces s v ts z) (without_low_value s v (target_bits s t) e (laws.term_small e q) (laws.term_fits e q))

  pub items_taken : (s : Shapes) (n : ℕ) (v : Values) → TermLaws s n v → (ts : Targets) → TargetsKeep s n ts → (i : Term) → IsIndex s v i → (k : ℕ) → k ≤ count_at s v i → (e : Term) → TermKeeps s n e
      → taken_block s v (items_assigns s k ts i e) ≡ nth_or_last [] (items_pieces s v ts (value_of s v e)) (count_at s v i - k)
  items_taken s n v laws NoTarget p i x k h e q = refl
  items_taken s n v laws (MoreTargets t NoTarget) p i x k h e q =
      last_taken s v i k (assigns s t e) (items_assigns s (k + 1) NoTarget i e) x h
      ∙ assigns_taken s n v laws t p.0 e q
      ∙ sym (nth_one [] (pieces s v t (value_of s v e)) (count_at s v i - k))
  items_taken s n v laws (MoreTargets t (MoreTargets u us)) p i x k h e q =
      let z = value_of s v e in
      let c = count_at s v i in
      let own = assigns s t e in
      let more = items_assigns s (k + 1) (MoreTargets u us) i e in
      elim (cases_eq c k) [
        | inl f ↦
            both_taken s v (when (is_item s i k) own) more (pieces s v t z) [] (own_taken s v i k own x f ∙ assigns_taken s n v laws t p.0 e q) (items_skipped s v i e (k + 1) (MoreTargets u us) x (omega arith))
            ∙ append-nil (pieces s v t z)
            ∙ sym (nth_first [] (pieces s v t z) (items_pieces s v (MoreTargets u us) z) (c - k) (omega arith))
        | inr f ↦
            both_taken s v (when (is_item s i k) own) more [] (nth_or_last [] (items_pieces s v (MoreTargets u us) z) (c - (k + 1))) (own_skipped s v i k own x f) (items_taken s n v laws (MoreTargets u us) p.1 i x (k + 1) (omega arith) e q)
            ∙ sym (nth_later [] (pieces s v t z) (pieces s v u z) (items_pieces s v us z) (c - k) (c - (k + 1)) (omega arith))
      ]
