-- Selects, shifts of signed numbers, concatenations and copies.
use Rattle.std.proofs.Common.{◌≡◌, ℕ, ℤ, pos, negsuc, true, false, List, [], ◌∷◌, ◌+◌, ◌-◌, ◌*◌, ◌/◌, ◌%◌, ◌^◌, ◌<◌, ◌≤◌, cond, nat_le, refl, sym, ◌∙◌, ap, arith, zero, suc, inl, inr, zero-add, pow-add, pow_mono}
use Rattle.std.proofs.Math.Nat.{div-eq_of_lt, div-le_self, mul-le-mul_right, div-lt_iff_lt-mul}
use Rattle.std.proofs.Math.Arith.{digits_div}
use Rattle.std.proofs.lemmas.Bool.{cond-true, cond-false, le-leb, lt-leb, cases_lt}
use Rattle.std.proofs.lemmas.Nat.{pow_pos}
use borrow.Author.Differences.{up, down}
use Rattle.lx_num.specs.declared.Shape.{Shape}
use Rattle.lx_num.specs.Ints.{modulo, floor_div, field_of, FitsBits}
use Rattle.lx_num.proofs.Ints.{modulo-small, modulo-below, modulo-modulo, modulo_is, floor_rule, halves, pow_split}
use Rattle.lx_num.proofs.Ranges.{negative_fits, signed_fits, fits_pos}
use Rattle.lx_circuit.specs.Values.{copies, cat_pattern, count_of, replicate_value}
use Rattle.lx_circuit.specs.Shapes.{bits_sum}
use Rattle.lx_circuit.proofs.Values.{cat_below, copies_below}
use Rattle.lx_vmeaning.specs.Meaning.{Valuation, Meaning, own, fill_shift, arithmetic_right, select, concat, concat_bits, width_sum, repeat, repeated}
use Rattle.lx_tie.specs.Rows.{reversed_onto, StandFor}
use Rattle.lx_tie.specs.Stands.{Exact, Spreads}
use Rattle.lx_tie.proofs.Leaves.{modulo_negative, own_exact, exact_leaf}
use Rattle.lx_tie.proofs.Texts.{amount_is}

-- the upper bits of a pattern are the pattern of the number moved right
pub modulo-div : (z : ℤ) (n low : ℕ) → low ≤ n → modulo z (2 ^ n) / 2 ^ low ≡ modulo (floor_div z (2 ^ low)) (2 ^ (n - low))
modulo-div z n low le =
    let l = pow_pos low in
    let m = pow_pos (n - low) in
    let f = floor_div z (2 ^ low) in
    let g = modulo f (2 ^ (n - low)) in
    let r = modulo z (2 ^ low) in
    let small : r < 2 ^ low = modulo-below z (2 ^ low) l in
    let below : g < 2 ^ (n - low) = modulo-below f (2 ^ (n - low)) m in
    let split = pow_split low n le in
    let first = floor_rule z (2 ^ low) l in
    let second = ap (λ (k : ℕ). k * 2 ^ low) (floor_rule f (2 ^ (n - low)) m) in
    let ups = ap (λ (k : ℕ). up (floor_div f (2 ^ (n - low))) * k) split in
    let downs = ap (λ (k : ℕ). down (floor_div f (2 ^ (n - low))) * k) split in
    let room = mul-le-mul_right (2 ^ low) (let s : g + 1 ≤ 2 ^ (n - low) = omega arith in s) in
    let bound : g * 2 ^ low + r < 2 ^ n = omega arith in
    let p : modulo z (2 ^ n) ≡ g * 2 ^ low + r = modulo_is z (2 ^ n) (down (floor_div f (2 ^ (n - low)))) (up (floor_div f (2 ^ (n - low)))) (g * 2 ^ low + r) bound (omega arith) in
    ap (λ (k : ℕ). k / 2 ^ low) p ∙ digits_div g small

-- a select of a net is a field of the net's number
pub field_bits : (z : ℤ) (n low len : ℕ) → low + len ≤ n → modulo z (2 ^ n) / 2 ^ low % 2 ^ len ≡ field_of z low len
field_bits z n low len le =
    ap (λ (k : ℕ). k % 2 ^ len) (modulo-div z n low (omega arith)) ∙ modulo-modulo (floor_div z (2 ^ low)) len (n - low) (omega arith)

-- what is left of a number below 2 ^ w
quotient_below : (k w a : ℕ) → k ≤ w → a < 2 ^ w → a / 2 ^ k < 2 ^ (w - k)
quotient_below k w a le lt = let split = pow_split k w le in (div-lt_iff_lt-mul {k = 2 ^ k} {x = a} {y = 2 ^ (w - k)} (pow_pos k)).1 (omega arith)

-- a value of n bits, moved right and filled with its sign
shifted_signed : (n w k : ℕ) (x : ℤ) → 1 ≤ n → n ≤ w → FitsBits n true x → fill_shift w (modulo x (2 ^ w)) k ≡ modulo (floor_div x (2 ^ k)) (2 ^ w)
shifted_signed n w k (pos a) h le f =
    let e = signed_fits n (pos a) f in
    let half : a < 2 ^ (n - 1) = omega arith in
    let wide = pow_mono {i = n - 1} {j = w - 1} (omega arith) in
    let t = halves w (omega arith) in
    let p = modulo-small a (2 ^ w) (omega arith) in
    let d = div-le_self a (2 ^ k) in
    ap (λ (i : ℕ). fill_shift w i k) p
    ∙ (cond-false (nat_le (2 ^ (w - 1)) a) (a / 2 ^ k + (2 ^ w - 2 ^ (w - k))) (a / 2 ^ k) (lt-leb (2 ^ (w - 1)) a (omega arith)) ∙ sym (modulo-small (a / 2 ^ k) (2 ^ w) (omega arith)))
shifted_signed n w k (negsuc a) h le f =
    let half = negative_fits n a f in
    let wide = pow_mono {i = n - 1} {j = w - 1} (omega arith) in
    let t = halves w (omega arith) in
    let p = modulo_negative a w (omega arith) in
    let high : 2 ^ (w - 1) ≤ 2 ^ w - 1 - a = omega arith in
    let d = div-le_self a (2 ^ k) in
    let q = modulo_negative (a / 2 ^ k) w (omega arith) in
    ap (λ (i : ℕ). fill_shift w i k) p
    ∙ (cond-true (nat_le (2 ^ (w - 1)) (2 ^ w - 1 - a)) ((2 ^ w - 1 - a) / 2 ^ k + (2 ^ w - 2 ^ (w - k))) ((2 ^ w - 1 - a) / 2 ^ k) (le-leb (2 ^ (w - 1)) (2 ^ w - 1 - a) high)
    ∙ (filled w k a (omega arith) ∙ sym q))
  where
    -- ones above what is left
    filled : (w k a : ℕ) → a < 2 ^ w → (2 ^ w - 1 - a) / 2 ^ k + (2 ^ w - 2 ^ (w - k)) ≡ 2 ^ w - 1 - a / 2 ^ k
    filled w k a lt = elim (cases_lt w k) [
      | inr small ↦ let e = sym (ap (λ (i : ℕ). i / 2 ^ k) (modulo_negative a w lt)) ∙ modulo-div (negsuc a) w k small in
          let few = quotient_below k w a small lt in
          let g = modulo_negative (a / 2 ^ k) (w - k) few in
          let le = pow_mono {i = w - k} {j = w} (omega arith) in
          omega arith
      | inl large ↦ let le = pow_mono {i = w} {j = k} (omega arith) in
          let e : (2 ^ w - 1 - a) / 2 ^ k ≡ 0 = div-eq_of_lt (omega arith) in
          let g : a / 2 ^ k ≡ 0 = div-eq_of_lt (omega arith) in
          let one : 2 ^ (w - k) ≡ 1 = ap (λ (i : ℕ). 2 ^ i) (let z : w - k ≡ 0 = omega arith in z) in
          omega arith
    ]

pub spreads_arithmetic_right : (u : Valuation) (n m : ℕ) (x y : ℤ) (a b : Meaning) → Exact u n true x a → Exact u m false y b → Spreads u n (floor_div x (2 ^ count_of y)) (arithmetic_right a b)
spreads_arithmetic_right u n m x y a b p q = record {
  width = omega (arith, p.width);
  bits = λ w h.
      ap (λ t. cond t (fill_shift w (a.bits u w t) (own b u)) (a.bits u w t / 2 ^ own b u)) p.sign
      ∙ (ap (λ (i : ℕ). fill_shift w i (own b u)) (p.bits w h) ∙ (ap (λ (i : ℕ). fill_shift w (modulo x (2 ^ w)) i) (amount_is u m y b q) ∙ shifted_signed n w (count_of y) x p.some h p.fit));
}

-- bits hi to lo of a net
pub exact_select : (u : Valuation) (name : List ℕ) (n low len : ℕ) (z : ℤ) → u.nets name ≡ modulo z (2 ^ n) → 1 ≤ len → low + len ≤ n → Exact u len false (pos (field_of z low len)) (select name (low + len - 1) low)
exact_select u name n low len z e h le =
    let size : low + len - 1 - low + 1 ≡ len = omega arith in
    let small = modulo-below (floor_div z (2 ^ low)) (2 ^ len) (pow_pos len) in
    exact_leaf u (low + len - 1 - low + 1) len false (pos (field_of z low len)) (λ v. v.nets name / 2 ^ low % 2 ^ (low + len - 1 - low + 1)) size h (fits_pos len (field_of z low len) small)
    (ap (λ (i : ℕ). u.nets name / 2 ^ low % 2 ^ i) size ∙ (ap (λ (i : ℕ). i / 2 ^ low % 2 ^ len) e ∙ (field_bits z n low len le ∙ sym (modulo-small (field_of z low len) (2 ^ len) small))))

width-reversed : (es done : List Meaning) → width_sum (reversed_onto es done) ≡ width_sum es + width_sum done
width-reversed [] done = sym (zero-add (width_sum done))
width-reversed (e ∷ es) done = width-reversed es (e ∷ done) ∙ (let p : width_sum es + (e.width + width_sum done) ≡ e.width + width_sum es + width_sum done = omega arith in p)

-- the parts from the low end
abbrev low_first : Valuation → List Meaning → ℕ
low_first u [] = 0
low_first u (e ∷ es) = own e u + 2 ^ e.width * low_first u es

concat_bits-reversed : (u : Valuation) (es done : List Meaning) → concat_bits (reversed_onto es done) u ≡ low_first u es * 2 ^ width_sum done + concat_bits done u
concat_bits-reversed u [] done = omega arith
concat_bits-reversed u (e ∷ es) done =
    let split = ap (λ (k : ℕ). low_first u es * k) (pow-add 2 e.width (width_sum done)) in
    concat_bits-reversed u es (e ∷ done)
    ∙ (let p : low_first u es * 2 ^ (e.width + width_sum done) + (own e u * 2 ^ width_sum done + concat_bits done u) ≡ (own e u + 2 ^ e.width * low_first u es) * 2 ^ width_sum done + concat_bits done u = omega arith in p)

low_first_is : (u : Valuation) (ss : List Shape) (zs : List ℤ) (es : List Meaning) → StandFor u ss zs es → low_first u es ≡ cat_pattern ss zs
low_first_is u [] [] [] p = refl
low_first_is u [] [] (e ∷ es) p = absurd p
low_first_is u [] (z ∷ zs) es p = absurd p
low_first_is u (s ∷ ss) [] es p = absurd p
low_first_is u (s ∷ ss) (z ∷ zs) [] p = absurd p
low_first_is u (s ∷ ss) (z ∷ zs) (e ∷ es) p =
    ap (λ (k : ℕ). k + 2 ^ e.width * low_first u es) (own_exact u s.bits s.signed z e p.0)
    ∙ (ap (λ (k : ℕ). modulo z (2 ^ s.bits) + 2 ^ k * low_first u es) p.0.width ∙ ap (λ (k : ℕ). modulo z (2 ^ s.bits) + 2 ^ s.bits * k) (low_first_is u ss zs es p.1))

width_sum_is : (u : Valuation) (ss : List Shape) (zs : List ℤ) (es : List Meaning) → StandFor u ss zs es → width_sum es ≡ bits_sum ss
width_sum_is u [] [] [] p = refl
width_sum_is u [] [] (e ∷ es) p = absurd p
width_sum_is u [] (z ∷ zs) es p = absurd p
width_sum_is u (s ∷ ss) [] es p = absurd p
width_sum_is u (s ∷ ss) (z ∷ zs) [] p = absurd p
width_sum_is u (s ∷ ss) (z ∷ zs) (e ∷ es) p = ap (λ (k : ℕ). k + width_sum es) p.0.width ∙ ap (λ (k : ℕ). s.bits + k) (width_sum_is u ss zs es p.1)

-- parts with the first in the lowest bits, which is the last of the text
pub exact_cat : (u : Valuation) (ss : List Shape) (zs : List ℤ) (es : List Meaning) → StandFor u ss zs es → 1 ≤ bits_sum ss → Exact u (bits_sum ss) false (pos (cat_pattern ss zs)) (concat (reversed_onto es []))
exact_cat u ss zs es p h =
    let below = cat_below ss zs in
    exact_leaf u (width_sum (reversed_onto es [])) (bits_sum ss) false (pos (cat_pattern ss zs)) (λ v. concat_bits (reversed_onto es []) v)
    (width-reversed es [] ∙ (let e : width_sum es + 0 ≡ bits_sum ss = omega (arith, width_sum_is u ss zs es p) in e)) h (fits_pos (bits_sum ss) (cat_pattern ss zs) below)
    (concat_bits-reversed u es [] ∙ (let e : low_first u es * 2 ^ 0 + 0 ≡ cat_pattern ss zs = omega (arith, low_first_is u ss zs es p) in e ∙ sym (modulo-small (cat_pattern ss zs) (2 ^ bits_sum ss) below)))

copies_are : (k n p : ℕ) → repeated k n p ≡ copies k n p
copies_are zero n p = refl
copies_are (suc k) n p = ap (λ (i : ℕ). p + 2 ^ n * i) (copies_are k n p)

pub exact_repeat : (u : Valuation) (s : Shape) (k : ℕ) (z : ℤ) (e : Meaning) → Exact u s.bits s.signed z e → 1 ≤ k → Exact u (k * s.bits) false (replicate_value s k z) (repeat k e)
exact_repeat u s k z e x h =
    let small = modulo-below z (2 ^ s.bits) (pow_pos s.bits) in
    let below = copies_below k s.bits (modulo z (2 ^ s.bits)) small in
    exact_leaf u (k * e.width) (k * s.bits) false (replicate_value s k z) (λ v. repeated k e.width (own e v)) (ap (λ (i : ℕ). k * i) x.width)
    (let one = x.some in let m = mul-le-mul_right s.bits h in omega arith) (fits_pos (k * s.bits) (copies k s.bits (modulo z (2 ^ s.bits))) below)
    (ap (λ (i : ℕ). repeated k i (own e u)) x.width ∙ (ap (λ (i : ℕ). repeated k s.bits i) (own_exact u s.bits s.signed z e x)
    ∙ (copies_are k s.bits (modulo z (2 ^ s.bits)) ∙ sym (modulo-small (copies k s.bits (modulo z (2 ^ s.bits))) (2 ^ (k * s.bits)) below))))
