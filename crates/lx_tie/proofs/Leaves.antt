-- Patterns in wider contexts, and expressions that stand for a number exactly.
use Rattle.std.proofs.Common.{◌≡◌, ℕ, ℤ, pos, negsuc, Bool, true, false, [], ◌∷◌, ◌+◌, ◌-◌, ◌*◌, ◌%◌, ◌^◌, ◌<◌, ◌≤◌, cond, nat_le, nat_eq, max, refl, sym, ◌∙◌, ap, arith, pow_mono}
use Rattle.std.proofs.Math.Nat.{mod-eq_of_lt}
use Rattle.std.proofs.lemmas.Bool.{cond-true, cond-false, le-leb, lt-leb, ne_eqb}
use Rattle.std.proofs.lemmas.Bool.Decides.{same_from_decides, Decides-eqb, Decides-int_eq, Decides-like}
use Rattle.std.specs.Ordering.{int_eq}
use Rattle.lx_num.specs.Ints.{modulo, FitsBits, read_bits}
use Rattle.lx_num.proofs.Ints.{modulo-small, modulo-modulo, halves}
use Rattle.lx_num.proofs.Ranges.{pos_fits, negative_fits, unsigned_fits, signed_fits, fits_wider, fits_as_signed, read_bits-modulo}
use Rattle.lx_vmeaning.specs.Meaning.{Valuation, Meaning, extend, own, leaf, literal, concat, cut_to}
use Rattle.lx_tie.specs.Rows.{widened}
use Rattle.lx_tie.specs.Stands.{Exact, Drives, Spreads}

-- a negative number's pattern
pub modulo_negative : (a n : ℕ) → a < 2 ^ n → modulo (negsuc a) (2 ^ n) ≡ 2 ^ n - 1 - a
modulo_negative a n h = ap (λ (k : ℕ). 2 ^ n - 1 - k) (mod-eq_of_lt h)

-- a value of n bits in a context of w bits
pub extend_is : (n w : ℕ) (s : Bool) (z : ℤ) → 1 ≤ n → n ≤ w → FitsBits n s z → extend n w s (modulo z (2 ^ n)) ≡ modulo z (2 ^ w)
extend_is n w false (pos a) h k f =
    let lt = pos_fits n a f in
    let le = pow_mono {i = n} {j = w} k in
    modulo-small a (2 ^ n) lt ∙ sym (modulo-small a (2 ^ w) (omega arith))
extend_is n w false (negsuc a) h k f = absurd (let e = unsigned_fits n (negsuc a) f in omega arith)
extend_is n w true (pos a) h k f =
    let e = signed_fits n (pos a) f in
    let half : a < 2 ^ (n - 1) = omega arith in
    let t = halves n h in
    let le = pow_mono {i = n} {j = w} k in
    let p : a % 2 ^ n ≡ a = mod-eq_of_lt (omega arith) in
    let q : a % 2 ^ w ≡ a = mod-eq_of_lt (omega arith) in
    ap (λ (m : ℕ). cond (nat_le (2 ^ (n - 1)) m) (m + (2 ^ w - 2 ^ n)) m) p
    ∙ (cond-false (nat_le (2 ^ (n - 1)) a) (a + (2 ^ w - 2 ^ n)) a (lt-leb (2 ^ (n - 1)) a half) ∙ sym q)
extend_is n w true (negsuc a) h k f =
    let half = negative_fits n a f in
    let t = halves n h in
    let le = pow_mono {i = n} {j = w} k in
    let p = modulo_negative a n (omega arith) in
    let q = modulo_negative a w (omega arith) in
    let high : 2 ^ (n - 1) ≤ 2 ^ n - 1 - a = omega arith in
    ap (λ (m : ℕ). cond (nat_le (2 ^ (n - 1)) m) (m + (2 ^ w - 2 ^ n)) m) p
    ∙ (cond-true (nat_le (2 ^ (n - 1)) (2 ^ n - 1 - a)) (2 ^ n - 1 - a + (2 ^ w - 2 ^ n)) (2 ^ n - 1 - a) (le-leb (2 ^ (n - 1)) (2 ^ n - 1 - a) high)
    ∙ (let e : 2 ^ n - 1 - a + (2 ^ w - 2 ^ n) ≡ 2 ^ w - 1 - a = omega arith in e ∙ sym q))

-- a pattern of exactly the number's bits
pub exact_leaf : (u : Valuation) (k n : ℕ) (s : Bool) (z : ℤ) (f : Valuation → ℕ) → k ≡ n → 1 ≤ n → FitsBits n s z → f u ≡ modulo z (2 ^ n) → Exact u n s z (leaf k s f)
exact_leaf u k n s z f e h fit p = record {
  some = h;
  fit = fit;
  width = e;
  sign = refl;
  bits = λ w le. ap (λ (j : ℕ). extend j w s (f u)) e ∙ (ap (λ q. extend n w s q) p ∙ extend_is n w s z h le fit);
}

-- by itself it is the number's pattern
pub own_exact : (u : Valuation) (n : ℕ) (s : Bool) (z : ℤ) (e : Meaning) → Exact u n s z e → own e u ≡ modulo z (2 ^ n)
own_exact u n s z e x = ap (λ (k : ℕ). e.bits u k e.signed) x.width ∙ (ap (λ t. e.bits u n t) x.sign ∙ x.bits n (omega arith))

pub exact_widened : (u : Valuation) (n : ℕ) (z : ℤ) (e : Meaning) → Exact u n false z e → Exact u (n + 1) true z (widened e)
exact_widened u n z e x =
    let width : 1 + (e.width + 0) ≡ n + 1 = omega (arith, x.width) in
    let pattern : 0 * 2 ^ (e.width + 0) + (own e u * 2 ^ 0 + 0) ≡ modulo z (2 ^ n) = omega (arith, own_exact u n false z e x) in
    exact_leaf u (1 + (e.width + 0)) (n + 1) true z (λ v. own (concat (literal 1 false 0 ∷ e ∷ [])) v) width (omega arith) (fits_as_signed n z x.fit)
    (pattern ∙ wider)
  where
    wider : modulo z (2 ^ n) ≡ modulo z (2 ^ (n + 1))
    wider = extend_is n (n + 1) false z x.some (omega arith) x.fit

-- read back in a context that is wide enough
pub read_exact : (u : Valuation) (n w : ℕ) (s : Bool) (z : ℤ) (e : Meaning) → Exact u n s z e → n ≤ w → read_bits w s (e.bits u w s) ≡ z
read_exact u n w s z e x le = ap (λ (p : ℕ). read_bits w s p) (x.bits w le) ∙ read_bits-modulo w s z (let h = x.some in omega arith) (fits_wider n w s z le x.fit)

zero_test : (a : ℕ) → nat_eq a 0 ≡ int_eq (pos a) (pos 0)
zero_test a = same_from_decides (nat_eq a 0) (int_eq (pos a) (pos 0)) (Decides-eqb a 0) (Decides-like {P = pos a ≡ pos 0} {Q = a ≡ 0} (int_eq (pos a) (pos 0)) (λ e. cc) (λ e. ap (λ (k : ℕ). pos k) e) (Decides-int_eq (pos a) (pos 0)))

-- only 0 has the pattern 0
pub zero_pattern : (n : ℕ) (s : Bool) (z : ℤ) → 1 ≤ n → FitsBits n s z → nat_eq (modulo z (2 ^ n)) 0 ≡ int_eq z (pos 0)
zero_pattern n s (pos a) h f = ap (λ (k : ℕ). nat_eq k 0) (small n s a h f) ∙ zero_test a
  where
    small : (n : ℕ) (s : Bool) (a : ℕ) → 1 ≤ n → FitsBits n s (pos a) → modulo (pos a) (2 ^ n) ≡ a
    small n false a h f = modulo-small a (2 ^ n) (pos_fits n a f)
    small n true a h f = let e = signed_fits n (pos a) f in let t = halves n h in modulo-small a (2 ^ n) (omega arith)
zero_pattern n false (negsuc a) h f = absurd (let e = unsigned_fits n (negsuc a) f in omega arith)
zero_pattern n true (negsuc a) h f =
    let half = negative_fits n a f in
    let t = halves n h in
    ne_eqb (modulo (negsuc a) (2 ^ n)) 0 (λ e. let p = modulo_negative a n (omega arith) in omega arith)

-- what a net takes
pub drives_net : (u : Valuation) (n : ℕ) (z : ℤ) (e : Meaning) → Drives u n z e → cut_to n e u ≡ modulo z (2 ^ n)
drives_net u n z e d =
    ap (λ (k : ℕ). e.bits u k e.signed % 2 ^ n) (let m : max n e.width ≡ n = let le = d.width in omega arith in m)
    ∙ (ap (λ (p : ℕ). p % 2 ^ n) d.bits ∙ modulo-modulo z n n (omega arith))

pub spreads_drives : (u : Valuation) (n : ℕ) (z : ℤ) (e : Meaning) → Spreads u n z e → Drives u n z e
spreads_drives u n z e p = record { width = p.width; bits = p.bits n (omega arith) }

pub exact_spreads : (u : Valuation) (n : ℕ) (s : Bool) (z : ℤ) (e : Meaning) → Exact u n s z e → Spreads u n z e
exact_spreads u n s z e x = record { width = omega (arith, x.width); bits = λ w le. ap (λ t. e.bits u w t) x.sign ∙ x.bits w le }
