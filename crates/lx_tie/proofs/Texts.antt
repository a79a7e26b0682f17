-- The text of each operator at operands of one sign.
use Rattle.std.proofs.Common.{◌≡◌, ℕ, ℤ, pos, negsuc, Bool, true, false, ◌-◌, ◌*◌, ◌/◌, ◌%◌, ◌^◌, ◌≤◌, ◌&&◌, cond, nat_eq, max, refl, sym, ◌∙◌, ap, arith, pow_mono}
use Rattle.std.specs.Prelude.{◌+ℤ◌, ◌-ℤ◌, ◌*ℤ◌}
use Rattle.std.proofs.Common.{neg_ℤ}
use Rattle.std.proofs.Math.Nat.{div-le_self}
use Rattle.std.proofs.lemmas.Int.{ints}
use Rattle.std.proofs.lemmas.Nat.{pow_pos, mul-mod_second}
use Rattle.std.proofs.Math.Bool.{and_self}
use Rattle.lx_num.specs.Ints.{modulo, floor_div, FitsBits, read_bits}
use Rattle.lx_num.specs.Bits.{int_not, int_and, int_or, int_xor}
use Rattle.lx_num.proofs.Ints.{modulo-small, modulo-add, modulo-sub, modulo-neg, modulo-mul, modulo-int_not}
use Rattle.lx_num.proofs.Bitwise.{modulo-int_and, modulo-int_or, modulo-int_xor}
use Rattle.lx_num.proofs.Ranges.{pos_fits, unsigned_fits, fits_pos}
use Rattle.lx_vmeaning.specs.Meaning.{Valuation, Meaning, own, both, add_bits, sub_bits, mul_bits, and_bits, or_bits, xor_bits, negated, inverted, left_shift, right_shift, compare, truth, choose}
use Rattle.lx_circuit.specs.Values.{count_of, is_zero, mux_value, flag}
use Rattle.lx_tie.specs.Stands.{Exact, Drives, Spreads}
use Rattle.lx_tie.proofs.Leaves.{own_exact, read_exact, zero_pattern, exact_leaf}

-- both operands are signed where they have that sign
pub both_signed : (a b s : Bool) → a ≡ s → b ≡ s → (a && b) ≡ s
both_signed a b s e h = ap (λ x. x && b) e ∙ (ap (λ y. s && y) h ∙ and_self s)

-- an operator whose operands are in the same context
pub spreads_both : (u : Valuation) (f : ℕ → ℕ → ℕ → ℕ) (n m k : ℕ) (s : Bool) (x y z : ℤ) (a b : Meaning) → Exact u n s x a → Exact u m s y b → n ≤ k → m ≤ k
    → ((w : ℕ) → k ≤ w → f w (modulo x (2 ^ w)) (modulo y (2 ^ w)) ≡ modulo z (2 ^ w)) → Spreads u k z (both f a b)
spreads_both u f n m k s x y z a b p q le me same = record {
  width = omega (arith, p.width, q.width);
  bits = λ w h.
      ap (λ t. f w (a.bits u w t) (b.bits u w t)) (both_signed a.signed b.signed s p.sign q.sign)
      ∙ (ap (λ (i : ℕ). f w i (b.bits u w s)) (p.bits w (omega arith)) ∙ (ap (λ (i : ℕ). f w (modulo x (2 ^ w)) i) (q.bits w (omega arith)) ∙ same w h));
}

pub spreads_plus : (u : Valuation) (n m k : ℕ) (s : Bool) (x y : ℤ) (a b : Meaning) → Exact u n s x a → Exact u m s y b → n ≤ k → m ≤ k → Spreads u k (x +ℤ y) (both add_bits a b)
spreads_plus u n m k s x y a b p q le me = spreads_both u add_bits n m k s x y (x +ℤ y) a b p q le me (λ w h. sym (modulo-add x y (2 ^ w) (pow_pos w)))

pub spreads_minus : (u : Valuation) (n m k : ℕ) (s : Bool) (x y : ℤ) (a b : Meaning) → Exact u n s x a → Exact u m s y b → n ≤ k → m ≤ k → Spreads u k (x -ℤ y) (both sub_bits a b)
spreads_minus u n m k s x y a b p q le me = spreads_both u sub_bits n m k s x y (x -ℤ y) a b p q le me (λ w h. sym (modulo-sub x y (2 ^ w) (pow_pos w)))

pub spreads_times : (u : Valuation) (n m k : ℕ) (s : Bool) (x y : ℤ) (a b : Meaning) → Exact u n s x a → Exact u m s y b → n ≤ k → m ≤ k → Spreads u k (x *ℤ y) (both mul_bits a b)
spreads_times u n m k s x y a b p q le me = spreads_both u mul_bits n m k s x y (x *ℤ y) a b p q le me (λ w h. sym (modulo-mul x y (2 ^ w) (pow_pos w)))

pub spreads_and : (u : Valuation) (n m k : ℕ) (s : Bool) (x y : ℤ) (a b : Meaning) → Exact u n s x a → Exact u m s y b → n ≤ k → m ≤ k → Spreads u k (int_and x y) (both and_bits a b)
spreads_and u n m k s x y a b p q le me = spreads_both u and_bits n m k s x y (int_and x y) a b p q le me (λ w h. sym (modulo-int_and x y w))

pub spreads_or : (u : Valuation) (n m k : ℕ) (s : Bool) (x y : ℤ) (a b : Meaning) → Exact u n s x a → Exact u m s y b → n ≤ k → m ≤ k → Spreads u k (int_or x y) (both or_bits a b)
spreads_or u n m k s x y a b p q le me = spreads_both u or_bits n m k s x y (int_or x y) a b p q le me (λ w h. sym (modulo-int_or x y w))

pub spreads_xor : (u : Valuation) (n m k : ℕ) (s : Bool) (x y : ℤ) (a b : Meaning) → Exact u n s x a → Exact u m s y b → n ≤ k → m ≤ k → Spreads u k (int_xor x y) (both xor_bits a b)
spreads_xor u n m k s x y a b p q le me = spreads_both u xor_bits n m k s x y (int_xor x y) a b p q le me (λ w h. sym (modulo-int_xor x y w))

pub spreads_negated : (u : Valuation) (n k : ℕ) (s : Bool) (x : ℤ) (a : Meaning) → Exact u n s x a → n ≤ k → Spreads u k (neg_ℤ x) (negated a)
spreads_negated u n k s x a p le = record {
  width = omega (arith, p.width);
  bits = λ w h. ap (λ t. (2 ^ w - a.bits u w t) % 2 ^ w) p.sign ∙ (ap (λ (i : ℕ). (2 ^ w - i) % 2 ^ w) (p.bits w (omega arith)) ∙ sym (modulo-neg x (2 ^ w) (pow_pos w)));
}

pub spreads_inverted : (u : Valuation) (n : ℕ) (s : Bool) (x : ℤ) (a : Meaning) → Exact u n s x a → Spreads u n (int_not x) (inverted a)
spreads_inverted u n s x a p = record {
  width = omega (arith, p.width);
  bits = λ w h. ap (λ t. 2 ^ w - 1 - a.bits u w t) p.sign ∙ (ap (λ (i : ℕ). 2 ^ w - 1 - i) (p.bits w h) ∙ sym (modulo-int_not x (2 ^ w) (pow_pos w)));
}

-- of an unsigned operand in its own width alone
not_pattern : (n : ℕ) (x : ℤ) → FitsBits n false x → 2 ^ n - 1 - modulo x (2 ^ n) ≡ modulo (pos (2 ^ n - 1) -ℤ x) (2 ^ n)
not_pattern n (pos a) f =
    let lt = pos_fits n a f in
    let e = modulo-small a (2 ^ n) lt in
    let d : pos (2 ^ n - 1) -ℤ pos a ≡ pos (2 ^ n - 1 - a) = omega (arith, ints) in
    ap (λ (i : ℕ). 2 ^ n - 1 - i) e ∙ (sym (modulo-small (2 ^ n - 1 - a) (2 ^ n) (let p = pow_pos n in omega arith)) ∙ ap (λ z. modulo z (2 ^ n)) (sym d))
not_pattern n (negsuc a) f = absurd (let e = unsigned_fits n (negsuc a) f in omega arith)

pub drives_inverted : (u : Valuation) (n : ℕ) (x : ℤ) (a : Meaning) → Exact u n false x a → Drives u n (pos (2 ^ n - 1) -ℤ x) (inverted a)
drives_inverted u n x a p = record {
  width = omega (arith, p.width);
  bits = ap (λ t. 2 ^ n - 1 - a.bits u n t) p.sign ∙ (ap (λ (i : ℕ). 2 ^ n - 1 - i) (p.bits n (omega arith)) ∙ not_pattern n x p.fit);
}

-- an amount by itself
pub amount_is : (u : Valuation) (m : ℕ) (y : ℤ) (b : Meaning) → Exact u m false y b → own b u ≡ count_of y
amount_is u m (pos k) b q = own_exact u m false (pos k) b q ∙ modulo-small k (2 ^ m) (pos_fits m k q.fit)
amount_is u m (negsuc k) b q = absurd (let e = unsigned_fits m (negsuc k) q.fit in omega arith)

pub spreads_left_shift : (u : Valuation) (n m k : ℕ) (s : Bool) (x y : ℤ) (a b : Meaning) → Exact u n s x a → Exact u m false y b → n ≤ k → Spreads u k (x *ℤ pos (2 ^ count_of y)) (left_shift a b)
spreads_left_shift u n m k s x y a b p q le = record {
  width = omega (arith, p.width);
  bits = λ w h.
      ap (λ t. a.bits u w t * 2 ^ own b u % 2 ^ w) p.sign
      ∙ (ap (λ (i : ℕ). i * 2 ^ own b u % 2 ^ w) (p.bits w (omega arith))
      ∙ (ap (λ (i : ℕ). modulo x (2 ^ w) * 2 ^ i % 2 ^ w) (amount_is u m y b q)
      ∙ (sym (mul-mod_second (modulo x (2 ^ w)) (2 ^ count_of y) (2 ^ w)) ∙ sym (modulo-mul x (pos (2 ^ count_of y)) (2 ^ w) (pow_pos w)))));
}

-- a value of n bits, moved right, in a context of w bits
shifted_natural : (n w k : ℕ) (x : ℤ) → n ≤ w → FitsBits n false x → modulo x (2 ^ w) / 2 ^ k ≡ modulo (floor_div x (2 ^ k)) (2 ^ w)
shifted_natural n w k (pos a) le f =
    let lt = pos_fits n a f in
    let wide = pow_mono {i = n} {j = w} le in
    let e = modulo-small a (2 ^ w) (omega arith) in
    ap (λ (i : ℕ). i / 2 ^ k) e ∙ sym (modulo-small (a / 2 ^ k) (2 ^ w) (let d = div-le_self a (2 ^ k) in omega arith))
shifted_natural n w k (negsuc a) le f = absurd (let e = unsigned_fits n (negsuc a) f in omega arith)

pub spreads_right_shift : (u : Valuation) (n m : ℕ) (x y : ℤ) (a b : Meaning) → Exact u n false x a → Exact u m false y b → Spreads u n (floor_div x (2 ^ count_of y)) (right_shift a b)
spreads_right_shift u n m x y a b p q = record {
  width = omega (arith, p.width);
  bits = λ w h.
      ap (λ t. a.bits u w t / 2 ^ own b u) p.sign
      ∙ (ap (λ (i : ℕ). i / 2 ^ own b u) (p.bits w h) ∙ (ap (λ (i : ℕ). modulo x (2 ^ w) / 2 ^ i) (amount_is u m y b q) ∙ shifted_natural n w (count_of y) x h p.fit));
}

-- a comparison of numbers is one of whole numbers
pub exact_compare : (u : Valuation) (test : ℤ → ℤ → Bool) (n m : ℕ) (s : Bool) (x y : ℤ) (a b : Meaning) → Exact u n s x a → Exact u m s y b → Exact u 1 false (flag (test x y)) (compare test a b)
exact_compare u test n m s x y a b p q =
    exact_leaf u 1 1 false (flag (test x y)) (λ v. truth (test (read_bits (max a.width b.width) (a.signed && b.signed) (a.bits v (max a.width b.width) (a.signed && b.signed))) (read_bits (max a.width b.width) (a.signed && b.signed) (b.bits v (max a.width b.width) (a.signed && b.signed))))) refl (omega arith)
    (flag_fits (test x y)) (ap (λ t. truth (test (read_bits (max a.width b.width) t (a.bits u (max a.width b.width) t)) (read_bits (max a.width b.width) t (b.bits u (max a.width b.width) t)))) (both_signed a.signed b.signed s p.sign q.sign)
    ∙ (ap (λ z. truth (test z (read_bits (max a.width b.width) s (b.bits u (max a.width b.width) s)))) (read_exact u n (max a.width b.width) s x a p (omega (arith, p.width)))
    ∙ (ap (λ z. truth (test x z)) (read_exact u m (max a.width b.width) s y b q (omega (arith, q.width))) ∙ truth_is (test x y))))
  where
    flag_fits : (t : Bool) → FitsBits 1 false (flag t)
    flag_fits true = fits_pos 1 1 (omega arith)
    flag_fits false = fits_pos 1 0 (omega arith)

    truth_is : (t : Bool) → truth t ≡ modulo (flag t) (2 ^ 1)
    truth_is true = refl
    truth_is false = refl

pub spreads_choose : (u : Valuation) (j n m k : ℕ) (r s : Bool) (c x y : ℤ) (e a b : Meaning) → Exact u j r c e → Exact u n s x a → Exact u m s y b → n ≤ k → m ≤ k → Spreads u k (mux_value c x y) (choose e a b)
spreads_choose u j n m k r s c x y e a b o p q le me = record {
  width = omega (arith, p.width, q.width);
  bits = λ w h.
      ap (λ (i : ℕ). cond (nat_eq i 0) (b.bits u w (a.signed && b.signed)) (a.bits u w (a.signed && b.signed))) (own_exact u j r c e o)
      ∙ (ap (λ t. cond t (b.bits u w (a.signed && b.signed)) (a.bits u w (a.signed && b.signed))) (zero_pattern j r c o.some o.fit)
      ∙ (ap (λ t. cond (is_zero c) (b.bits u w t) (a.bits u w t)) (both_signed a.signed b.signed s p.sign q.sign)
      ∙ (ap (λ (i : ℕ). cond (is_zero c) i (a.bits u w s)) (q.bits w (omega arith)) ∙ (ap (λ (i : ℕ). cond (is_zero c) (modulo y (2 ^ w)) i) (p.bits w (omega arith)) ∙ chosen (is_zero c) x y (2 ^ w)))));
}
  where
    chosen : (t : Bool) (x y : ℤ) (n : ℕ) → cond t (modulo y n) (modulo x n) ≡ modulo (cond t y x) n
    chosen true x y n = refl
    chosen false x y n = refl
