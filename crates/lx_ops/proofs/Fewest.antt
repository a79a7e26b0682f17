-- The fewest bits that hold a number are the least that are found.
use Rattle.std.proofs.Common.{◌≡◌, ◌∙◌, ℕ, ◌+◌, ◌-◌, ◌^◌, ◌≤◌, nat_lt, Bool, true, false, true≢false, zero, suc, refl, sym, ap, arith}
use Rattle.std.specs.Prelude.{ℤ, pos, negsuc, FitsSigned, unsigned_abs, if◌then◌else◌}
use Rattle.std.specs.Int.{w128}
use Rattle.std.proofs.lemmas.Bool.{ltb-true, ltb-false, lt-ltb}
use Rattle.std.proofs.lemmas.Int.{ints}
use Rattle.lx_num.specs.Ints.{FitsBits}
use Rattle.lx_num.specs.Fewest.{IsFewestBits, below_zero}
use Rattle.lx_num.proofs.Ranges.{fits_pos, pos_fits, fits_signed, negative_fits}
use Rattle.lx_ops.specs.Exprs.{fewest, is_held, least}

ahead : (z : ℤ) (n k : ℕ) (b : Bool) → nat_lt k n ≡ b → k ≤ n → is_held z n ≡ true → is_held z k ≡ false → k + 1 ≤ n
ahead z n k true c p q e = omega (arith, ltb-true k n c)
ahead z n k false c p q e =
    let d : k ≡ n = omega (arith, ltb-false k n c, p) in
    absurd (true≢false (sym q ∙ sym (ap (is_held z) d) ∙ e))

least_step : (z : ℤ) (n more k : ℕ) (b : Bool) → is_held z k ≡ b → k ≤ n → is_held z n ≡ true → ((j : ℕ) → 1 ≤ j → is_held z j ≡ true → n ≤ j) → 1 ≤ k → (k + 1 ≤ n → n ≡ least z more (k + 1)) → n ≡ (if b then k else least z more (k + 1))
least_step z n more k true c p q f s rest = omega (arith, f k s c, p)
least_step z n more k false c p q f s rest = rest (ahead z n k (nat_lt k n) refl p q c)

least_is : (z : ℤ) (n more k : ℕ) → k ≤ n → n ≤ k + more → is_held z n ≡ true → ((j : ℕ) → 1 ≤ j → is_held z j ≡ true → n ≤ j) → 1 ≤ k → n ≡ least z more k
unfolding least
least_is z n zero k p q h f s = omega arith
least_is z n (suc more) k p q h f s =
    least_step z n more k (is_held z k) refl p h f s (λ g. least_is z n more (k + 1) g (omega arith) h f (omega arith))

held_at : (z : ℤ) (n : ℕ) → FitsBits n (below_zero z) z → is_held z n ≡ true
held_at (pos a) n f = lt-ltb a (2 ^ n) (pos_fits n a f)
held_at (negsuc a) n f = lt-ltb a (2 ^ (n - 1)) (negative_fits n a f)

fits_at : (z : ℤ) (n : ℕ) → is_held z n ≡ true → FitsBits n (below_zero z) z
fits_at (pos a) n e = fits_pos n a (ltb-true a (2 ^ n) e)
fits_at (negsuc a) n e = let h = ltb-true a (2 ^ (n - 1)) e in fits_signed n (negsuc a) (omega arith) (omega arith)

pub fewest_is : (z : ℤ) (n : ℕ) → IsFewestBits z n → n ≤ 128 → n ≡ fewest z
fewest_is z n h m =
    let some = h.some in
    least_is z n 127 1 some (omega arith) (held_at z n h.enough) (λ j s e. h.fewest j s (fits_at z j e)) (omega arith)

-- of all numbers of 128 bits only the least one has 128
least_negative : (n : ℕ) → n ≡ 2 ^ 127 - 1 → 128 ≡ fewest (negsuc n)
unfolding least
least_negative n e = rw e refl

pub least_integer : (z : ℤ) → FitsSigned w128 z → 2 ^ 127 ≤ unsigned_abs z → 128 ≡ fewest z
least_integer (pos n) f h = absurd (omega (arith, ints))
least_integer (negsuc n) f h = least_negative n (omega (arith, ints))
