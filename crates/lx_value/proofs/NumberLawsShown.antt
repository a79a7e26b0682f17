-- Division and powers meet their laws.
use Rattle.std.proofs.Common.{◌≡◌, ℕ, ◌+◌, ◌*◌, ◌%◌, ◌^◌, ◌<◌, ◌∙◌, ap, arith, neg_ℤ, add-one, cond}
use Rattle.std.specs.Prelude.{ℤ, pos, negsuc, suc, zero, ◌+ℤ◌, ◌-ℤ◌, ◌*ℤ◌, ◌<ℤ◌, ◌≤ℤ◌, nat_eq}
use Rattle.std.specs.Int.{int_pow}
use Rattle.std.proofs.lemmas.Int.{ints}
use Rattle.std.proofs.lemmas.Nat.{div-add-mod', mod_below}
use Rattle.std.proofs.Math.Nat.{pow-suc, pow-zero}
use Rattle.lx_value.specs.Numbers.{floor_quotient, floor_remainder}
use Rattle.lx_value.specs.NumberLaws.{DivisionRoundsDown, PowersMultiply}

upward : (a b : ℤ) → pos 0 <ℤ b → (pos 0 ≤ℤ floor_remainder a b) × (floor_remainder a b <ℤ b)
upward (pos a) (pos b) h =
    let p : 0 < b = omega (arith, ints) in
    (omega (arith, ints, div-add-mod' a b), omega (arith, ints, div-add-mod' a b, mod_below a b p))
upward (negsuc a) (pos b) h =
    let p : 0 < b = omega (arith, ints) in
    (omega (arith, ints, div-add-mod' a b, mod_below a b p), omega (arith, ints, div-add-mod' a b, mod_below a b p))
upward a (negsuc b) h = absurd (omega (arith, ints))

downward : (a b : ℤ) → b <ℤ pos 0 → (b <ℤ floor_remainder a b) × (floor_remainder a b ≤ℤ pos 0)
downward (pos zero) (negsuc b) h = (omega (arith, ints), omega (arith, ints))
downward (pos (suc a)) (negsuc b) h =
    let p : 0 < suc b = omega arith in
    (omega (arith, ints, div-add-mod' a (suc b), mod_below a (suc b) p), omega (arith, ints, div-add-mod' a (suc b), mod_below a (suc b) p))
downward (negsuc a) (negsuc b) h =
    let p : 0 < suc b = omega arith in
    (omega (arith, ints, div-add-mod' (suc a) (suc b), mod_below (suc a) (suc b) p), omega (arith, ints, div-add-mod' (suc a) (suc b)))
downward a (pos b) h = absurd (omega (arith, ints))

rejoined : (a p : ℤ) → a ≡ (p +ℤ (a -ℤ p))
rejoined a p = omega (arith, ints)

pub division_rounds_down : DivisionRoundsDown
division_rounds_down a b h = record {
  whole = rejoined a (floor_quotient a b *ℤ b);
  upward = upward a b;
  downward = downward a b;
}

one_more : (r m a : ℕ) → r < 2 → cond (nat_eq ((r + 1) % 2) 0) (pos (m * suc a)) (neg_ℤ (pos (m * suc a))) ≡ (cond (nat_eq r 0) (pos m) (neg_ℤ (pos m)) *ℤ negsuc a)
one_more zero m a h = omega (arith, ints)
one_more (suc zero) zero a h = omega (arith, ints)
one_more (suc zero) (suc m) a h = omega (arith, ints)
one_more (suc (suc r)) m a h = absurd (omega arith)

next : (a : ℤ) (n : ℕ) → int_pow a (n + 1) ≡ (int_pow a n *ℤ a)
next (pos a) n = ap (λ (k : ℕ). pos (a ^ k)) (add-one n) ∙ ap pos (pow-suc a n)
next (negsuc a) n =
    ap (λ (k : ℕ). cond (nat_eq ((n + 1) % 2) 0) (pos (suc a ^ k)) (neg_ℤ (pos (suc a ^ k)))) (add-one n)
    ∙ ap (λ (k : ℕ). cond (nat_eq ((n + 1) % 2) 0) (pos k) (neg_ℤ (pos k))) (pow-suc (suc a) n)
    ∙ ap (λ (k : ℕ). cond (nat_eq k 0) (pos (suc a ^ n * suc a)) (neg_ℤ (pos (suc a ^ n * suc a)))) (let e : (n + 1) % 2 ≡ (n % 2 + 1) % 2 = omega arith in e)
    ∙ one_more (n % 2) (suc a ^ n) a (omega arith)

first : (a : ℤ) → int_pow a 0 ≡ pos 1
first (pos a) = ap pos (pow-zero a)
first (negsuc a) = ap pos (pow-zero (suc a))

pub powers_multiply : PowersMultiply
powers_multiply a = (first a, next a)
