-- Numbers of bits.
use Rattle.std.proofs.Common.{◌≡◌, ℕ, ◌-◌, ◌^◌, ◌<◌, ◌≤◌, Bool, true, false, ◌&&◌, ◌||◌, nat_le, nat_lt, nat_eq, refl, arith}
use Rattle.std.proofs.Math.Nat.{pow-le-pow_right}
use Rattle.std.proofs.lemmas.Bool.{and_left, and_right, le-leb, lt-leb, ne_eqb, or_from}
use Rattle.lx_fhdl.specs.Kept.{is_fewest}

pub fewest_none : (a n : ℕ) → n < 1 → is_fewest a n ≡ false
fewest_none a n h = and_left (nat_le 1 n) _ (lt-leb 1 n h)

-- more than 32 bits
pub fewest_far : (a n : ℕ) → a < 2 ^ 32 → 32 < n → is_fewest a n ≡ false
fewest_far a n h far =
    let two : 0 < 2 = omega arith in
    let most : 32 ≤ n - 1 = omega arith in
    let many : n ≡ 1 → ⊥ = λ e. omega (arith, e) in
    let less : a < 2 ^ (n - 1) = omega (arith, pow-le-pow_right two most) in
    and_right (nat_le 1 n) _ (and_right (nat_lt a (2 ^ n)) (nat_eq n 1 || nat_le (2 ^ (n - 1)) a) (or_from (nat_eq n 1) (nat_le (2 ^ (n - 1)) a) (ne_eqb n 1 many) (lt-leb (2 ^ (n - 1)) a less)))

pub fewest_near : (a n : ℕ) → 1 ≤ n → is_fewest a n ≡ (nat_lt a (2 ^ n) && (nat_eq n 1 || nat_le (2 ^ (n - 1)) a))
fewest_near a n h = rw (le-leb 1 n h) refl
