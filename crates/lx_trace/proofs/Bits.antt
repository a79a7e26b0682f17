-- A bit more in a number of 32 bits.
use Rattle.std.proofs.Common.{◌≡◌, ◌≢◌, ℕ, ◌+◌, ◌*◌, ◌/◌, ◌%◌, ◌-◌, ◌^◌, ◌<◌, ◌≤◌, subst, sym, ◌∙◌, ap, arith, inl, inr}
use Rattle.std.specs.Prelude.{Option, Some, IfSome}
use Rattle.std.proofs.Math.Nat.{mod-eq_of_lt, pow-le-pow_right}
use Rattle.std.proofs.Math.Pow.{split}
use Rattle.std.proofs.Math.Nat.{mul-le-mul_right}
use Rattle.std.proofs.lemmas.Bool.{cases_lt}
use Rattle.std.proofs.lemmas.Nat.{pow_pos, mod_below}
use Rattle.lx_num.proofs.Ints.{halves, pow_split}

even_room : (n m q r t : ℕ) → q * m + r ≡ n → r < m → q % 2 ≢ 1 → n < (t + t) * m → n + m < (t + t) * m
even_room n m q r t e l odd h =
    let j = q / 2 in
    let two : q ≡ j + j = omega arith in
    elim (cases_lt j t) [
      | inl p ↦
          let more : (j + 1) * m ≤ t * m = mul-le-mul_right m (omega arith) in
          let a : q * m ≡ j * m + j * m = ap (λ (k : ℕ). k * m) two ∙ grind arith in
          let b : (t + t) * m ≡ t * m + t * m = grind arith in
          let c : (j + 1) * m ≡ j * m + m = grind arith in
          omega (arith, more, a, b, c, e, l)
      | inr p ↦
          let more : t * m ≤ j * m = mul-le-mul_right m p in
          let a : q * m ≡ j * m + j * m = ap (λ (k : ℕ). k * m) two ∙ grind arith in
          let b : (t + t) * m ≡ t * m + t * m = grind arith in
          absurd (omega (arith, more, a, b, e, h))
    ]

pub room : (n k : ℕ) → n < 2 ^ 32 → k < 32 → n / 2 ^ k % 2 ≢ 1 → n + 2 ^ k < 2 ^ 32
room n k h l odd =
    let t = 2 ^ (32 - k - 1) in
    let whole : 2 ^ 32 ≡ (t + t) * 2 ^ k = pow_split k 32 (omega arith) ∙ ap (λ (w : ℕ). w * 2 ^ k) (halves (32 - k) (omega arith)) in
    let below : n < (t + t) * 2 ^ k = omega (arith, whole) in
    let most = even_room n (2 ^ k) (n / 2 ^ k) (n % 2 ^ k) t (split n k) (mod_below n (2 ^ k) (pow_pos k)) odd below in
    omega (arith, whole, most)

bit_is : (k : ℕ) → k < 32 → 1 * 2 ^ k % 4294967296 ≡ 2 ^ k
bit_is k h =
    let two : 0 < 2 = omega arith in
    let less : k ≤ 31 = omega arith in
    let most : 2 ^ k ≤ 2 ^ 31 = pow-le-pow_right two less in
    let one : 1 * 2 ^ k ≡ 2 ^ k = omega arith in
    ap (λ (n : ℕ). n % 4294967296) one ∙ mod-eq_of_lt (let q : 2 ^ k < 4294967296 = omega (arith, most) in q)

-- the domain is below 32
domain_below : (o : Option ℕ) (k : ℕ) → o ≡ Some k → IfSome o (λ j. j < 32) → k < 32
domain_below o k e h = subst (λ (p : Option ℕ). IfSome p (λ j. j < 32)) e h

pub room_for : (n k : ℕ) (o : Option ℕ) → n < 2 ^ 32 → o ≡ Some k → IfSome o (λ j. j < 32) → n / (1 * 2 ^ k % 4294967296) % 2 ≢ 1 → n + 1 * 2 ^ k % 4294967296 < 2 ^ 32
room_for n k o h e l odd =
    let below = domain_below o k e l in
    let b = bit_is k below in
    subst (λ (m : ℕ). n + m < 2 ^ 32) (sym b) (room n k h below (subst (λ (m : ℕ). n / m % 2 ≢ 1) b odd))
