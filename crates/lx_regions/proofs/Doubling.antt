-- The least power of two that holds a size.
use Rattle.std.proofs.Common.{◌≡◌, ℕ, suc, zero, ◌+◌, ◌*◌, ◌/◌, ◌^◌, ◌<◌, ◌≤◌, inl, inr, refl, arith, ap, sym, ◌∙◌, max}
use Rattle.std.specs.Int.{IsPowerOfTwo}
use Rattle.std.proofs.lemmas.Nat.{pow-add}
use Rattle.std.proofs.Math.Pow.{pow_mono}
use Rattle.std.proofs.lemmas.Bool.{cases_lt, cases_eq, le-leb, lt-leb}
use Rattle.lx_regions.specs.Rounded.{first_block, rounded}

twice : (a : ℕ) → 2 ^ suc a ≡ 2 * 2 ^ a
twice a = let e : suc a ≡ 1 + a = omega arith in ap (λ z. 2 ^ z) e ∙ pow-add 2 1 a

first_is : (k a b n : ℕ) → a ≤ b → b ≤ a + k → n ≤ 2 ^ b → ((c : ℕ) → a ≤ c → c < b → 2 ^ c < n) → first_block k (2 ^ a) n ≡ 2 ^ b
unfolding first_block
first_is zero a b n low high holds least = let e : a ≡ b = omega arith in ap (λ z. 2 ^ z) e
first_is (suc k) a b n low high holds least = elim (cases_eq a b) [
  | inl e ↦ let f = ap (λ z. 2 ^ z) e in rw (le-leb n (2 ^ a) (omega (arith, f, holds))) f
  | inr ne ↦
      let small = least a (omega arith) (omega arith) in
      rw (lt-leb n (2 ^ a) small, sym (twice a)) (first_is k (suc a) b n (omega arith) (omega arith) holds (λ c x y. least c (omega arith) y))
]

-- the block is a power of two, and not past the last of them
block_power : (k a n : ℕ) → (c : ℕ) × (a ≤ c) × (c ≤ a + k) × (first_block k (2 ^ a) n ≡ 2 ^ c)
unfolding first_block
block_power zero a n = (a, omega arith, omega arith, refl)
block_power (suc k) a n = elim (cases_lt (2 ^ a) n) [
  | inr holds ↦ (a, omega arith, omega arith, rw (le-leb n (2 ^ a) holds) refl)
  | inl small ↦
      let rest = block_power k (suc a) n in
      (rest.0, omega (arith, rest.1), omega (arith, rest.2), rw (lt-leb n (2 ^ a) small, sym (twice a)) rest.3)
]

pub rounded_power : (n : ℕ) → IsPowerOfTwo (rounded n) × (rounded n ≤ 4294967296) × (4 ≤ rounded n)
unfolding rounded
rounded_power n =
    let found = block_power 30 2 n in
    let high : 2 ^ found.0 ≤ 2 ^ 32 = pow_mono found.2 in
    let low : 2 ^ 2 ≤ 2 ^ found.0 = pow_mono found.1 in
    ((found.0, found.3), omega (arith, found.3, high), omega (arith, found.3, low))

pub rounded_is : (n r : ℕ) → n ≤ 4294967296 → IsPowerOfTwo r → max n 4 ≤ r → r / 2 < max 1 (max n 4) → r ≡ rounded n
unfolding rounded
rounded_is n r small (b, e) low high =
    let from : 2 ≤ b = elim (cases_lt b 2) [ inr fine ↦ fine | inl less ↦ let q : b ≤ 1 = omega arith in let p : 2 ^ b ≤ 2 ^ 1 = pow_mono q in absurd (omega (arith, e, p, low)) ] in
    let to : b ≤ 32 = elim (cases_lt 32 b) [ inr fine ↦ fine | inl more ↦ let q : 33 ≤ b = omega arith in let p : 2 ^ 33 ≤ 2 ^ b = pow_mono q in absurd (omega (arith, e, p, high)) ] in
    e ∙ sym (first_is 30 2 b n from to (omega (arith, e, low)) (λ c x y.
    let q : suc c ≤ b = omega arith in let up : 2 ^ suc c ≤ 2 ^ b = pow_mono q in
    let two = twice c in
    let four : 2 ^ 2 ≤ 2 ^ c = pow_mono x in
    omega (arith, e, up, two, four, high)))
