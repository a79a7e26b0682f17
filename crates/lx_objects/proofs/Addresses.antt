-- The bits of addresses, number by number.
use Rattle.std.proofs.Common.{◌≡◌, ℕ, zero, suc, ◌+◌, ◌-◌, ◌<◌, ◌≤◌, ◌^◌, refl, arith}
use Rattle.std.proofs.lemmas.Bool.{le-leb, lt-leb}
use Rattle.lx_objects.specs.Memories.{address_bits_from}

pub one_bit_more : (n more b : ℕ) → 0 < more → 2 ^ b < n → address_bits_from n (more - 1) (b + 1) ≡ address_bits_from n more b
unfolding address_bits_from
one_bit_more n zero b p h = absurd (omega (arith, p))
one_bit_more n (suc more) b p h =
    let less : suc more - 1 ≡ more = omega arith in
    rw (less, lt-leb n (2 ^ b) h) refl

pub enough_bits : (n more b : ℕ) → 0 < more → n ≤ 2 ^ b → address_bits_from n more b ≡ b
unfolding address_bits_from
enough_bits n zero b p h = absurd (omega (arith, p))
enough_bits n (suc more) b p h = rw (le-leb n (2 ^ b) h) refl

pub no_bit_more : (n more b : ℕ) → more ≡ 0 → address_bits_from n more b ≡ b
unfolding address_bits_from
no_bit_more n zero b e = refl
no_bit_more n (suc more) b e = absurd (omega (arith, e))
