-- Values of expressions: a flag, parts side by side, and copies of one pattern.
use Rattle.std.proofs.Common.{◌≡◌, ℕ, zero, suc, ◌*◌, ◌^◌, ◌<◌, Bool, true, false, not, List, [], ◌∷◌, refl, ap, ◌∙◌, arith}
use Rattle.std.specs.Prelude.{ℤ}
use Rattle.std.proofs.lemmas.Nat.{pow_pos, pow-add, mul-add-lt}
use Rattle.lx_num.specs.declared.Shape.{Shape}
use Rattle.lx_num.specs.Ints.{modulo}
use Rattle.lx_num.proofs.Ints.{modulo-below}
use Rattle.lx_circuit.specs.Shapes.{bits_sum}
use Rattle.lx_circuit.specs.Values.{cat_pattern, copies, flag, is_zero}

pub flag_on : (b : Bool) → not (is_zero (flag b)) ≡ b
flag_on true = refl
flag_on false = refl

-- parts side by side
pub cat_below : (as_ : List Shape) (zs : List ℤ) → cat_pattern as_ zs < 2 ^ bits_sum as_
cat_below [] zs = omega arith
cat_below (a ∷ as_) [] = pow_pos (bits_sum (a ∷ as_))
cat_below (a ∷ as_) (z ∷ zs) =
    let p = mul-add-lt (cat_pattern as_ zs) (2 ^ a.bits) (modulo z (2 ^ a.bits)) (2 ^ bits_sum as_) (cat_below as_ zs) (modulo-below z (2 ^ a.bits) (pow_pos a.bits)) in
    omega (arith, p, pow-add 2 a.bits (bits_sum as_))

pub copies_below : (n bits p : ℕ) → p < 2 ^ bits → copies n bits p < 2 ^ (n * bits)
copies_below zero bits p h = pow_pos (zero * bits)
copies_below (suc n) bits p h =
    let e : 2 ^ (suc n * bits) ≡ 2 ^ (n * bits) * 2 ^ bits = ap (λ (k : ℕ). 2 ^ k) (omega arith) ∙ pow-add 2 (n * bits) bits in
    omega (arith, mul-add-lt (copies n bits p) (2 ^ bits) p (2 ^ (n * bits)) (copies_below n bits p h) h)
