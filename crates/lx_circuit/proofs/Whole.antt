-- An assignment of all bits leaves nothing of what the signal was.
use Rattle.std.proofs.Common.{◌≡◌, ℕ, ℤ, [], ◌∷◌, ◌+◌, ◌*◌, ◌%◌, ◌^◌, ◌<◌, cond, nat_eq, ◌∙◌, ap, arith, eq-eqb, refl}
use Rattle.std.proofs.Math.Nat.{mod-eq_of_lt, div-eq_of_lt}
use Rattle.std.proofs.lemmas.Nat.{pow_pos, mod_below}
use Rattle.lx_num.specs.Ints.{modulo, read_bits, wrapped}
use Rattle.lx_num.proofs.Ints.{modulo-below}
use Rattle.lx_circuit.specs.Shapes.{Shapes}
use Rattle.lx_circuit.specs.Statements.{piece, laid_over, result}

-- bits that cover a pattern leave nothing of it
pub laid_whole : (p n : ℕ) (z : ℤ) → p < 2 ^ n → laid_over p 0 n z ≡ modulo z (2 ^ n)
laid_whole p n z h =
    let e : 2 ^ (0 + n) ≡ 2 ^ n = ap (λ (k : ℕ). 2 ^ k) (omega arith) in
    let l : p < 2 ^ (0 + n) = omega arith in
    omega (arith, mod_below p (2 ^ 0) (pow_pos 0), ap (λ (k : ℕ). 2 ^ (0 + n) * k) (div-eq_of_lt l))

-- a signal that is assigned as a whole has the value that is assigned, wrapped to its shape
pub whole_assigned : (s : Shapes) (x : ℕ) (start z : ℤ) → result s x start (piece x 0 (s x).bits z ∷ []) ≡ wrapped (s x) z
whole_assigned s x start z =
    let n = (s x).bits in
    let p = modulo start (2 ^ n) in
    let after : cond (nat_eq x x) (laid_over p 0 n z) p ≡ modulo z (2 ^ n) =
    ap (λ b. cond b (laid_over p 0 n z) p) (eq-eqb x x refl) ∙ laid_whole p n z (modulo-below start (2 ^ n) (pow_pos n)) in
    ap (λ (k : ℕ). read_bits n (s x).signed (k % 2 ^ n)) after
    ∙ ap (λ (k : ℕ). read_bits n (s x).signed k) (mod-eq_of_lt (modulo-below z (2 ^ n) (pow_pos n)))
