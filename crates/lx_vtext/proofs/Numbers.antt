-- A number's text is what `{}` writes, for numbers that programs hold.
use Rattle.std.proofs.Common.{◌≡◌, ℕ, ◌+◌, ◌/◌, ◌%◌, ◌^◌, ◌<◌, Bool, true, false, cond, ◌==◌, [], ◌∷◌, ◌++◌, map, decimal, codes, refl, sym, ap, ◌∙◌, arith, eqb-true}
use Rattle.std.specs.Fmt.{digits}
use Rattle.std.proofs.lemmas.Bool.{eqb-false}
use Rattle.std.specs.Int.Digits.{digits_of}
use Rattle.std.proofs.lemmas.Int.Digits.{digits_of_step}
use Rattle.std.proofs.lemmas.Fmt.{decimal_by_steps_wide}
use Rattle.std.proofs.lemmas.List.{map_push}
use Rattle.lx_vtext.specs.Printed.{number_text}

decimal_digits : (n : ℕ) → 0 < n → n < 10 ^ 64 → decimal n ≡ map (λ d. 48 + d) (digits_of 10 n)
decimal_digits n some small = decimal_by_steps_wide (λ m ds. 0 < m → ds ≡ map (λ d. 48 + d) (digits_of 10 m))
    (λ m l a. let z : m / 10 ≡ 0 = omega arith in let e : m % 10 ≡ m = omega arith in sym (ap (map (λ d. 48 + d)) (digits_of_step 10 m (omega arith) a ∙ (λ i. digits_of 10 (z i) ++ (e i ∷ [])))))
    (λ m ds l h a. ap (λ x. x ++ ((48 + m % 10) ∷ [])) (h (omega arith)) ∙ sym (map_push (λ d. 48 + d) (digits_of 10 (m / 10)) (m % 10)) ∙ ap (map (λ d. 48 + d)) (sym (digits_of_step 10 m (omega arith) a)))
    n small some

decimal_zero : decimal 0 ≡ codes "0"
unfolding digits
decimal_zero = refl

number_cases : (n : ℕ) (t : Bool) → (n == 0) ≡ t → n < 10 ^ 64 → decimal n ≡ cond t (codes "0") (map (λ d. 48 + d) (digits_of 10 n))
number_cases n true e small = ap decimal (eqb-true n 0 e) ∙ decimal_zero
number_cases n false e small = let ne = eqb-false n 0 e in decimal_digits n (omega arith) small

pub number_decimal_wide : (n : ℕ) → n < 10 ^ 64 → decimal n ≡ number_text n
unfolding number_text
number_decimal_wide n small = number_cases n (n == 0) refl small

pub number_decimal : (n : ℕ) → n < 2 ^ 128 → decimal n ≡ number_text n
number_decimal n small = number_decimal_wide n (omega arith)
