-- Digits behind a number that is cut.
use Rattle.std.proofs.Common.{◌≡◌, ℕ, suc, List, [], ◌∷◌, drop, get_or, length, drop-cons, ◌+◌, ◌*◌, ◌≤◌, ◌<◌, min, sym, ◌∙◌, ap, arith, inl, inr}
use Rattle.std.proofs.lemmas.Bool.{cases_lt}
use Rattle.lx_trace.specs.Cutoff.{capped, cutoff}
use Rattle.lx_trace.specs.Numbers.{digit, digits_value}

grows : (base n d : ℕ) → 1 ≤ base → n ≤ base * n + d
grows base n d h = grind arith

digits_least : (base n : ℕ) (bs : List ℕ) → 1 ≤ base → n ≤ digits_value base n bs
unfolding digits_value
digits_least base n [] h = omega arith
digits_least base n (b ∷ bs) h =
    let one = grows base n (digit b) h in
    let more = digits_least base (base * n + digit b) bs h in
    omega arith

pub cap_digits : (base n : ℕ) (bs : List ℕ) → 1 ≤ base → capped (digits_value base (capped n) bs) ≡ capped (digits_value base n bs)
cap_digits base n bs h =
    elim (cases_lt n cutoff) [
      | inl p ↦ ap (λ (k : ℕ). capped (digits_value base k bs)) (let e : min n cutoff ≡ n = omega arith in e)
      | inr p ↦
          let e : min n cutoff ≡ cutoff = omega arith in
          let a = digits_least base n bs h in
          let b = digits_least base cutoff bs h in
          ap (λ (k : ℕ). capped (digits_value base k bs)) e ∙ (let f : capped (digits_value base cutoff bs) ≡ capped (digits_value base n bs) = omega arith in f)
    ]

pub digit_more : (base d i value next : ℕ) (bytes : List ℕ) → 1 ≤ base → i < length bytes → next ≡ capped (base * value + digit (get_or bytes i d)) → capped (digits_value base 0 bytes) ≡ capped (digits_value base value (drop i bytes))
    → capped (digits_value base 0 bytes) ≡ capped (digits_value base next (drop (i + 1) bytes))
unfolding digits_value
digit_more base d i value next bytes some l e h =
    let one : i + 1 ≡ suc i = omega arith in
    h
    ∙ (ap (λ (bs : List ℕ). capped (digits_value base value bs)) (drop-cons bytes i d l)
    ∙ (sym (cap_digits base (base * value + digit (get_or bytes i d)) (drop (suc i) bytes) some)
    ∙ (ap (λ (n : ℕ). capped (digits_value base n (drop (suc i) bytes))) (sym e)
    ∙ ap (λ (j : ℕ). capped (digits_value base next (drop j bytes))) (sym one))))
