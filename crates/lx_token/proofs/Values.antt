-- What digits stand for only grows.
use Rattle.std.proofs.Common.{◌≡◌, ℕ, suc, ◌+◌, ◌*◌, ◌-◌, ◌/◌, ◌<◌, ◌≤◌, false, leb, List, [], ◌∷◌, length, get_or, drop, fold, arith, drop-cons}
use Rattle.std.proofs.Math.Nat.{div-lt_iff_lt-mul}
use Rattle.std.proofs.lemmas.Bool.Decides.{nat_tests}
use Rattle.lx_token.specs.Bytes.{digit_value}
use Rattle.lx_token.specs.Numbers.{with_digit}

with_digit-grows : (base v c : ℕ) → 0 < base → v ≤ with_digit base v c
with_digit-grows base v c h = grind (arith, nat_tests)

grows : (base : ℕ) (cs : List ℕ) (v : ℕ) → 0 < base → v ≤ fold (with_digit base) v cs
grows base [] v h = omega arith
grows base (c ∷ cs) v h = omega (arith, with_digit-grows base v c h, grows base cs (with_digit base v c) h)

-- where a digit more is too great, so is the whole
too_great : (base c v greatest : ℕ) (cs : List ℕ) → 0 < base → (c ≡ 95 → ⊥) → (greatest - digit_value c) / base < v → greatest < fold (with_digit base) v (c ∷ cs)
too_great base c v greatest cs h n past =
    let step : with_digit base v c ≡ v * base + digit_value c = grind (arith, nat_tests) in
    let far : greatest - digit_value c < v * base = (div-lt_iff_lt-mul {k = base} {x = greatest - digit_value c} {y = v} h).0 past in
    omega (arith, grows base cs (with_digit base v c) h)

pub past_greatest : (base v greatest i : ℕ) (ds : List ℕ) → 0 < base → i < length ds → (get_or ds i 0 ≡ 95 → ⊥) → (greatest - digit_value (get_or ds i 0)) / base < v → greatest < fold (with_digit base) v (drop i ds)
past_greatest base v greatest i ds h lt n past =
    rw (drop-cons ds i 0) (too_great base (get_or ds i 0) v greatest (drop (suc i) ds) h n past)

pub not_le : (a b : ℕ) → b < a → false ≡ leb a b
not_le a b h = grind (arith, nat_tests)
