-- The ports of the bus are the first ten signals.
use Rattle.std.proofs.Common.{◌≡◌, ℕ, ◌+◌, ◌<◌, Bool, true, false, ◌&&◌, ◌||◌, nat_eq, nat_le, nat_lt, refl, sym, ap, ◌∙◌, arith, eq-eqb, inl, inr}
use Rattle.std.proofs.lemmas.Bool.{cases_eq, cases_lt, le-leb, le-ltb, lt-leb, lt-ltb, ne_eqb}
use Rattle.lx_circuit.specs.Circuit.{is_among}
use Rattle.lx_description.specs.Wires.{bus_signals}

-- a number from k on, below 10
abbrev from : ℕ → ℕ → Bool
from k x = nat_le k x && nat_lt x 10

-- it is k, or from k + 1 on
step : (k x : ℕ) → k < 10 → from k x ≡ (nat_eq k x || from (k + 1) x)
step k x l =
    elim (cases_eq k x) [
      | inl e ↦
          let first : nat_le k x ≡ true = le-leb k x (omega arith) in
          let below : nat_lt x 10 ≡ true = lt-ltb x 10 (omega arith) in
          let itself : nat_eq k x ≡ true = eq-eqb k x e in
          rw (first, below, itself) refl
      | inr e ↦
          elim (cases_lt k x) [
            | inl h ↦
                let first : nat_le k x ≡ true = le-leb k x (omega arith) in
                let next : nat_le (k + 1) x ≡ true = le-leb (k + 1) x (omega arith) in
                let other : nat_eq k x ≡ false = ne_eqb k x e in
                rw (first, next, other) refl
            | inr h ↦
                let less : x < k = omega arith in
                let first : nat_le k x ≡ false = lt-leb k x less in
                let next : nat_le (k + 1) x ≡ false = lt-leb (k + 1) x (omega arith) in
                let other : nat_eq k x ≡ false = ne_eqb k x e in
                rw (first, next, other) refl
          ]
    ]

past : (x : ℕ) → from 10 x ≡ false
past x =
    elim (cases_lt x 10) [
      | inl h ↦ rw (lt-leb 10 x h) refl
      | inr h ↦ rw (le-ltb x 10 h) (none (nat_le 10 x))
    ]
  where
    none : (b : Bool) → (b && false) ≡ false
    none true = refl
    none false = refl

more : (k x : ℕ) (rest : Bool) → k < 10 → from (k + 1) x ≡ rest → from k x ≡ (nat_eq k x || rest)
more k x rest l e = step k x l ∙ ap (λ (b : Bool). nat_eq k x || b) e

pub bus_told : (x : ℕ) → nat_lt x 10 ≡ is_among x (bus_signals true)
bus_told x =
    let a9 = more 9 x false (omega arith) (past x) in
    let a8 = more 8 x _ (omega arith) a9 in
    let a7 = more 7 x _ (omega arith) a8 in
    let a6 = more 6 x _ (omega arith) a7 in
    let a5 = more 5 x _ (omega arith) a6 in
    let a4 = more 4 x _ (omega arith) a5 in
    let a3 = more 3 x _ (omega arith) a4 in
    let a2 = more 2 x _ (omega arith) a3 in
    let a1 = more 1 x _ (omega arith) a2 in
    let a0 = more 0 x _ (omega arith) a1 in
    let first : nat_le 0 x ≡ true = le-leb 0 x (omega arith) in
    ap (λ (b : Bool). b && nat_lt x 10) (sym first) ∙ a0
