-- A circuit with an order of its reads settles in exactly one way: round after round of what the roles
-- say, a place of rank k stays as it is from round k + 1 on.
use Rattle.std.proofs.Common.{◌≡◌, ℕ, true, pos, ◌+◌, ◌-◌, ◌<◌, ◌^◌, ◌%◌, ◌||◌, refl, sym, ◌∙◌, ap, zero, suc, eq-eqb, arith}
use Rattle.lx_num.specs.Ints.{modulo, read_bits, wrapped}
use Rattle.lx_circuit.specs.Places.{Place, Values, At, Word, Kept, is_at, is_word, is_kept}
use Rattle.lx_circuit.specs.Values.{count_of}
use Rattle.lx_circuit.specs.Memories.{Port, Mode, Async, WriteFirst, ReadFirst, NoChange, shown, addressed}
use Rattle.lx_circuit.specs.Circuit.{Circuit, Role, Input, Comb, Sync, Read, Undriven, role, by_role, by_place, made, shapes, port_at, IsSettled}
use Rattle.lx_circuit.specs.Reads.{HasOrder, reads_block, shown_reads, role_reads, reads_at}
use Rattle.lx_circuit.specs.Settling.{SettlesOnce}
use Rattle.lx_circuit.proofs.Frames.{AgreeOn, left_of, right_of, block_same}

-- what a port shows hangs on what it reads
shown_same : (v w : Values) (j : ℕ) (q : Port) (m : Mode) → AgreeOn v w (λ y. shown_reads j y q m) → shown v j q m ≡ shown w j q m
shown_same v w j q Async h =
    let a = left_of v w (λ y. is_at q.adr y) (λ y. is_word q.memory y) h in
    let b = right_of v w (λ y. is_at q.adr y) (λ y. is_word q.memory y) h in
    ap (λ z. v (Word q.memory (count_of z))) (a (At q.adr) (eq-eqb q.adr q.adr refl)) ∙ b (Word q.memory (addressed w q)) (eq-eqb q.memory q.memory refl)
shown_same v w j q WriteFirst h =
    let a = left_of v w (λ y. is_kept j y) (λ y. is_word q.memory y) h in
    let b = right_of v w (λ y. is_kept j y) (λ y. is_word q.memory y) h in
    ap (λ z. v (Word q.memory (count_of z))) (a (Kept j) (eq-eqb j j refl)) ∙ b (Word q.memory (count_of (w (Kept j)))) (eq-eqb q.memory q.memory refl)
shown_same v w j q ReadFirst h = h (Kept j) (eq-eqb j j refl)
shown_same v w j q NoChange h = h (Kept j) (eq-eqb j j refl)

-- what a role says hangs on what the signal reads
by_role_same : (c : Circuit) (state inputs v w : Values) (x : ℕ) (r : Role) → AgreeOn v w (λ y. reads_block x y c.comb || role_reads c y r) → by_role c state inputs v x r ≡ by_role c state inputs w x r
by_role_same c state inputs v w x Input h = refl
by_role_same c state inputs v w x Comb h =
    ap (λ p. read_bits (shapes c x).bits (shapes c x).signed (p % 2 ^ (shapes c x).bits))
    (block_same (shapes c) v w x c.comb (left_of v w (λ y. reads_block x y c.comb) (λ y. role_reads c y Comb) h) (modulo (made c x).reset (2 ^ (shapes c x).bits)))
by_role_same c state inputs v w x (Sync d) h = refl
by_role_same c state inputs v w x (Read j) h =
    ap (λ z. wrapped (shapes c x) z) (shown_same v w j (port_at c j) (port_at c j).mode (right_of v w (λ y. reads_block x y c.comb) (λ y. role_reads c y (Read j)) h))
by_role_same c state inputs v w x Undriven h = refl

-- what a place has hangs on what it reads
pub by_place_same : (c : Circuit) (state inputs v w : Values) (p : Place) → AgreeOn v w (λ y. reads_at c p y) → by_place c state inputs v p ≡ by_place c state inputs w p
by_place_same c state inputs v w (At x) h = by_role_same c state inputs v w x (role c x) h
by_place_same c state inputs v w (Word m k) h = refl
by_place_same c state inputs v w (Kept j) h = refl

-- what a place reads stands before it
before : (c : Circuit) (o : HasOrder c) (p y : Place) → reads_at c p y ≡ true → o.rank y < o.rank p
before c o (At x) y e = o.after x y e
before c o (Word m k) y e = absurd cc
before c o (Kept j) y e = absurd cc

-- the values after so many rounds
abbrev pub rounds : Circuit → Values → Values → ℕ → Values
rounds c state inputs zero = λ p. pos 0
rounds c state inputs (suc n) = λ p. by_place c state inputs (rounds c state inputs n) p

pub stable : (c : Circuit) (o : HasOrder c) (state inputs : Values) (n : ℕ) (x : Place) → o.rank x < n → rounds c state inputs n x ≡ rounds c state inputs (suc n) x
stable c o state inputs zero x h = absurd (omega arith)
stable c o state inputs (suc n) x h =
    by_place_same c state inputs (rounds c state inputs n) (rounds c state inputs (suc n)) x
    (λ y r. let below : o.rank y < o.rank x = before c o x y r in stable c o state inputs n y (omega arith))

-- from its round on a signal stays
pub stays : (c : Circuit) (o : HasOrder c) (state inputs : Values) (k : ℕ) (x : Place) → rounds c state inputs (k + suc (o.rank x)) x ≡ rounds c state inputs (suc (o.rank x)) x
stays c o state inputs zero x = ap (λ n. rounds c state inputs n x) (let e : 0 + suc (o.rank x) ≡ suc (o.rank x) = omega arith in e)
stays c o state inputs (suc k) x =
    ap (λ n. rounds c state inputs n x) (let e : suc k + suc (o.rank x) ≡ suc (k + suc (o.rank x)) = omega arith in e)
    ∙ (sym (stable c o state inputs (k + suc (o.rank x)) x (omega arith)) ∙ stays c o state inputs k x)

abbrev pub reached : (c : Circuit) → HasOrder c → Values → Values → Values
reached c o state inputs x = rounds c state inputs (suc (o.rank x)) x

-- a round that is late enough has the value that is reached
pub late : (c : Circuit) (o : HasOrder c) (state inputs : Values) (m : ℕ) (y : Place) → o.rank y < m → rounds c state inputs m y ≡ reached c o state inputs y
late c o state inputs m y h =
    ap (λ n. rounds c state inputs n y) (let e : m ≡ (m - suc (o.rank y)) + suc (o.rank y) = omega arith in e) ∙ stays c o state inputs (m - suc (o.rank y)) y

pub reached_settled : (c : Circuit) (o : HasOrder c) (state inputs : Values) → IsSettled c state inputs (reached c o state inputs)
reached_settled c o state inputs = record {
  each = λ x. by_place_same c state inputs (rounds c state inputs (o.rank x)) (reached c o state inputs) x (λ y r. late c o state inputs (o.rank x) y (before c o x y r));
}

-- two settled valuations agree, from the lowest rank on
pub agree_below : (c : Circuit) (o : HasOrder c) (state inputs v w : Values) → IsSettled c state inputs v → IsSettled c state inputs w → (n : ℕ) (x : Place) → o.rank x < n → v x ≡ w x
agree_below c o state inputs v w p q zero x h = absurd (omega arith)
agree_below c o state inputs v w p q (suc n) x h =
    p.each x ∙ (by_place_same c state inputs v w x (λ y r. let below : o.rank y < o.rank x = before c o x y r in agree_below c o state inputs v w p q n y (omega arith)) ∙ sym (q.each x))

unfoldable pub settles_once : (c : Circuit) → HasOrder c → (state inputs : Values) → SettlesOnce c state inputs
settles_once c o state inputs = record {
  values = reached c o state inputs;
  settled = reached_settled c o state inputs;
  only = λ v p x. agree_below c o state inputs v (reached c o state inputs) p (reached_settled c o state inputs) (suc (o.rank x)) x (omega arith);
}
