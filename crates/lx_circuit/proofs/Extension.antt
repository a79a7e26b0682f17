-- A port that keeps data does what a register beside a read of the word does.
use Rattle.std.proofs.Common.{◌≡◌, ℕ, ℤ, pos, Bool, true, false, Option, Some, None, ◌<◌, ◌^◌, ◌/◌, ◌&&◌, ◌||◌, [], ◌∷◌, cond, nat_eq, nat_lt, zero, suc, refl, sym, ◌∙◌, ap, ap₂, subst, arith}
use Rattle.std.proofs.lemmas.Bool.{and_parts, eqb-true, ne_eqb, cond-true}
use Rattle.std.proofs.Math.Bool.{or-false}
use Rattle.std.proofs.lemmas.Option.{same_Some}
use Rattle.lx_num.specs.Ints.{unsigned, modulo, wrapped, Fits}
use Rattle.lx_num.proofs.Ranges.{fits_pos, wrap_bits_same}
use Rattle.lx_circuit.specs.Places.{Place, Values, At, Word, Kept}
use Rattle.lx_circuit.specs.Values.{count_of}
use Rattle.lx_circuit.specs.Statements.{piece, result}
use Rattle.lx_circuit.specs.Memories.{laid_parts}
use Rattle.lx_circuit.specs.Circuit.{Role, Input, Comb, Sync, Read, Undriven, role, made, shapes, memory_at, IsSettled, next_state, next_word, first_state}
use Rattle.lx_circuit.specs.Reads.{role_reads, reads_in, reads_block}
use Rattle.lx_circuit.specs.Fitting.{IsMade, KeepsShapes, InputsFit, StateFits, ValuesFit}
use Rattle.lx_circuit.specs.Runs.{Same, Extends, Matches, Simulates}
use Rattle.lx_circuit.specs.Instances.{reading, registered}
use Rattle.lx_circuit.proofs.Fitting.{settled_fits}
use Rattle.lx_circuit.proofs.Instances.{rank}
use Rattle.lx_circuit.proofs.Orders.{order_by_statements}
use Rattle.lx_circuit.proofs.Runs.{extends_by, steps_with}
use Rattle.lx_circuit.proofs.Whole.{whole_assigned}

-- the register has what the port keeps, and the words are the same
to : Place → Option Place
to (At x) = None
to (Word m k) = Some (Word m k)
to (Kept zero) = Some (At 4)
to (Kept (suc j)) = None

matches : (s t : Values) → ((m k : ℕ) → s (Word m k) ≡ t (Word m k)) → s (Kept 0) ≡ t (At 4) → Matches to s t
unfolding to
matches s t words kept (At x) q e = absurd cc
matches s t words kept (Word m k) q e = subst (λ r. s (Word m k) ≡ t r) (same_Some _ _ e) (words m k)
matches s t words kept (Kept zero) q e = subst (λ r. s (Kept 0) ≡ t r) (same_Some _ _ e) kept
matches s t words kept (Kept (suc j)) q e = absurd cc

-- ---- orders and shapes

no_signal : (z : ℕ) (r : Role) → role_reads reading (At z) r ≡ false
no_signal z Input = refl
no_signal z Comb = refl
no_signal z (Sync d) = refl
no_signal z (Read zero) = refl
no_signal z (Read (suc j)) = refl
no_signal z Undriven = refl

after : (x : ℕ) (y : Place) → reads_in reading x y ≡ true → rank y < rank (At x)
after x (At z) e = absurd (let n = no_signal z (role reading x) in cc)
after x (Word m k) e = omega arith
after x (Kept j) e = omega arith

-- dat_r stands after the register
abbrev rank_beside : Place → ℕ
rank_beside (At x) = cond (nat_eq 1 x) 1 0
rank_beside (Word m k) = 0
rank_beside (Kept j) = 0

after_beside : (x : ℕ) (y : Place) → reads_block x y registered.comb ≡ true → rank_beside y < rank_beside (At x)
after_beside x (At z) e =
    let p = and_parts (nat_eq 1 x) (nat_eq 4 z || false) (sym (or-false (nat_eq 1 x && (nat_eq 4 z || false))) ∙ e) in
    let q = eqb-true 4 z (sym (or-false (nat_eq 4 z)) ∙ p.1) in
    let low : rank_beside (At z) ≡ 0 = ap (λ (n : ℕ). rank_beside (At n)) (sym q) in
    let high : rank_beside (At x) ≡ 1 = cond-true {A = ℕ} (nat_eq 1 x) 1 0 p.0 in
    omega arith
after_beside x (Word m k) e = absurd (let p = and_parts (nat_eq 1 x) false (sym (or-false (nat_eq 1 x && false)) ∙ e) in cc)
after_beside x (Kept j) e = absurd (let p = and_parts (nat_eq 1 x) false (sym (or-false (nat_eq 1 x && false)) ∙ e) in cc)

signal_made : (x : ℕ) → IsMade (made reading x)
signal_made zero = record { some = omega arith; fits = fits_pos 1 0 (omega arith) }
signal_made (suc zero) = record { some = omega arith; fits = fits_pos 8 0 (omega arith) }
signal_made (suc (suc zero)) = record { some = omega arith; fits = fits_pos 8 0 (omega arith) }
signal_made (suc (suc (suc zero))) = record { some = omega arith; fits = fits_pos 1 0 (omega arith) }
signal_made (suc (suc (suc (suc x)))) = record { some = omega arith; fits = fits_pos 1 0 (omega arith) }

keeps : KeepsShapes reading
keeps = record { each = signal_made }

-- ---- one step

below_four : (v w : Values) → v (At 0) ≡ w (At 0) → v (At 1) ≡ w (At 1) → v (At 2) ≡ w (At 2) → v (At 3) ≡ w (At 3) → (x : ℕ) → x < 4 → v (At x) ≡ w (At x)
below_four v w a b c d zero h = a
below_four v w a b c d (suc zero) h = b
below_four v w a b c d (suc (suc zero)) h = c
below_four v w a b c d (suc (suc (suc zero))) h = d
below_four v w a b c d (suc (suc (suc (suc x)))) h = absurd (omega arith)

-- settled values are the same on the signals and words of the first circuit
settled_same : (s t i v w : Values) → Matches to s t → IsSettled reading s i v → IsSettled registered t i w → Same 4 v w
unfolding to
settled_same s t i v w r p q =
    let kept : v (Kept 0) ≡ w (At 4) = p.each (Kept 0) ∙ (r (Kept 0) (At 4) refl ∙ sym (q.each (At 4))) in
    record {
      signals = below_four v w
          (p.each (At 0) ∙ sym (q.each (At 0)))
          (p.each (At 1) ∙ (ap (λ z. wrapped (unsigned 8) z) kept ∙ (sym (whole_assigned (shapes registered) 1 (pos 0) (w (At 4))) ∙ sym (q.each (At 1)))))
          (p.each (At 2) ∙ sym (q.each (At 2)))
          (p.each (At 3) ∙ sym (q.each (At 3)));
      words = λ m k. p.each (Word m k) ∙ (ap (λ z. cond (nat_lt k (memory_at reading m).depth) z (pos 0)) (r (Word m k) (Word m k) refl) ∙ sym (q.each (Word m k)));
    }

-- a word after the port's write, by what adr, we and dat_w are
abbrev word_after : (ℕ → Bool) → ℕ → ℕ → ℤ → ℤ → ℤ → ℤ → ℕ
word_after rises m k adr we from old =
    let n = (memory_at reading m).width in
    let p = modulo old (2 ^ n) in
    cond (nat_eq 0 m && (rises 0 && nat_eq (count_of adr) k)) (laid_parts 8 we from p (n / 8)) p

words_next : (v w : Values) (rises : ℕ → Bool) (m k : ℕ) → Same 4 v w → next_word reading v rises m k ≡ next_word registered w rises m k
words_next v w rises m k h =
    ap (λ z. word_after rises m k z (v (At 3)) (v (At 2)) (v (Word m k))) (h.signals 0 (omega arith))
    ∙ (ap (λ z. word_after rises m k (w (At 0)) z (v (At 2)) (v (Word m k))) (h.signals 3 (omega arith))
    ∙ (ap (λ z. word_after rises m k (w (At 0)) (w (At 3)) z (v (Word m k))) (h.signals 2 (omega arith))
    ∙ ap (λ z. word_after rises m k (w (At 0)) (w (At 3)) (w (At 2)) z) (h.words m k)))

-- what the port keeps is what the register takes
kept_next : (s t v w : Values) (rises : ℕ → Bool) → ValuesFit reading v → s (Kept 0) ≡ t (At 4) → Same 4 v w → next_state reading s v rises (Kept 0) ≡ next_state registered t w rises (At 4)
kept_next s t v w rises f r h =
    let byte = λ (z : ℤ). wrapped (unsigned 8) z in
    let old = v (Word 0 (count_of (v (At 0)))) in
    let new = w (Word 0 (count_of (w (At 0)))) in
    let same : old ≡ new = ap (λ z. v (Word 0 (count_of z))) (h.signals 0 (omega arith)) ∙ h.words 0 (count_of (w (At 0))) in
    let whole : byte old ≡ old = wrap_bits_same 8 false old (omega arith) (f.words 0 (count_of (v (At 0)))) in
    let taken : old ≡ result (shapes registered) 4 (w (At 4)) (piece 4 0 8 (byte new) ∷ []) =
    sym whole ∙ (ap byte (sym whole) ∙ (ap (λ z. byte (byte z)) same ∙ sym (whole_assigned (shapes registered) 4 (w (At 4)) (byte new)))) in
    ap₂ (λ x y. cond (rises 0) x y) taken r

step : (s t i v w : Values) → StateFits reading s → InputsFit reading i → Matches to s t → IsSettled reading s i v → IsSettled registered t i w
    → Same 4 v w × ((rises : ℕ → Bool) → Matches to (next_state reading s v rises) (next_state registered t w rises))
unfolding to
step s t i v w f k r p q =
    let same = settled_same s t i v w r p q in
    let fits = settled_fits reading keeps s i v f k p in (
      same,
      λ rises. matches (next_state reading s v rises) (next_state registered t w rises) (λ m j. ap pos (words_next v w rises m j same)) (kept_next s t v w rises fits (r (Kept 0) (At 4) refl) same),
    )

-- ---- the extension

-- the inputs of both are adr, dat_w and we
no_input : (x : ℕ) → role registered (suc (suc (suc (suc (suc x))))) ≡ Undriven
no_input x =
    let y = suc (suc (suc (suc (suc x)))) in
    rw (ne_eqb 1 y (λ e. omega arith), ne_eqb 4 y (λ e. omega arith), ne_eqb 0 y (λ e. omega arith), ne_eqb 2 y (λ e. omega arith), ne_eqb 3 y (λ e. omega arith)) refl

input_fits : (i : Values) → InputsFit reading i → (x : ℕ) → role registered x ≡ Input → Fits (shapes registered x) (i (At x))
input_fits i f zero e = f.each 0 refl
input_fits i f (suc zero) e = absurd cc
input_fits i f (suc (suc zero)) e = f.each 2 refl
input_fits i f (suc (suc (suc zero))) e = f.each 3 refl
input_fits i f (suc (suc (suc (suc zero)))) e = absurd cc
input_fits i f (suc (suc (suc (suc (suc x))))) e = absurd (let n = no_input x in cc)

inputs_fit : (i : Values) → InputsFit reading i → InputsFit registered i
inputs_fit i f = record { each = input_fits i f }

simulates : Simulates 4 reading registered (Matches to)
simulates = record {
  keeps = keeps;
  order = record { rank = rank; after = after };
  other_order = order_by_statements registered refl rank_beside after_beside;
  inputs = inputs_fit;
  first = matches (first_state reading) (first_state registered) (λ m k. refl) refl;
  step = step;
}

pub registered_extends : Extends 4 reading registered
registered_extends = extends_by 4 reading registered (Matches to) (steps_with 4 reading registered (Matches to) simulates)
