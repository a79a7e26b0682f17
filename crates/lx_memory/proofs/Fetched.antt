-- The value of a read that asks for the depth is the word at the address.
use Rattle.std.proofs.Common.{◌≡◌, ℕ, ℤ, pos, negsuc, ◌<◌, ◌≤◌, ◌^◌, Bool, true, false, refl, sym, ap, subst, ◌∙◌, nat_lt, cond}
use Rattle.std.specs.Prelude.{int_lt}
use Rattle.std.proofs.lemmas.Bool.{ltb-true}
use Rattle.lx_num.specs.declared.Shape.{Shape}
use Rattle.lx_num.specs.Ints.{FitsBits, wrapped}
use Rattle.lx_num.proofs.Ranges.{FitsBits-wrap_bits, fits_pos, wrap_bits_same}
use Rattle.lx_tables.specs.declared.operators.Op.TheVariants as op
use Rattle.lx_circuit.specs.Circuit.{Circuit, memory_at, shapes}
use Rattle.lx_circuit.specs.Memories.{Mode, Async, WriteFirst, ReadFirst, NoChange, Port, shown}
use Rattle.lx_circuit.specs.Places.{Values, At, Word, Kept}
use Rattle.lx_circuit.specs.Shapes.{Shapes}
use Rattle.lx_circuit.specs.Terms.{Constant, Signal, Binary, Mux, Fetch}
use Rattle.lx_circuit.specs.Values.{count_of, flag, mux_value, value_of}
use Rattle.lx_memory.specs.Lowers.{keeps_some}
use Rattle.lx_memory.specs.Ports.{reads, word_at, word_shape}

-- a number that fits is wrapped to itself
wrapped_fitting : (a : Shape) (k : ℕ) → a.signed ≡ false → 1 ≤ a.bits → k < 2 ^ a.bits → wrapped a (pos k) ≡ pos k
wrapped_fitting a k plain some h = wrap_bits_same a.bits a.signed (pos k) some (subst (λ s. FitsBits a.bits s (pos k)) (sym plain) (fits_pos a.bits k h))

pub wrapped_twice : (a : Shape) (z : ℤ) → 1 ≤ a.bits → wrapped a (wrapped a z) ≡ wrapped a z
wrapped_twice a z h = wrap_bits_same a.bits a.signed (wrapped a z) h (FitsBits-wrap_bits a.bits a.signed z h)

-- words past a depth are 0
abbrev pub PastIsZero : Values → ℕ → ℕ → Type 0
PastIsZero w m depth = (k : ℕ) → nat_lt k depth ≡ false → w (Word m k) ≡ pos 0

guarded : (a : Shape) (m depth : ℕ) (w : Values) (z : ℤ) → PastIsZero w m depth → (b : Bool) → int_lt z (pos depth) ≡ b
    → mux_value (flag b) (wrapped a (w (Word m (count_of z)))) (wrapped a (pos 0)) ≡ wrapped a (w (Word m (count_of z)))
guarded a m depth w z past true e = refl
guarded a m depth w (pos k) past false e = ap (λ y. wrapped a y) (sym (past k e))
guarded a m depth w (negsuc k) past false e = absurd cc

-- the word at the address that the signal x has
pub word_value : (c : Circuit) (s : Shapes) (q : Port) (x : ℕ) (w : Values) → (shapes c q.adr).signed ≡ false → 1 ≤ (shapes c q.adr).bits → PastIsZero w q.memory (memory_at c q.memory).depth
    → value_of s w (word_at c q x) ≡ wrapped (word_shape c q) (w (Word q.memory (count_of (w (At x)))))
word_value c s q x w plain some past = by_answer (nat_lt (memory_at c q.memory).depth (2 ^ (shapes c q.adr).bits)) refl
  where
    by_answer : (t : Bool) → nat_lt (memory_at c q.memory).depth (2 ^ (shapes c q.adr).bits) ≡ t
        → value_of s w (cond t (Mux (Binary op.Lt (Signal x) (Constant (pos (memory_at c q.memory).depth) (shapes c q.adr))) (Fetch q.memory (memory_at c q.memory).width (Signal x)) (Constant (pos 0) (word_shape c q))) (Fetch q.memory (memory_at c q.memory).width (Signal x)))
        ≡ wrapped (word_shape c q) (w (Word q.memory (count_of (w (At x)))))
    by_answer false e = refl
    by_answer true e =
        ap (λ y. mux_value (flag (int_lt (w (At x)) y)) (wrapped (word_shape c q) (w (Word q.memory (count_of (w (At x)))))) (wrapped (word_shape c q) (pos 0)))
        (wrapped_fitting (shapes c q.adr) (memory_at c q.memory).depth plain some (ltb-true (memory_at c q.memory).depth (2 ^ (shapes c q.adr).bits) e))
        ∙ guarded (word_shape c q) q.memory (memory_at c q.memory).depth w (w (At x)) past (int_lt (w (At x)) (pos (memory_at c q.memory).depth)) refl

-- what dat_r is, is what the port shows, where the register x has what the port keeps
pub reads_shown : (c : Circuit) (s : Shapes) (j x : ℕ) (q : Port) (v w : Values) (m : Mode) → (shapes c q.adr).signed ≡ false → 1 ≤ (shapes c q.adr).bits → 1 ≤ (word_shape c q).bits
    → PastIsZero w q.memory (memory_at c q.memory).depth → v (At q.adr) ≡ w (At q.adr) → ((k : ℕ) → v (Word q.memory k) ≡ w (Word q.memory k)) → (keeps_some m ≡ true → v (Kept j) ≡ w (At x))
    → wrapped (word_shape c q) (shown v j q m) ≡ wrapped (word_shape c q) (value_of s w (reads c q x m))
reads_shown c s j x q v w Async plain bits width past adr words kept =
    ap (λ z. wrapped (word_shape c q) z) (ap (λ z. v (Word q.memory (count_of z))) adr ∙ words (count_of (w (At q.adr))))
    ∙ (sym (wrapped_twice (word_shape c q) (w (Word q.memory (count_of (w (At q.adr))))) width)
    ∙ ap (λ z. wrapped (word_shape c q) z) (sym (word_value c s q q.adr w plain bits past)))
reads_shown c s j x q v w WriteFirst plain bits width past adr words kept =
    ap (λ z. wrapped (word_shape c q) z) (ap (λ z. v (Word q.memory (count_of z))) (kept refl) ∙ words (count_of (w (At x))))
    ∙ (sym (wrapped_twice (word_shape c q) (w (Word q.memory (count_of (w (At x))))) width)
    ∙ ap (λ z. wrapped (word_shape c q) z) (sym (word_value c s q x w plain bits past)))
reads_shown c s j x q v w ReadFirst plain bits width past adr words kept = ap (λ z. wrapped (word_shape c q) z) (kept refl)
reads_shown c s j x q v w NoChange plain bits width past adr words kept = ap (λ z. wrapped (word_shape c q) z) (kept refl)
