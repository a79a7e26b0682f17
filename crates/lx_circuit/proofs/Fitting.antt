-- The values of a circuit fit: signals their shapes, words the width of their memories, and so what ports show.
use Rattle.std.proofs.Common.{◌≡◌, ℕ, ℤ, pos, Bool, List, [], ◌∷◌, Option, Some, None, ◌+◌, ◌-◌, ◌*◌, ◌/◌, ◌^◌, ◌%◌, ◌<◌, ◌≤◌, ◌&&◌, cond, not, nat_lt, nat_eq, zero, suc, refl, sym, subst, arith}
use Rattle.std.proofs.lemmas.Nat.{mod_below, div_below, mul-add-lt, pow_pos, pow-add}
use Rattle.std.proofs.Math.Nat.{mul-suc, mul-div-le}
use Rattle.std.proofs.lemmas.Bool.{cond_both}
use Rattle.lx_num.specs.Ints.{Fits, unsigned, modulo, floor_div, field_of}
use Rattle.lx_num.proofs.Ints.{modulo-below, pow_split}
use Rattle.lx_num.proofs.Ranges.{FitsBits-read_bits, fits_pos}
use Rattle.lx_circuit.specs.Places.{Values, At, Word, Kept}
use Rattle.lx_circuit.specs.Values.{count_of}
use Rattle.lx_circuit.specs.Statements.{Piece, result, after_pieces, taken_block, laid_over}
use Rattle.lx_circuit.specs.Memories.{Port, Writer, Mode, Async, WriteFirst, ReadFirst, NoChange, shown, here, addressed, keeps, writes_any, laid_parts, laid_by, writes_to, written, rises_in}
use Rattle.lx_circuit.specs.Circuit.{Circuit, Role, Input, Comb, Sync, Read, Undriven, role, by_role, by_place, made, shapes, memory_at, port_at, is_reset, risen, next, next_word, next_kept, next_state, first_state, first_word, domain_at, IsSettled, Step, ViewFrom, IsView}
use Rattle.lx_circuit.specs.Fitting.{KeepsShapes, InputsFit, StepsFit, WordFits, KeptFits, StateFits, ValuesFit}

-- ---- words

-- a pattern of w bits stays one where bits inside it are laid over
pub laid_over_below : (w p low len : ℕ) (z : ℤ) → low + len ≤ w → p < 2 ^ w → laid_over p low len z < 2 ^ w
laid_over_below w p low len z l h =
    let m = modulo z (2 ^ len) in
    let top : p / 2 ^ (low + len) < 2 ^ (w - (low + len)) = div_below p (2 ^ (low + len)) (2 ^ (w - (low + len))) (pow_pos (low + len)) (omega (arith, pow_split (low + len) w l)) in
    let inside = mul-add-lt m (2 ^ low) (p % 2 ^ low) (2 ^ len) (modulo-below z (2 ^ len) (pow_pos len)) (mod_below p (2 ^ low) (pow_pos low)) in
    let below : p % 2 ^ low + 2 ^ low * m < 2 ^ (low + len) = omega (arith, inside, pow-add 2 low len) in
    omega (arith, mul-add-lt (p / 2 ^ (low + len)) (2 ^ (low + len)) (p % 2 ^ low + 2 ^ low * m) (2 ^ (w - (low + len))) top below, pow_split (low + len) w l)

laid_parts_below : (w part : ℕ) (we z : ℤ) (p n : ℕ) → part * n ≤ w → p < 2 ^ w → laid_parts part we z p n < 2 ^ w
laid_parts_below w part we z p zero l h = h
laid_parts_below w part we z p (suc i) l h =
    let q = laid_parts part we z p i in
    let k : q < 2 ^ w = laid_parts_below w part we z p i (omega (arith, mul-suc part i)) h in
    cond_both (nat_eq (field_of we i 1) 1) (laid_over q (part * i) part (floor_div z (2 ^ (part * i)))) q (λ r. r < 2 ^ w)
    (λ e. laid_over_below w q (part * i) part (floor_div z (2 ^ (part * i))) (omega (arith, mul-suc part i)) k)
    (λ e. k)

laid_by_below : (v : Values) (w p : ℕ) (o : Option Writer) → p < 2 ^ w → laid_by v w p o < 2 ^ w
laid_by_below v w p None h = h
laid_by_below v w p (Some x) h = laid_parts_below w x.part (v (At x.we)) (v (At x.from)) p (w / x.part) (mul-div-le w x.part) h

pub written_below : (v : Values) (rises : ℕ → Bool) (m w k : ℕ) (qs : List Port) (p : ℕ) → p < 2 ^ w → written v rises m w k qs p < 2 ^ w
written_below v rises m w k [] p h = h
written_below v rises m w k (q ∷ qs) p h =
    written_below v rises m w k qs (cond (writes_to v rises m k q) (laid_by v w p q.writer) p)
    (cond_both (writes_to v rises m k q) (laid_by v w p q.writer) p (λ r. r < 2 ^ w) (λ e. laid_by_below v w p q.writer h) (λ e. h))

zero_fits : (n : ℕ) → Fits (unsigned n) (pos 0)
zero_fits n = fits_pos n 0 (pow_pos n)

-- ---- what ports show and keep

shown_fits : (c : Circuit) (v : Values) → ((m k : ℕ) → WordFits c m (v (Word m k))) → (j : ℕ) (q : Port) (mode : Mode) → KeptFits c q.memory mode (v (Kept j)) → WordFits c q.memory (shown v j q mode)
shown_fits c v h j q Async k = h q.memory (addressed v q)
shown_fits c v h j q WriteFirst k = h q.memory (count_of (v (Kept j)))
shown_fits c v h j q ReadFirst k = k
shown_fits c v h j q NoChange k = k

keeps_fits : (c : Circuit) (v : Values) → ((m k : ℕ) → WordFits c m (v (Word m k))) → (old : ℤ) (q : Port) (mode : Mode) → KeptFits c q.memory mode old → KeptFits c q.memory mode (keeps v old q mode)
keeps_fits c v h old q Async k = tt
keeps_fits c v h old q WriteFirst k = tt
keeps_fits c v h old q ReadFirst k = h q.memory (addressed v q)
keeps_fits c v h old q NoChange k = cond_both (writes_any v q.writer) old (here v q) (λ z. WordFits c q.memory z) (λ e. k) (λ e. h q.memory (addressed v q))

zero_kept : (c : Circuit) (m : ℕ) (mode : Mode) → KeptFits c m mode (pos 0)
zero_kept c m Async = tt
zero_kept c m WriteFirst = tt
zero_kept c m ReadFirst = zero_fits (memory_at c m).width
zero_kept c m NoChange = zero_fits (memory_at c m).width

-- ---- settled values

pub result_fits : (c : Circuit) → KeepsShapes c → (x : ℕ) (start : ℤ) (ps : List Piece) → Fits (shapes c x) (result (shapes c) x start ps)
result_fits c k x start ps =
    let n = (shapes c x).bits in
    FitsBits-read_bits n (shapes c x).signed (after_pieces x (modulo start (2 ^ n)) ps % 2 ^ n) (k.each x).some (mod_below (after_pieces x (modulo start (2 ^ n)) ps) (2 ^ n) (pow_pos n))

by_role_fits : (c : Circuit) → KeepsShapes c → (state inputs v : Values) → StateFits c state → InputsFit c inputs → (x : ℕ) (r : Role) → role c x ≡ r → Fits (shapes c x) (by_role c state inputs v x r)
by_role_fits c k state inputs v s i x Input e = i.each x e
by_role_fits c k state inputs v s i x Comb e = result_fits c k x (made c x).reset (taken_block (shapes c) v c.comb)
by_role_fits c k state inputs v s i x (Sync d) e = s.signals x
by_role_fits c k state inputs v s i x (Read j) e =
    let n = (shapes c x).bits in
    let z = shown v j (port_at c j) (port_at c j).mode in
    FitsBits-read_bits n (shapes c x).signed (modulo z (2 ^ n)) (k.each x).some (modulo-below z (2 ^ n) (pow_pos n))
by_role_fits c k state inputs v s i x Undriven e = (k.each x).fits

word_fits : (c : Circuit) (state inputs v : Values) → StateFits c state → (m k : ℕ) → WordFits c m (by_place c state inputs v (Word m k))
word_fits c state inputs v s m k = cond_both (nat_lt k (memory_at c m).depth) (state (Word m k)) (pos 0) (λ z. WordFits c m z) (λ e. s.words m k) (λ e. zero_fits (memory_at c m).width)

settled_words : (c : Circuit) (state inputs v : Values) → StateFits c state → IsSettled c state inputs v → (m k : ℕ) → WordFits c m (v (Word m k))
settled_words c state inputs v s p m k = subst (λ z. WordFits c m z) (sym (p.each (Word m k))) (word_fits c state inputs v s m k)

settled_kept : (c : Circuit) (state inputs v : Values) → StateFits c state → IsSettled c state inputs v → (j : ℕ) → KeptFits c (port_at c j).memory (port_at c j).mode (v (Kept j))
settled_kept c state inputs v s p j = subst (λ z. KeptFits c (port_at c j).memory (port_at c j).mode z) (sym (p.each (Kept j))) (s.kept j)

pub settled_fits : (c : Circuit) → KeepsShapes c → (state inputs v : Values) → StateFits c state → InputsFit c inputs → IsSettled c state inputs v → ValuesFit c v
settled_fits c k state inputs v s i p = record {
  signals = λ x. subst (λ z. Fits (shapes c x) z) (sym (p.each (At x))) (by_role_fits c k state inputs v s i x (role c x) refl);
  words = settled_words c state inputs v s p;
  shown = λ j. shown_fits c v (settled_words c state inputs v s p) j (port_at c j) (port_at c j).mode (settled_kept c state inputs v s p j);
}

-- ---- steps

next_fits : (c : Circuit) → KeepsShapes c → (state v : Values) (rises : ℕ → Bool) → StateFits c state → (x : ℕ) (r : Role) → Fits (shapes c x) (next c state v rises x r)
next_fits c k state v rises s x Input = s.signals x
next_fits c k state v rises s x Comb = s.signals x
next_fits c k state v rises s x (Sync d) =
    let own = domain_at c d in
    cond_both (rises d) (risen c v own x) (state (At x)) (λ z. Fits (shapes c x) z)
    (λ e. cond_both (is_reset v own.reset && not (made c x).reset_less) (made c x).reset (result (shapes c) x (v (At x)) (taken_block (shapes c) v own.stmts)) (λ z. Fits (shapes c x) z) (λ f. (k.each x).fits) (λ f. result_fits c k x (v (At x)) (taken_block (shapes c) v own.stmts)))
    (λ e. s.signals x)
next_fits c k state v rises s x (Read j) = s.signals x
next_fits c k state v rises s x Undriven = s.signals x

next_word_fits : (c : Circuit) (v : Values) (rises : ℕ → Bool) (m k : ℕ) → WordFits c m (pos (next_word c v rises m k))
next_word_fits c v rises m k =
    let n = (memory_at c m).width in
    fits_pos n (next_word c v rises m k) (written_below v rises m n k c.ports (modulo (v (Word m k)) (2 ^ n)) (modulo-below (v (Word m k)) (2 ^ n) (pow_pos n)))

next_kept_fits : (c : Circuit) (state v : Values) (rises : ℕ → Bool) → StateFits c state → ((m k : ℕ) → WordFits c m (v (Word m k))) → (j : ℕ) → KeptFits c (port_at c j).memory (port_at c j).mode (next_kept state v rises j (port_at c j))
next_kept_fits c state v rises s h j =
    let q = port_at c j in
    cond_both (rises_in rises q.domain) (keeps v (state (Kept j)) q q.mode) (state (Kept j)) (λ z. KeptFits c q.memory q.mode z) (λ e. keeps_fits c v h (state (Kept j)) q q.mode (s.kept j)) (λ e. s.kept j)

pub next_state_fits : (c : Circuit) → KeepsShapes c → (state v : Values) (rises : ℕ → Bool) → StateFits c state → ValuesFit c v → StateFits c (next_state c state v rises)
next_state_fits c k state v rises s f = record {
  signals = λ x. next_fits c k state v rises s x (role c x);
  words = λ m j. next_word_fits c v rises m j;
  kept = next_kept_fits c state v rises s f.words;
}

pub first_state_fits : (c : Circuit) → KeepsShapes c → StateFits c (first_state c)
first_state_fits c k = record {
  signals = λ x. (k.each x).fits;
  words = λ m j. let n = (memory_at c m).width in fits_pos n (first_word (memory_at c m) j) (mod_below _ (2 ^ n) (pow_pos n));
  kept = λ j. zero_kept c (port_at c j).memory (port_at c j).mode;
}

-- the values of a view from a state
from_fits : (c : Circuit) → KeepsShapes c → (steps : List Step) (state inputs v : Values) → StateFits c state → StepsFit c steps → InputsFit c inputs → ViewFrom c state steps inputs v → ValuesFit c v
from_fits c k [] state inputs v s f i p = settled_fits c k state inputs v s i p
from_fits c k (t ∷ ts) state inputs v s f i p =
    from_fits c k ts (next_state c state p.0 t.rises) inputs v (next_state_fits c k state p.0 t.rises s (settled_fits c k state t.inputs p.0 s f.0 p.1)) f.1 i p.2

pub view_fits : (c : Circuit) → KeepsShapes c → (steps : List Step) (inputs : Values) → StepsFit c steps → InputsFit c inputs → (v : Values) → IsView c steps inputs v → ValuesFit c v
view_fits c k steps inputs f i v p = from_fits c k steps (first_state c) inputs v (first_state_fits c k) f i p
