-- Where no port shows anything, those that don't write can go.
use Rattle.std.proofs.Common.{◌≡◌, ℕ, pos, ◌+◌, ◌&&◌, ◌^◌, Bool, true, false, List, [], ◌∷◌, Option, Some, None, refl, sym, ap, ap₂, ◌∙◌, nat_lt, not, cond}
use Rattle.std.specs.Prelude.{IfSome, is_some, map}
use Rattle.std.specs.List.{filter}
use Rattle.std.proofs.lemmas.Bool.{or_left, or_parts}
use Rattle.lx_num.specs.Ints.{modulo}
use Rattle.lx_circuit.specs.Circuit.{Circuit, Domain, Role, Input, Comb, Sync, Read, Undriven, IsSettled, by_place, by_role, domain_at, idle_role, is_named, is_reset, made, memory_at, next, next_state, next_word, risen, role, shapes, sync_role, read_role}
use Rattle.lx_circuit.specs.Fitting.{KeepsShapes}
use Rattle.lx_circuit.specs.Memories.{Port, Writer, laid_by, written, writes_to}
use Rattle.lx_circuit.specs.Places.{Place, Values, At, Word, Kept}
use Rattle.lx_circuit.specs.Reads.{HasOrder, reads_block, role_reads}
use Rattle.lx_circuit.specs.Runs.{Extends, Same, StepsWith}
use Rattle.lx_circuit.specs.Statements.{Block, drives_block, result, taken_block}
use Rattle.lx_circuit.proofs.BlockLocality.{block_alike}
use Rattle.lx_circuit.proofs.Orders.{order_by_statements, some_reader}
use Rattle.lx_circuit.proofs.Runs.{extends_by}
use Rattle.lx_memory.specs.Ports.{silent, with_ports, writers}
use Rattle.lx_memory.proofs.Roles.{none_reads, read_none}
use Rattle.lx_memory.proofs.Stepped.{PortSame, is_reset_same, written_same}

-- the circuit with the ports that write
abbrev pub written_alone : Circuit → Circuit
written_alone c = with_ports c (writers c.ports)

-- ---- ports

named_none : (x : ℕ) (o : Option ℕ) → is_some o ≡ false → is_named x o ≡ false
named_none x None e = refl
named_none x (Some r) e = absurd cc

none_of : (x : ℕ) (qs : List Port) → some_reader qs ≡ false → none_reads x qs ≡ true
none_of x [] e = refl
none_of x (q ∷ qs) e =
    let p = or_parts (is_some q.reader) (some_reader qs) e in
    ap (λ t. cond t false (none_reads x qs)) (named_none x q.reader p.0) ∙ none_of x qs p.1

-- one port of the ports that write
pub writer_step : (q : Port) (qs : List Port) → writers (q ∷ qs) ≡ cond (is_some q.writer) (silent q ∷ writers qs) (writers qs)
writer_step q qs = by_answer (is_some q.writer)
  where
    by_answer : (t : Bool) → map silent (cond t (q ∷ filter (λ (p : Port). is_some p.writer) qs) (filter (λ (p : Port). is_some p.writer) qs)) ≡ cond t (silent q ∷ writers qs) (writers qs)
    by_answer true = refl
    by_answer false = refl

pub writers_silent : (qs : List Port) → some_reader (writers qs) ≡ false
writers_silent [] = refl
writers_silent (q ∷ qs) = ap some_reader (writer_step q qs) ∙ by_answer (is_some q.writer) (writers_silent qs)
  where
    by_answer : (t : Bool) → some_reader (writers qs) ≡ false → some_reader (cond t (silent q ∷ writers qs) (writers qs)) ≡ false
    by_answer true more = more
    by_answer false more = more

laid_none : (v : Values) (width p : ℕ) (o : Option Writer) (t : Bool) → is_some o ≡ false → cond t (laid_by v width p o) p ≡ p
laid_none v width p None true e = refl
laid_none v width p None false e = refl
laid_none v width p (Some u) t e = absurd cc

written_writers : (v : Values) (rises : ℕ → Bool) (m width k : ℕ) (qs : List Port) (p : ℕ) → written v rises m width k (writers qs) p ≡ written v rises m width k qs p
written_writers v rises m width k [] p = refl
written_writers v rises m width k (q ∷ qs) p = ap (λ l. written v rises m width k l p) (writer_step q qs) ∙ by_answer (is_some q.writer) (written_writers v rises m width k qs) refl
  where
    by_answer : (t : Bool) → ((r : ℕ) → written v rises m width k (writers qs) r ≡ written v rises m width k qs r) → is_some q.writer ≡ t
        → written v rises m width k (cond t (silent q ∷ writers qs) (writers qs)) p ≡ written v rises m width k (q ∷ qs) p
    by_answer true more e = more (cond (writes_to v rises m k q) (laid_by v width p q.writer) p)
    by_answer false more e = more p ∙ ap (λ n. written v rises m width k qs n) (sym (laid_none v width p q.writer (writes_to v rises m k q) e))

-- ---- values

-- the same signals and words
record Equal (v w : Values) : Type 0 where
  signals : (x : ℕ) → v (At x) ≡ w (At x)
  words : (m k : ℕ) → v (Word m k) ≡ w (Word m k)

-- those of the one, beside what is kept in another
abbrev joint : Values → Values → Values
joint v s (At x) = v (At x)
joint v s (Word m k) = v (Word m k)
joint v s (Kept j) = s (Kept j)

equal_port : (v w : Values) (q : Port) → Equal v w → PortSame v w q
equal_port v w q h = record { adr = h.signals q.adr; writer = by_writer q.writer }
  where
    by_writer : (o : Option Writer) → IfSome o (λ u. (v (At u.from) ≡ w (At u.from)) × (v (At u.we) ≡ w (At u.we)))
    by_writer None = tt
    by_writer (Some u) = (h.signals u.from, h.signals u.we)

equal_taken : (c : Circuit) (v w : Values) (b : Block) → Equal v w → taken_block (shapes c) v b ≡ taken_block (shapes c) w b
equal_taken c v w b h = block_alike (shapes c) (shapes c) v w b (record { shapes = λ x e. refl; signals = λ x e. h.signals x; words = λ m k e. h.words m k })

-- ---- roles

same_role : (c : Circuit) (x : ℕ) → some_reader c.ports ≡ false → role c x ≡ role (written_alone c) x
same_role c x e =
    let read = read_none x 0 c.ports (idle_role c x) (none_of x c.ports e) ∙ sym (read_none x 0 (writers c.ports) (idle_role c x) (none_of x (writers c.ports) (writers_silent c.ports))) in
    ap (λ r. cond (drives_block x c.comb) Comb (sync_role x 0 c.domains r)) read

abbrev is_no_read : Role → Bool
is_no_read (Read j) = false
is_no_read _ = true

sync_no_read : (x n : ℕ) (ds : List Domain) (other : Role) → is_no_read other ≡ true → is_no_read (sync_role x n ds other) ≡ true
sync_no_read x n [] other e = e
sync_no_read x n (d ∷ ds) other e = by_answer (drives_block x d.stmts) (sync_no_read x (n + 1) ds other e)
  where
    by_answer : (t : Bool) → is_no_read (sync_role x (n + 1) ds other) ≡ true → is_no_read (cond t (Sync n) (sync_role x (n + 1) ds other)) ≡ true
    by_answer true more = refl
    by_answer false more = more

idle_no_read : (given open_ : Bool) → is_no_read (cond given Undriven (cond open_ Input Undriven)) ≡ true
idle_no_read true open_ = refl
idle_no_read false true = refl
idle_no_read false false = refl

no_read : (c : Circuit) (x : ℕ) → some_reader c.ports ≡ false → is_no_read (role c x) ≡ true
no_read c x e = by_answer (drives_block x c.comb)
  where
    read : is_no_read (read_role x 0 c.ports (idle_role c x)) ≡ true
    read = ap is_no_read (read_none x 0 c.ports (idle_role c x) (none_of x c.ports e)) ∙ idle_no_read (made c x).given _

    by_answer : (t : Bool) → is_no_read (cond t Comb (sync_role x 0 c.domains (read_role x 0 c.ports (idle_role c x)))) ≡ true
    by_answer true = refl
    by_answer false = sync_no_read x 0 c.domains (read_role x 0 c.ports (idle_role c x)) read

-- ---- one step

by_role_same : (c : Circuit) (s t i v w : Values) (x : ℕ) (r : Role) → is_no_read r ≡ true → Equal s t → Equal v w → by_role c s i v x r ≡ by_role (written_alone c) t i w x r
by_role_same c s t i v w x Input e a h = refl
by_role_same c s t i v w x Comb e a h = ap (λ ps. result (shapes c) x (made c x).reset ps) (equal_taken c v w c.comb h)
by_role_same c s t i v w x (Sync k) e a h = a.signals x
by_role_same c s t i v w x (Read k) e a h = absurd cc
by_role_same c s t i v w x Undriven e a h = refl

signal_same : (c : Circuit) (s t i v w : Values) (x : ℕ) → some_reader c.ports ≡ false → Equal s t → Equal v w → by_place c s i v (At x) ≡ by_place (written_alone c) t i w (At x)
signal_same c s t i v w x e a h = by_role_same c s t i v w x (role c x) (no_read c x e) a h ∙ ap (λ r. by_role (written_alone c) t i w x r) (same_role c x e)

there_settled : (c : Circuit) (s t i v : Values) → some_reader c.ports ≡ false → Equal s t → IsSettled c s i v → (p : Place) → joint v t p ≡ by_place (written_alone c) t i (joint v t) p
there_settled c s t i v e a h (At x) = h.each (At x) ∙ signal_same c s t i v (joint v t) x e a (record { signals = λ y. refl; words = λ m k. refl })
there_settled c s t i v e a h (Word m k) = h.each (Word m k) ∙ ap (λ z. cond (nat_lt k (memory_at c m).depth) z (pos 0)) (a.words m k)
there_settled c s t i v e a h (Kept k) = refl

back_settled : (c : Circuit) (s t i w : Values) → some_reader c.ports ≡ false → Equal s t → IsSettled (written_alone c) t i w → (p : Place) → joint w s p ≡ by_place c s i (joint w s) p
back_settled c s t i w e a h (At x) = h.each (At x) ∙ sym (signal_same c s t i (joint w s) w x e a (record { signals = λ y. refl; words = λ m k. refl }))
back_settled c s t i w e a h (Word m k) = h.each (Word m k) ∙ ap (λ z. cond (nat_lt k (memory_at c m).depth) z (pos 0)) (sym (a.words m k))
back_settled c s t i w e a h (Kept k) = refl

risen_equal : (c : Circuit) (v w : Values) (d : Domain) (x : ℕ) → Equal v w → risen c v d x ≡ risen (written_alone c) w d x
risen_equal c v w d x h =
    ap (λ t. cond (t && not (made c x).reset_less) (made c x).reset (result (shapes c) x (v (At x)) (taken_block (shapes c) v d.stmts))) (is_reset_same v w d.reset (λ r e. h.signals r))
    ∙ ap₂ (λ z ps. cond (is_reset w d.reset && not (made c x).reset_less) (made c x).reset (result (shapes c) x z ps)) (h.signals x) (equal_taken c v w d.stmts h)

next_equal : (c : Circuit) (s t v w : Values) (rises : ℕ → Bool) (x : ℕ) (r : Role) → Equal s t → Equal v w → next c s v rises x r ≡ next (written_alone c) t w rises x r
next_equal c s t v w rises x Input a h = a.signals x
next_equal c s t v w rises x Comb a h = a.signals x
next_equal c s t v w rises x (Sync k) a h = ap₂ (λ y z. cond (rises k) y z) (risen_equal c v w (domain_at c k) x h) (a.signals x)
next_equal c s t v w rises x (Read k) a h = a.signals x
next_equal c s t v w rises x Undriven a h = a.signals x

word_equal : (c : Circuit) (v w : Values) (rises : ℕ → Bool) (m k : ℕ) → Equal v w → next_word c v rises m k ≡ next_word (written_alone c) w rises m k
word_equal c v w rises m k h =
    let n = (memory_at c m).width in
    ap (λ z. written v rises m n k c.ports (modulo z (2 ^ n))) (h.words m k)
    ∙ (written_same v w rises m n k c.ports (modulo (w (Word m k)) (2 ^ n)) (λ j l. equal_port v w _ h)
    ∙ sym (written_writers w rises m n k c.ports (modulo (w (Word m k)) (2 ^ n))))

next_states : (c : Circuit) (s t v w : Values) (rises : ℕ → Bool) → some_reader c.ports ≡ false → Equal s t → Equal v w → Equal (next_state c s v rises) (next_state (written_alone c) t w rises)
next_states c s t v w rises e a h = record {
  signals = λ x. next_equal c s t v w rises x (role c x) a h ∙ ap (λ r. next (written_alone c) t w rises x r) (same_role c x e);
  words = λ m k. ap pos (word_equal c v w rises m k h);
}

equal_same : (n : ℕ) (v w : Values) → Equal v w → Same n v w
equal_same n v w h = record { signals = λ x l. h.signals x; words = h.words }

steps : (n : ℕ) (c : Circuit) → KeepsShapes c → some_reader c.ports ≡ false → StepsWith n c (written_alone c) Equal
steps n c k e =
    let f = written_alone c in
    record {
      keeps = k;
      inputs = λ i g. record { each = λ x r. g.each x (same_role c x e ∙ r) };
      first = record { signals = λ x. refl; words = λ m j. refl };
      there = λ s t i v fits g a p.
          let h : Equal v (joint v t) = record { signals = λ x. refl; words = λ m j. refl } in
          (joint v t, record { each = there_settled c s t i v e a p }, equal_same n v (joint v t) h, λ rises. next_states c s t v (joint v t) rises e a h);
      back = λ s t i w fits g a p.
          let h : Equal (joint w s) w = record { signals = λ x. refl; words = λ m j. refl } in
          (joint w s, record { each = back_settled c s t i w e a p }, equal_same n (joint w s) w h, λ rises. next_states c s t (joint w s) w rises e a h);
    }

pub writers_extend : (n : ℕ) (c : Circuit) → KeepsShapes c → some_reader c.ports ≡ false → Extends n c (written_alone c)
writers_extend n c k e = extends_by n c (written_alone c) Equal (steps n c k e)

pub writers_order : (c : Circuit) → HasOrder c → HasOrder (written_alone c)
writers_order c o = order_by_statements (written_alone c) (writers_silent c.ports) o.rank (λ x y r. o.after x y (or_left (reads_block x y c.comb) (role_reads c y (role c x)) r))

pub writers_inputs : (c : Circuit) (x : ℕ) → some_reader c.ports ≡ false → role c x ≡ Input → role (written_alone c) x ≡ Input
writers_inputs c x e h = sym (same_role c x e) ∙ h

pub writers_inputs_back : (c : Circuit) (x : ℕ) → some_reader c.ports ≡ false → role (written_alone c) x ≡ Input → role c x ≡ Input
writers_inputs_back c x e h = same_role c x e ∙ h
