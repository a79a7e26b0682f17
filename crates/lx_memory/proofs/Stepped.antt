-- Where one port is lowered, the signals, the words and what ports keep step as before, and the register takes what the port
-- keeps.
use Rattle.std.proofs.Common.{◌≡◌, ℕ, ℤ, pos, zero, suc, ◌<◌, ◌≤◌, ◌^◌, ◌&&◌, Bool, true, false, List, [], ◌∷◌, ◌++◌, Option, Some, None, length, refl, sym, ap, ap₂, subst, ◌∙◌, arith, nat_eq, nat_lt, not, cond, eq-eqb}
use Rattle.std.specs.Prelude.{IfSome, IsSomeAnd, slice_index_or}
use Rattle.std.proofs.lemmas.Bool.{and_right, eqb-true, ltb-false, ltb-true, ne_eqb, or_left, or_right}
use Rattle.lx_num.specs.declared.Shape.{Shape}
use Rattle.std.proofs.Math.Nat.{mod-eq_of_lt}
use Rattle.std.proofs.lemmas.Nat.{pow_pos}
use Rattle.lx_num.specs.Ints.{Fits, modulo, read_bits, wrapped}
use Rattle.lx_num.proofs.Ints.{modulo-below}
use Rattle.lx_num.proofs.Ranges.{wrap_bits_same}
use Rattle.lx_circuit.specs.Circuit.{Circuit, Domain, Made, Role, Input, Comb, Sync, Read, Undriven, domain_at, is_named, is_reset, is_some_reset, made, memory_at, next, next_kept, next_word, no_domain, no_port, nothing, port_at, risen, role, shapes}
use Rattle.lx_circuit.specs.Fitting.{KeptFits, ValuesFit}
use Rattle.lx_circuit.specs.Memories.{Mode, Async, WriteFirst, ReadFirst, NoChange, Port, Writer, addressed, here, keeps, laid_by, rises_in, written, writes_any, writes_to}
use Rattle.lx_circuit.specs.Places.{Values, At, Word, Kept}
use Rattle.lx_circuit.specs.Runs.{Same}
use Rattle.lx_circuit.specs.Shapes.{Shapes}
use Rattle.lx_circuit.specs.Statements.{Block, Done, Piece, Assign, Whole, piece, after_pieces, drives_block, result, taken_block}
use Rattle.lx_circuit.specs.Terms.{Signal}
use Rattle.lx_circuit.specs.Values.{count_of, flag, is_zero, value_of}
use Rattle.lx_circuit.proofs.BlockLocality.{result_alike}
use Rattle.lx_circuit.proofs.Cases.{by_test}
use Rattle.lx_circuit.proofs.Frames.{block_leaves}
use Rattle.lx_circuit.proofs.Whole.{whole_assigned}
use Rattle.lx_fhdl.specs.Keeping.{EachOf}
use Rattle.lx_fhdl.specs.Nodes.{IsSmall}
use Rattle.lx_lowering.specs.Flat.{append, one}
use Rattle.lx_lowering.proofs.Appends.{append_done, taken_append}
use Rattle.lx_lowering.proofs.Branches.{fails_value}
use Rattle.lx_memory.specs.Lowers.{NamesBelow, PortFits, keeps_some}
use Rattle.lx_memory.specs.Ports.{changed, register, registers, silent, takes, unwritten, with_stmts, with_sync, word_at, word_shape}
use Rattle.lx_memory.proofs.Changed.{changed_here, changed_there, index_last, index_past}
use Rattle.lx_memory.proofs.Roles.{Shows, drives_past, known, made_before, ported, role_before, role_reader, role_register, takes_others}
use Rattle.lx_memory.proofs.Settled.{StatesMatch, result_after, result_before, taken_same}
use Rattle.lx_memory.proofs.Fetched.{PastIsZero, word_value}

-- ---- domains

-- a domain with further statements, which drive no more than b does
record More (a b : Domain) (so : Block) : Type 0 where
  reset : b.reset ≡ a.reset
  more : Block
  stmts : b.stmts ≡ append a.stmts more
  only : (x : ℕ) → drives_block x so ≡ false → drives_block x more ≡ false

no_more : (a : Domain) (so : Block) → More a a so
no_more a so = record { reset = refl; more = Done; stmts = sym (append_done a.stmts); only = λ x e. refl }

more_at : (so : Block) (k : ℕ) (ds : List Domain) (i : ℕ) → More (slice_index_or ds i no_domain) (slice_index_or (changed (with_stmts so) k ds) i no_domain) so
more_at so k [] i = no_more no_domain so
more_at so zero (d ∷ ds) zero = record { reset = refl; more = so; stmts = refl; only = λ x e. e }
more_at so zero (d ∷ ds) (suc i) = no_more (slice_index_or ds i no_domain) so
more_at so (suc k) (d ∷ ds) zero = no_more d so
more_at so (suc k) (d ∷ ds) (suc i) = more_at so k ds i

more_in : (so : Block) (o : Option ℕ) (ds : List Domain) (i : ℕ) → More (slice_index_or ds i no_domain) (slice_index_or (with_sync ds o so) i no_domain) so
more_in so None ds i = no_more (slice_index_or ds i no_domain) so
more_in so (Some k) ds i = more_at so k ds i

reset_among : (ds : List Domain) (k r : ℕ) → (slice_index_or ds k no_domain).reset ≡ Some r → is_some_reset r ds ≡ true
reset_among [] k r e = absurd cc
reset_among (d ∷ ds) zero r e = or_left (is_named r d.reset) (is_some_reset r ds) (ap (is_named r) e ∙ eq-eqb r r refl)
reset_among (d ∷ ds) (suc k) r e = or_right (is_named r d.reset) (is_some_reset r ds) (reset_among ds k r e)

pub is_reset_same : (v w : Values) (o : Option ℕ) → ((r : ℕ) → o ≡ Some r → v (At r) ≡ w (At r)) → is_reset v o ≡ is_reset w o
is_reset_same v w None h = refl
is_reset_same v w (Some r) h = ap (λ z. not (is_zero z)) (h r refl)

each_at : (P : Domain → Type 0) (ds : List Domain) (k : ℕ) → EachOf P ds → P no_domain → P (slice_index_or ds k no_domain)
each_at P [] k h n = n
each_at P (d ∷ ds) zero h n = h.0
each_at P (d ∷ ds) (suc k) h n = each_at P ds k h.1 n

domain_keeps : (c : Circuit) (j : ℕ) (q : Port) (r k : ℕ) → Shows c j q r → NamesBelow (length c.signals) (domain_at c k).stmts
domain_keeps c j q r k h = each_at (λ (d : Domain). NamesBelow (length c.signals) d.stmts) c.domains k h.can.domains (λ x e. absurd cc)

-- ---- signals of the circuit

-- a clocked signal of the circuit takes the same at a rise
risen_same : (c : Circuit) (j : ℕ) (q : Port) (r x k : ℕ) (v w : Values) → Shows c j q r → Same (length c.signals) v w → x < length c.signals → risen c v (domain_at c k) x ≡ risen (ported c j q r) w (domain_at (ported c j q r) k) x
risen_same c j q r x k v w h m l =
    let d = ported c j q r in
    let n = length c.signals in
    let a = domain_at c k in
    let b = domain_at d k in
    let so = takes c q n q.mode in
    let more = more_in so q.domain c.domains k in
    let made_same = sym (made_before c j q r x l) in
    let reset : is_reset v a.reset ≡ is_reset w b.reset =
    is_reset_same v w a.reset (λ z e. m.signals z (h.can.resets z (reset_among c.domains k z e))) ∙ ap (is_reset w) (sym more.reset) in
    let leaves : (p : ℕ) → after_pieces x p (taken_block (shapes d) w more.more) ≡ p =
    block_leaves (shapes d) w x more.more (more.only x (takes_others c q n q.mode x (ne_eqb n x (λ s. omega arith)))) in
    let value : result (shapes c) x (v (At x)) (taken_block (shapes c) v a.stmts) ≡ result (shapes d) x (w (At x)) (taken_block (shapes d) w b.stmts) =
    ap₂ (λ z ps. result (shapes c) x z ps) (m.signals x l) (taken_same c j q r v w a.stmts h m (domain_keeps c j q r k h))
    ∙ (result_alike (shapes c) (shapes d) x (w (At x)) (taken_block (shapes d) w a.stmts) (ap (λ (z : Made). z.shape) made_same)
    ∙ (sym (result_before (shapes d) x (w (At x)) (taken_block (shapes d) w a.stmts) (taken_block (shapes d) w more.more) leaves)
    ∙ (ap (λ ps. result (shapes d) x (w (At x)) ps) (sym (taken_append (shapes d) w a.stmts more.more))
    ∙ ap (λ z. result (shapes d) x (w (At x)) (taken_block (shapes d) w z)) (sym more.stmts)))) in
    ap (λ t. cond (t && not (made c x).reset_less) (made c x).reset (result (shapes c) x (v (At x)) (taken_block (shapes c) v a.stmts))) reset
    ∙ (ap (λ (z : Made). cond (is_reset w b.reset && not z.reset_less) z.reset (result (shapes c) x (v (At x)) (taken_block (shapes c) v a.stmts))) made_same
    ∙ ap (λ z. cond (is_reset w b.reset && not (made d x).reset_less) (made d x).reset z) value)

next_other : (c : Circuit) (j : ℕ) (q : Port) (r x : ℕ) (s t v w : Values) (rises : ℕ → Bool) → Shows c j q r → StatesMatch (length c.signals) j q.mode s t → Same (length c.signals) v w → x < length c.signals
    → (o : Role) → next c s v rises x o ≡ next (ported c j q r) t w rises x o
next_other c j q r x s t v w rises h a m l Input = a.signals x l
next_other c j q r x s t v w rises h a m l Comb = a.signals x l
next_other c j q r x s t v w rises h a m l (Sync k) = ap₂ (λ y z. cond (rises k) y z) (risen_same c j q r x k v w h m l) (a.signals x l)
next_other c j q r x s t v w rises h a m l (Read k) = a.signals x l
next_other c j q r x s t v w rises h a m l Undriven = a.signals x l

pub next_signal : (c : Circuit) (j : ℕ) (q : Port) (r x : ℕ) (s t v w : Values) (rises : ℕ → Bool) → Shows c j q r → StatesMatch (length c.signals) j q.mode s t → Same (length c.signals) v w → x < length c.signals
    → next c s v rises x (role c x) ≡ next (ported c j q r) t w rises x (role (ported c j q r) x)
next_signal c j q r x s t v w rises h a m l =
    let d = ported c j q r in
    let own = known c j q r h in
    by_test (nat_eq r x)
    (λ e. subst (λ y. next c s v rises y (role c y) ≡ next d t w rises y (role d y)) (eqb-true r x e)
    (ap (λ o. next c s v rises r o) own.alone ∙ (a.signals r own.reader_there ∙ ap (λ o. next d t w rises r o) (sym (role_reader c j q r)))))
    (λ e. next_other c j q r x s t v w rises h a m l (role c x) ∙ ap (λ o. next d t w rises x o) (sym (role_before c j q r x h l e)))

-- ---- words

-- a port's address, and what it writes, are the same
pub record PortSame (v w : Values) (q : Port) : Type 0 where
  pub adr : v (At q.adr) ≡ w (At q.adr)
  pub writer : IfSome q.writer (λ u. (v (At u.from) ≡ w (At u.from)) × (v (At u.we) ≡ w (At u.we)))

writer_same : (v w : Values) (n : ℕ) (o : Option Writer) → Same n v w → IfSome o (λ u. (u.from < n) × (u.we < n)) → IfSome o (λ u. (v (At u.from) ≡ w (At u.from)) × (v (At u.we) ≡ w (At u.we)))
writer_same v w n None m h = tt
writer_same v w n (Some u) m h = (m.signals u.from h.0, m.signals u.we h.1)

port_same : (c : Circuit) (q : Port) (v w : Values) → PortFits c q → Same (length c.signals) v w → PortSame v w q
port_same c q v w f m = record { adr = m.signals q.adr f.adr; writer = writer_same v w (length c.signals) q.writer m f.writer }

laid_same : (v w : Values) (width p : ℕ) (o : Option Writer) → IfSome o (λ u. (v (At u.from) ≡ w (At u.from)) × (v (At u.we) ≡ w (At u.we))) → laid_by v width p o ≡ laid_by w width p o
laid_same v w width p None h = refl
laid_same v w width p (Some u) h = rw (h.0, h.1) refl

pub written_same : (v w : Values) (rises : ℕ → Bool) (m width k : ℕ) (qs : List Port) (p : ℕ) → ((j : ℕ) → j < length qs → PortSame v w (slice_index_or qs j no_port)) → written v rises m width k qs p ≡ written w rises m width k qs p
written_same v w rises m width k [] p h = refl
written_same v w rises m width k (q ∷ qs) p h =
    let own = h 0 (omega arith) in
    ap (λ z. written v rises m width k qs (cond (nat_eq q.memory m && (rises_in rises q.domain && nat_eq (count_of z) k)) (laid_by v width p q.writer) p)) own.adr
    ∙ (ap (λ z. written v rises m width k qs (cond (writes_to w rises m k q) z p)) (laid_same v w width p q.writer own.writer)
    ∙ written_same v w rises m width k qs (cond (writes_to w rises m k q) (laid_by w width p q.writer) p) (λ j l. h (suc j) (omega arith)))

silent_written : (v : Values) (rises : ℕ → Bool) (m width k j : ℕ) (qs : List Port) (p : ℕ) → written v rises m width k (changed silent j qs) p ≡ written v rises m width k qs p
silent_written v rises m width k j [] p = refl
silent_written v rises m width k zero (q ∷ qs) p = refl
silent_written v rises m width k (suc j) (q ∷ qs) p = silent_written v rises m width k j qs (cond (writes_to v rises m k q) (laid_by v width p q.writer) p)

pub word_same : (c : Circuit) (j : ℕ) (q : Port) (r : ℕ) (v w : Values) (rises : ℕ → Bool) (m k : ℕ) → Shows c j q r → Same (length c.signals) v w → next_word c v rises m k ≡ next_word (ported c j q r) w rises m k
word_same c j q r v w rises m k h same =
    let n = (memory_at c m).width in
    ap (λ z. written v rises m n k c.ports (modulo z (2 ^ n))) (same.words m k)
    ∙ (written_same v w rises m n k c.ports (modulo (w (Word m k)) (2 ^ n)) (λ i l. port_same c (port_at c i) v w (h.can.ports i l) same)
    ∙ sym (silent_written w rises m n k j c.ports (modulo (w (Word m k)) (2 ^ n))))

-- ---- what other ports keep

writes_same : (v w : Values) (o : Option Writer) → IfSome o (λ u. (v (At u.from) ≡ w (At u.from)) × (v (At u.we) ≡ w (At u.we))) → writes_any v o ≡ writes_any w o
writes_same v w None h = refl
writes_same v w (Some u) h = ap (λ z. not (is_zero z)) h.1

here_same : (v w : Values) (q : Port) → v (At q.adr) ≡ w (At q.adr) → ((a b : ℕ) → v (Word a b) ≡ w (Word a b)) → here v q ≡ here w q
here_same v w q adr words = ap (λ z. v (Word q.memory (count_of z))) adr ∙ words q.memory (count_of (w (At q.adr)))

keeps_same : (v w : Values) (x y : ℤ) (q : Port) (m : Mode) → PortSame v w q → ((a b : ℕ) → v (Word a b) ≡ w (Word a b)) → x ≡ y → keeps v x q m ≡ keeps w y q m
keeps_same v w x y q Async p words e = e
keeps_same v w x y q WriteFirst p words e = p.adr
keeps_same v w x y q ReadFirst p words e = here_same v w q p.adr words
keeps_same v w x y q NoChange p words e =
    ap (λ t. cond t x (here v q)) (writes_same v w q.writer p.writer)
    ∙ ap₂ (λ a b. cond (writes_any w q.writer) a b) e (here_same v w q p.adr words)

kept_of : (c : Circuit) (j : ℕ) (q : Port) (r i : ℕ) (s t v w : Values) (rises : ℕ → Bool) → Shows c j q r → Same (length c.signals) v w → s (Kept i) ≡ t (Kept i)
    → next_kept s v rises i (port_at c i) ≡ next_kept t w rises i (port_at c i)
kept_of c j q r i s t v w rises h m e =
    by_test (nat_lt i (length c.ports))
    (λ b. ap₂ (λ y z. cond (rises_in rises (port_at c i).domain) y z)
    (keeps_same v w (s (Kept i)) (t (Kept i)) (port_at c i) (port_at c i).mode (port_same c (port_at c i) v w (h.can.ports i (ltb-true i (length c.ports) b)) m) m.words e) e)
    (λ b. let none : port_at c i ≡ no_port = index_past c.ports i no_port (ltb-false i (length c.ports) b) in
    ap (next_kept s v rises i) none ∙ (e ∙ sym (ap (next_kept t w rises i) none)))

pub kept_same : (c : Circuit) (j : ℕ) (q : Port) (r i : ℕ) (s t v w : Values) (rises : ℕ → Bool) → Shows c j q r → StatesMatch (length c.signals) j q.mode s t → Same (length c.signals) v w → nat_eq j i ≡ false
    → next_kept s v rises i (port_at c i) ≡ next_kept t w rises i (port_at (ported c j q r) i)
kept_same c j q r i s t v w rises h a m e =
    kept_of c j q r i s t v w rises h m (a.kept i e)
    ∙ ap (next_kept t w rises i) (sym (changed_there silent j i c.ports no_port e))

-- ---- the register

-- the shape of a register
abbrev pub register_shape : Circuit → Port → Mode → Shape
register_shape c q WriteFirst = shapes c q.adr
register_shape c q _ = word_shape c q

registers_are : (c : Circuit) (q : Port) (m : Mode) → keeps_some m ≡ true → registers c q m ≡ register (register_shape c q m) ∷ []
registers_are c q Async e = absurd cc
registers_are c q WriteFirst e = refl
registers_are c q ReadFirst e = refl
registers_are c q NoChange e = refl

pub register_made : (c : Circuit) (j : ℕ) (q : Port) (r : ℕ) → keeps_some q.mode ≡ true → made (ported c j q r) (length c.signals) ≡ register (register_shape c q q.mode)
register_made c j q r e =
    ap (λ ms. slice_index_or (c.signals ++ ms) (length c.signals) nothing) (registers_are c q q.mode e)
    ∙ index_last c.signals (register (register_shape c q q.mode)) nothing

-- the word, where the whole register is assigned
taken_word : (c : Circuit) (s : Shapes) (n : ℕ) (q : Port) (v w : Values) → s n ≡ word_shape c q → (shapes c q.adr).signed ≡ false → 1 ≤ (shapes c q.adr).bits → 1 ≤ (word_shape c q).bits
    → PastIsZero w q.memory (memory_at c q.memory).depth → Fits (word_shape c q) (here v q) → here v q ≡ here w q
    → here v q ≡ result s n (w (At n)) (piece n 0 (s n).bits (value_of s w (word_at c q q.adr)) ∷ [])
taken_word c s n q v w e plain bits width past fits same =
    let z = value_of s w (word_at c q q.adr) in
    let value : z ≡ here v q =
    word_value c s q q.adr w plain bits past ∙ (ap (λ y. wrapped (word_shape c q) y) (sym same) ∙ wrap_bits_same (word_shape c q).bits false (here v q) width fits) in
    sym (whole_assigned s n (w (At n)) z ∙ (ap (λ (a : Shape). wrapped a z) e ∙ (ap (λ y. wrapped (word_shape c q) y) value ∙ wrap_bits_same (word_shape c q).bits false (here v q) width fits)))

-- where nothing is written, else the register stays
taken_unwritten : (c : Circuit) (s : Shapes) (n : ℕ) (v w : Values) (o : Option Writer) (x y : ℤ) (b : Block)
    → IfSome o (λ u. IsSmall (shapes c u.we)) → IfSome o (λ u. (v (At u.from) ≡ w (At u.from)) × (v (At u.we) ≡ w (At u.we)))
    → x ≡ result s n (w (At n)) [] → y ≡ result s n (w (At n)) (taken_block s w b)
    → cond (writes_any v o) x y ≡ result s n (w (At n)) (taken_block s w (unwritten c o b))
taken_unwritten c s n v w None x y b small same stays takes_ = takes_
taken_unwritten c s n v w (Some u) x y b small same stays takes_ =
    let z = w (At u.we) in
    ap (λ a. cond (not (is_zero a)) x y) same.1
    ∙ (by_zero (is_zero z)
    ∙ ap (λ a. result s n (w (At n)) (cond (is_zero a) [] (taken_block s w b) ++ [])) (sym (fails_value (shapes c) w (Signal u.we) small)))
  where
    nil : (ps : List Piece) → ps ++ [] ≡ ps
    nil [] = refl
    nil (p ∷ ps) = ap (λ r. p ∷ r) (nil ps)

    by_zero : (t : Bool) → cond (not t) x y ≡ result s n (w (At n)) (cond (is_zero (flag t)) [] (taken_block s w b) ++ [])
    by_zero true = takes_ ∙ ap (λ ps. result s n (w (At n)) ps) (sym (nil (taken_block s w b)))
    by_zero false = stays

-- a register that no statement assigns stays
untaken : (s : Shapes) (n : ℕ) (z : ℤ) → 1 ≤ (s n).bits → Fits (s n) z → z ≡ result s n z []
untaken s n z some fits = sym (ap (λ p. read_bits (s n).bits (s n).signed p) (mod-eq_of_lt (modulo-below z (2 ^ (s n).bits) (pow_pos (s n).bits))) ∙ wrap_bits_same (s n).bits (s n).signed z some fits)

-- what the register takes is what the port keeps
taken_by : (c : Circuit) (s : Shapes) (n : ℕ) (q : Port) (v w : Values) (old : ℤ) (m : Mode) → keeps_some m ≡ true → s n ≡ register_shape c q m
    → (shapes c q.adr).signed ≡ false → 1 ≤ (shapes c q.adr).bits → 1 ≤ (word_shape c q).bits → PastIsZero w q.memory (memory_at c q.memory).depth
    → PortSame v w q → here v q ≡ here w q → IfSome q.writer (λ u. IsSmall (shapes c u.we)) → Fits (shapes c q.adr) (v (At q.adr)) → Fits (word_shape c q) (here v q)
    → old ≡ w (At n) → KeptFits c q.memory m old
    → keeps v old q m ≡ result s n (w (At n)) (taken_block s w (takes c q n m))
taken_by c s n q v w old Async some e plain bits width past p same small adr word is fits = absurd cc
taken_by c s n q v w old WriteFirst some e plain bits width past p same small adr word is fits =
    let a = shapes c q.adr in
    sym (whole_assigned s n (w (At n)) (w (At q.adr)) ∙ (ap (λ (z : Shape). wrapped z (w (At q.adr))) e ∙ (ap (λ y. wrapped a y) (sym p.adr) ∙ wrap_bits_same a.bits a.signed (v (At q.adr)) bits adr)))
taken_by c s n q v w old ReadFirst some e plain bits width past p same small adr word is fits = taken_word c s n q v w e plain bits width past word same
taken_by c s n q v w old NoChange some e plain bits width past p same small adr word is fits =
    let stays : old ≡ result s n (w (At n)) [] =
    is ∙ untaken s n (w (At n)) (subst (λ (z : Shape). 1 ≤ z.bits) (sym e) width) (subst (λ (z : Shape). Fits z (w (At n))) (sym e) (subst (λ z. Fits (word_shape c q) z) is fits)) in
    taken_unwritten c s n v w q.writer old (here v q) (one (Assign (Whole n) (word_at c q q.adr))) small p.writer stays (taken_word c s n q v w e plain bits width past word same)

-- a domain that is there
pub record Domains (o : Option ℕ) (n : ℕ) : Type 0 where
  pub place : ℕ
  pub is : o ≡ Some place
  pub there : place < n

pub some_domain : (o : Option ℕ) (n : ℕ) → IsSomeAnd o (λ k. k < n) → Domains o n
some_domain None n h = absurd h
some_domain (Some k) n h = record { place = k; is = refl; there = h }

small_writer : (c : Circuit) (o : Option Writer) → ((x : ℕ) → x < length c.signals → IsSmall (shapes c x)) → IfSome o (λ u. (u.from < length c.signals) × (u.we < length c.signals)) → IfSome o (λ u. IsSmall (shapes c u.we))
small_writer c None h g = tt
small_writer c (Some u) h g = h u.we g.1

-- the statements of the register's domain
own_stmts : (c : Circuit) (j : ℕ) (q : Port) (r k : ℕ) → q.domain ≡ Some k → k < length c.domains → domain_at (ported c j q r) k ≡ with_stmts (takes c q (length c.signals) q.mode) (domain_at c k)
own_stmts c j q r k e l =
    let so = takes c q (length c.signals) q.mode in
    ap (λ o. slice_index_or (with_sync c.domains o so) k no_domain) e ∙ changed_here (with_stmts so) k c.domains no_domain l

-- the register at a rise of its domain
risen_register : (c : Circuit) (j : ℕ) (q : Port) (r k : ℕ) (v w : Values) (old : ℤ) → Shows c j q r → keeps_some q.mode ≡ true → q.domain ≡ Some k → k < length c.domains
    → Same (length c.signals) v w → PastIsZero w q.memory (memory_at c q.memory).depth → ValuesFit c v → old ≡ w (At (length c.signals)) → KeptFits c q.memory q.mode old
    → keeps v old q q.mode ≡ risen (ported c j q r) w (domain_at (ported c j q r) k) (length c.signals)
risen_register c j q r k v w old h some e l m past fits is old_fits =
    let d = ported c j q r in
    let n = length c.signals in
    let own = known c j q r h in
    let so = takes c q n q.mode in
    let a = domain_at c k in
    let b = domain_at d k in
    let is_made = register_made c j q r some in
    let p = port_same c q v w own.fits m in
    let same = here_same v w q p.adr m.words in
    let value : keeps v old q q.mode ≡ result (shapes d) n (w (At n)) (taken_block (shapes d) w b.stmts) =
    taken_by c (shapes d) n q v w old q.mode some (ap (λ (z : Made). z.shape) is_made) own.fits.plain own.bits own.fits.word past p same (small_writer c q.writer h.can.small own.fits.writer) (fits.signals q.adr) (fits.words q.memory (addressed v q)) is old_fits
    ∙ (sym (result_after (shapes d) n (w (At n)) (taken_block (shapes d) w a.stmts) (taken_block (shapes d) w so) (block_leaves (shapes d) w n a.stmts (drives_past n n a.stmts (domain_keeps c j q r k h) (omega arith))))
    ∙ (ap (λ ps. result (shapes d) n (w (At n)) ps) (sym (taken_append (shapes d) w a.stmts so))
    ∙ ap (λ (z : Domain). result (shapes d) n (w (At n)) (taken_block (shapes d) w z.stmts)) (sym (own_stmts c j q r k e l)))) in
    value
    ∙ (sym (ap (λ t. cond t (pos 0) (result (shapes d) n (w (At n)) (taken_block (shapes d) w b.stmts))) (and_right (is_reset w b.reset) false refl))
    ∙ sym (ap (λ (z : Made). cond (is_reset w b.reset && not z.reset_less) z.reset (result (shapes d) n (w (At n)) (taken_block (shapes d) w b.stmts))) is_made))

pub register_next : (c : Circuit) (j : ℕ) (q : Port) (r : ℕ) (s t v w : Values) (rises : ℕ → Bool) → Shows c j q r → keeps_some q.mode ≡ true → StatesMatch (length c.signals) j q.mode s t
    → Same (length c.signals) v w → PastIsZero w q.memory (memory_at c q.memory).depth → ValuesFit c v → s (Kept j) ≡ w (At (length c.signals)) → KeptFits c q.memory q.mode (s (Kept j))
    → next_kept s v rises j (port_at c j) ≡ next (ported c j q r) t w rises (length c.signals) (role (ported c j q r) (length c.signals))
register_next c j q r s t v w rises h some a m past fits is old_fits =
    let d = ported c j q r in
    let n = length c.signals in
    let own = known c j q r h in
    let dom = some_domain q.domain (length c.domains) (own.fits.domain some) in
    let k = dom.place in
    ap (next_kept s v rises j) h.is
    ∙ (ap (λ o. cond (rises_in rises o) (keeps v (s (Kept j)) q q.mode) (s (Kept j))) dom.is
    ∙ (ap₂ (λ y z. cond (rises k) y z) (risen_register c j q r k v w (s (Kept j)) h some dom.is dom.there m past fits is old_fits) (a.own some)
    ∙ ap (λ o. next d t w rises n o) (sym (role_register c j q r k h some dom.is dom.there))))
