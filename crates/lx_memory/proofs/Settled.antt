-- Where one port is lowered, the signals and words of the circuit settle as before.
use Rattle.std.proofs.Common.{◌≡◌, ℕ, ℤ, suc, ◌+◌, ◌<◌, ◌^◌, ◌%◌, ◌||◌, Bool, true, false, List, [], ◌∷◌, ◌++◌, length, refl, sym, ap, subst, ◌∙◌, arith, nat_eq, cond}
use Rattle.std.specs.Prelude.{slice_index_or}
use Rattle.std.proofs.lemmas.Bool.{eqb-true, false_from_ne_true}
use Rattle.lx_num.specs.declared.Shape.{Shape}
use Rattle.lx_num.specs.Ints.{modulo, read_bits, wrapped}
use Rattle.lx_circuit.specs.Circuit.{Circuit, Domain, Made, Role, Input, Comb, Sync, Read, Undriven, by_role, idle_role, is_among, is_named, is_some_reset, made, memory_at, no_port, port_at, read_role, role, shapes, sync_role}
use Rattle.lx_circuit.specs.Locality.{block_mentions}
use Rattle.lx_circuit.specs.Memories.{Mode, Async, WriteFirst, ReadFirst, NoChange, Port, shown}
use Rattle.lx_circuit.specs.Places.{Values, At, Word, Kept}
use Rattle.lx_circuit.specs.Runs.{Same}
use Rattle.lx_circuit.specs.Shapes.{Shapes}
use Rattle.lx_circuit.specs.Statements.{Block, Piece, Assign, Whole, piece, after_pieces, drives_block, result, taken_block}
use Rattle.lx_circuit.specs.Values.{count_of, value_of}
use Rattle.lx_circuit.proofs.BlockLocality.{below_alike, block_alike, result_alike}
use Rattle.lx_circuit.proofs.Cases.{after_append, by_test}
use Rattle.lx_circuit.proofs.Frames.{block_leaves}
use Rattle.lx_circuit.proofs.Whole.{whole_assigned}
use Rattle.lx_lowering.specs.Flat.{one}
use Rattle.lx_lowering.proofs.Appends.{taken_append}
use Rattle.lx_memory.specs.Lowers.{NamesBelow, keeps_some}
use Rattle.lx_memory.specs.Ports.{reads, silent, word_shape}
use Rattle.lx_memory.proofs.Changed.{changed_there}
use Rattle.lx_memory.proofs.Roles.{Shows, known, made_before, ported, role_before, role_reader}
use Rattle.lx_memory.proofs.Fetched.{PastIsZero, reads_shown}

-- ---- relations

-- two states: the register has what the port of number j kept
pub record StatesMatch (n j : ℕ) (m : Mode) (s t : Values) : Type 0 where
  pub signals : (x : ℕ) → x < n → s (At x) ≡ t (At x)
  pub words : (a k : ℕ) → s (Word a k) ≡ t (Word a k)
  pub kept : (i : ℕ) → nat_eq j i ≡ false → s (Kept i) ≡ t (Kept i)
  pub own : keeps_some m ≡ true → s (Kept j) ≡ t (At n)

-- two valuations, which differ in what the port kept and in the register alone
pub record ValuesMatch (n j : ℕ) (m : Mode) (v w : Values) : Type 0 where
  pub same : Same n v w
  pub kept : (i : ℕ) → nat_eq j i ≡ false → v (Kept i) ≡ w (Kept i)
  pub own : keeps_some m ≡ true → v (Kept j) ≡ w (At n)

-- ---- pieces

-- pieces of other signals leave no trace
pub result_after : (s : Shapes) (x : ℕ) (start : ℤ) (ps qs : List Piece) → ((p : ℕ) → after_pieces x p ps ≡ p) → result s x start (ps ++ qs) ≡ result s x start qs
result_after s x start ps qs h =
    let n = (s x).bits in
    ap (λ p. read_bits n (s x).signed (p % 2 ^ n)) (after_append x (modulo start (2 ^ n)) ps qs ∙ ap (λ p. after_pieces x p qs) (h (modulo start (2 ^ n))))

pub result_before : (s : Shapes) (x : ℕ) (start : ℤ) (ps qs : List Piece) → ((p : ℕ) → after_pieces x p qs ≡ p) → result s x start (ps ++ qs) ≡ result s x start ps
result_before s x start ps qs h =
    let n = (s x).bits in
    ap (λ p. read_bits n (s x).signed (p % 2 ^ n)) (after_append x (modulo start (2 ^ n)) ps qs ∙ h (after_pieces x (modulo start (2 ^ n)) ps))

-- ---- dat_r

pub not_in_comb : (c : Circuit) (j r : ℕ) → role c r ≡ Read j → drives_block r c.comb ≡ false
not_in_comb c j r e =
    false_from_ne_true (drives_block r c.comb)
    (λ t. let z : role c r ≡ Comb = ap (λ b. cond b Comb (sync_role r 0 c.domains (read_role r 0 c.ports (idle_role c r)))) t in absurd (cc))

agree_reader : (c : Circuit) (j : ℕ) (q : Port) (r : ℕ) (s t i v w : Values) → Shows c j q r → ValuesMatch (length c.signals) j q.mode v w → PastIsZero w q.memory (memory_at c q.memory).depth
    → by_role c s i v r (role c r) ≡ by_role (ported c j q r) t i w r (role (ported c j q r) r)
agree_reader c j q r s t i v w h m past =
    let d = ported c j q r in
    let n = length c.signals in
    let own = known c j q r h in
    let z = value_of (shapes d) w (reads c q n q.mode) in
    let shape : shapes d r ≡ word_shape c q = ap (λ (x : Made). x.shape) (made_before c j q r r own.reader_there) ∙ own.reader_shape in
    let left : by_role c s i v r (role c r) ≡ wrapped (word_shape c q) (shown v j q q.mode) =
    ap (λ x. by_role c s i v r x) own.alone
    ∙ (ap (λ (p : Port). wrapped (shapes c r) (shown v j p p.mode)) h.is
    ∙ ap (λ (a : Shape). wrapped a (shown v j q q.mode)) own.reader_shape) in
    let right : by_role d t i w r (role d r) ≡ wrapped (word_shape c q) z =
    ap (λ x. by_role d t i w r x) (role_reader c j q r)
    ∙ (ap (λ ps. result (shapes d) r (made d r).reset ps) (taken_append (shapes d) w c.comb (one (Assign (Whole r) (reads c q n q.mode))))
    ∙ (result_after (shapes d) r (made d r).reset (taken_block (shapes d) w c.comb) (piece r 0 (shapes d r).bits z ∷ []) (block_leaves (shapes d) w r c.comb (not_in_comb c j r own.alone))
    ∙ (whole_assigned (shapes d) r (made d r).reset z
    ∙ ap (λ (a : Shape). wrapped a z) shape))) in
    left
    ∙ (reads_shown c (shapes d) j n q v w q.mode own.fits.plain own.bits own.fits.word past (m.same.signals q.adr own.fits.adr) (λ k. m.same.words q.memory k) m.own
    ∙ sym right)

-- ---- other readers

idle_no_read : (x k : ℕ) (given open_ : Bool) → cond given Undriven (cond open_ Input Undriven) ≡ Read k → ⊥
idle_no_read x k true open_ e = absurd cc
idle_no_read x k false true e = absurd cc
idle_no_read x k false false e = absurd cc

sync_found : (x k n : ℕ) (ds : List Domain) (other : Role) → sync_role x n ds other ≡ Read k → other ≡ Read k
sync_found x k n [] other e = e
sync_found x k n (d ∷ ds) other e = by_answer (drives_block x d.stmts) (sync_found x k (n + 1) ds other) e
  where
    by_answer : (t : Bool) → (sync_role x (n + 1) ds other ≡ Read k → other ≡ Read k) → cond t (Sync n) (sync_role x (n + 1) ds other) ≡ Read k → other ≡ Read k
    by_answer true more g = absurd cc
    by_answer false more g = more g

-- a port of these, whose dat_r is the signal
record Found (x k n : ℕ) (qs : List Port) : Type 0 where
  place : ℕ
  sum : n + place ≡ k
  there : place < length qs
  named : is_named x (slice_index_or qs place no_port).reader ≡ true

read_found : (x k n : ℕ) (qs : List Port) (other : Role) → (other ≡ Read k → ⊥) → read_role x n qs other ≡ Read k → Found x k n qs
read_found x k n [] other none e = absurd (none e)
read_found x k n (q ∷ qs) other none e = by_answer (is_named x q.reader) (read_found x k (n + 1) qs other none) refl e
  where
    by_answer : (t : Bool) → (read_role x (n + 1) qs other ≡ Read k → Found x k (n + 1) qs) → is_named x q.reader ≡ t → cond t (Read n) (read_role x (n + 1) qs other) ≡ Read k → Found x k n (q ∷ qs)
    by_answer true more a g = record { place = 0; sum = (let z : n ≡ k = cc in omega arith); there = omega arith; named = a }
    by_answer false more a g =
        let f = more g in
        record { place = suc f.place; sum = (let z = f.sum in omega arith); there = (let z = f.there in omega arith); named = f.named }

-- a signal that some port shows
pub record IsRead (c : Circuit) (x k : ℕ) : Type 0 where
  pub there : k < length c.ports
  pub named : is_named x (port_at c k).reader ≡ true

pub is_read : (c : Circuit) (x k : ℕ) → role c x ≡ Read k → IsRead c x k
is_read c x k e = by_answer (drives_block x c.comb) e
  where
    by_answer : (t : Bool) → cond t Comb (sync_role x 0 c.domains (read_role x 0 c.ports (idle_role c x))) ≡ Read k → IsRead c x k
    by_answer true g = absurd cc
    by_answer false g =
        let f = read_found x k 0 c.ports (idle_role c x) (idle_no_read x k (made c x).given (is_among x c.ios || is_some_reset x c.domains))
        (sync_found x k 0 c.domains (read_role x 0 c.ports (idle_role c x)) g) in
        let z : f.place ≡ k = (let y = f.sum in omega arith) in
        record { there = (let y = f.there in omega arith); named = subst (λ p. is_named x (port_at c p).reader ≡ true) z f.named }

-- another signal's port is another one
pub other_port : (c : Circuit) (j : ℕ) (q : Port) (r x k : ℕ) → Shows c j q r → nat_eq r x ≡ false → role c x ≡ Read k → nat_eq j k ≡ false
other_port c j q r x k h e rd =
    false_from_ne_true (nat_eq j k)
    (λ t. let named : is_named x (port_at c j).reader ≡ true = subst (λ p. is_named x (port_at c p).reader ≡ true) (sym (eqb-true j k t)) (is_read c x k rd).named in
    let own : is_named x (port_at c j).reader ≡ false = ap (λ (p : Port). is_named x p.reader) h.is ∙ (ap (is_named x) h.reader ∙ e) in
    absurd (cc))

shown_same : (v w : Values) (k : ℕ) (p : Port) (m : Mode) → v (At p.adr) ≡ w (At p.adr) → ((a b : ℕ) → v (Word a b) ≡ w (Word a b)) → v (Kept k) ≡ w (Kept k) → shown v k p m ≡ shown w k p m
shown_same v w k p Async adr words kept = ap (λ z. v (Word p.memory (count_of z))) adr ∙ words p.memory _
shown_same v w k p WriteFirst adr words kept = ap (λ z. v (Word p.memory (count_of z))) kept ∙ words p.memory _
shown_same v w k p ReadFirst adr words kept = kept
shown_same v w k p NoChange adr words kept = kept

-- ---- all signals of the circuit

-- statements of the circuit take the same
pub taken_same : (c : Circuit) (j : ℕ) (q : Port) (r : ℕ) (v w : Values) (b : Block) → Shows c j q r → Same (length c.signals) v w
    → NamesBelow (length c.signals) b → taken_block (shapes c) v b ≡ taken_block (shapes (ported c j q r)) w b
taken_same c j q r v w b h m below =
    block_alike (shapes c) (shapes (ported c j q r)) v w b
    (below_alike (length c.signals) (shapes c) (shapes (ported c j q r)) v w (λ y. block_mentions y b) below (λ x l. ap (λ (a : Made). a.shape) (sym (made_before c j q r x l))) m)

agree_comb : (c : Circuit) (j : ℕ) (q : Port) (r x : ℕ) (v w : Values) → Shows c j q r → Same (length c.signals) v w → x < length c.signals → nat_eq r x ≡ false
    → result (shapes c) x (made c x).reset (taken_block (shapes c) v c.comb) ≡ result (shapes (ported c j q r)) x (made (ported c j q r) x).reset (taken_block (shapes (ported c j q r)) w (ported c j q r).comb)
agree_comb c j q r x v w h m l e =
    let d = ported c j q r in
    let n = length c.signals in
    let z = value_of (shapes d) w (reads c q n q.mode) in
    let made_same = sym (made_before c j q r x l) in
    let more = piece r 0 (shapes d r).bits z ∷ [] in
    ap (λ ps. result (shapes c) x (made c x).reset ps) (taken_same c j q r v w c.comb h m h.can.comb)
    ∙ (result_alike (shapes c) (shapes d) x (made c x).reset (taken_block (shapes d) w c.comb) (ap (λ (a : Made). a.shape) made_same)
    ∙ (ap (λ (a : Made). result (shapes d) x a.reset (taken_block (shapes d) w c.comb)) made_same
    ∙ (sym (result_before (shapes d) x (made d x).reset (taken_block (shapes d) w c.comb) more (λ p. rw (e) refl))
    ∙ ap (λ ps. result (shapes d) x (made d x).reset ps) (sym (taken_append (shapes d) w c.comb (one (Assign (Whole r) (reads c q n q.mode))))))))

agree_other : (c : Circuit) (j : ℕ) (q : Port) (r x : ℕ) (s t i v w : Values) → Shows c j q r → StatesMatch (length c.signals) j q.mode s t → ValuesMatch (length c.signals) j q.mode v w
    → x < length c.signals → nat_eq r x ≡ false → (o : Role) → role c x ≡ o → by_role c s i v x o ≡ by_role (ported c j q r) t i w x o
agree_other c j q r x s t i v w h a m l e Input is = refl
agree_other c j q r x s t i v w h a m l e Comb is = agree_comb c j q r x v w h m.same l e
agree_other c j q r x s t i v w h a m l e (Sync k) is = a.signals x l
agree_other c j q r x s t i v w h a m l e (Read k) is =
    let d = ported c j q r in
    let apart = other_port c j q r x k h e is in
    let there = (is_read c x k is).there in
    let port : port_at d k ≡ port_at c k = changed_there silent j k c.ports no_port apart in
    ap (λ (z : Made). wrapped z.shape (shown v k (port_at c k) (port_at c k).mode)) (sym (made_before c j q r x l))
    ∙ (ap (λ z. wrapped (shapes d x) z) (shown_same v w k (port_at c k) (port_at c k).mode (m.same.signals (port_at c k).adr (h.can.ports k there).adr) m.same.words (m.kept k apart))
    ∙ ap (λ (p : Port). wrapped (shapes d x) (shown w k p p.mode)) (sym port))
agree_other c j q r x s t i v w h a m l e Undriven is = ap (λ (z : Made). z.reset) (sym (made_before c j q r x l))

-- a signal of the circuit is the same by its role in both
pub agree : (c : Circuit) (j : ℕ) (q : Port) (r x : ℕ) (s t i v w : Values) → Shows c j q r → StatesMatch (length c.signals) j q.mode s t → ValuesMatch (length c.signals) j q.mode v w → PastIsZero w q.memory (memory_at c q.memory).depth
    → x < length c.signals → by_role c s i v x (role c x) ≡ by_role (ported c j q r) t i w x (role (ported c j q r) x)
agree c j q r x s t i v w h a m past l =
    by_test (nat_eq r x)
    (λ e. subst (λ y. by_role c s i v y (role c y) ≡ by_role (ported c j q r) t i w y (role (ported c j q r) y)) (eqb-true r x e) (agree_reader c j q r s t i v w h m past))
    (λ e. agree_other c j q r x s t i v w h a m l e (role c x) refl ∙ ap (λ o. by_role (ported c j q r) t i w x o) (sym (role_before c j q r x h l e)))
