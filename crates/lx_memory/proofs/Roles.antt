-- The roles of signals where one port is lowered: dat_r is combinatorial, the register is clocked, and all others are as they were.
use Rattle.std.proofs.Common.{◌≡◌, ℕ, zero, suc, ◌+◌, ◌-◌, ◌<◌, ◌≤◌, ◌||◌, Bool, true, false, List, [], ◌∷◌, ◌++◌, Option, Some, None, length, refl, sym, ap, subst, ◌∙◌, arith, nat_eq, cond, eq-eqb}
use Rattle.std.specs.Prelude.{IfSome, slice_index_or}
use Rattle.std.proofs.Math.Bool.{or-false}
use Rattle.std.proofs.lemmas.Bool.{false_from_ne_true, ne_eqb}
use Rattle.lx_circuit.specs.Circuit.{Circuit, Domain, Made, Role, Input, Comb, Sync, Read, Undriven, idle_role, is_among, is_named, is_some_reset, made, no_port, nothing, port_at, read_role, role, shapes, sync_role}
use Rattle.lx_circuit.specs.Memories.{Mode, Async, WriteFirst, ReadFirst, NoChange, Port, Writer}
use Rattle.lx_circuit.specs.Statements.{Assign, Block, Whole, drives_block}
use Rattle.lx_fhdl.specs.Keeping.{EachOf}
use Rattle.lx_lowering.specs.Flat.{one}
use Rattle.lx_lowering.proofs.Appends.{drives_append}
use Rattle.lx_memory.specs.Lowers.{CanLowerPorts, NamesBelow, PortFits, keeps_some}
use Rattle.lx_memory.specs.Ports.{changed, reads, registers, silent, takes, unwritten, with_ports, with_reader, with_stmts, with_sync, word_at, word_shape}
use Rattle.lx_memory.proofs.Changed.{drives_more, index_before, index_past, none_drives, read_changed, resets_changed, sync_changed, sync_new, sync_none}
use Rattle.lx_memory.proofs.Mentioned.{block_mentioned}

-- the circuit with the port of number j lowered, whose dat_r is the signal r
abbrev pub ported : Circuit → ℕ → Port → ℕ → Circuit
ported c j q r = with_ports (with_reader c q (Some r)) (changed silent j c.ports)

-- the port of number j shows on the signal r
pub record Shows (c : Circuit) (j : ℕ) (q : Port) (r : ℕ) : Type 0 where
  pub can : CanLowerPorts c
  pub there : j < length c.ports
  pub is : port_at c j ≡ q
  pub reader : q.reader ≡ Some r

-- what follows for its signals
pub record Known (c : Circuit) (j : ℕ) (q : Port) (r : ℕ) : Type 0 where
  pub fits : PortFits c q
  pub reader_there : r < length c.signals
  pub reader_shape : shapes c r ≡ word_shape c q
  pub alone : role c r ≡ Read j
  pub bits : 1 ≤ (shapes c q.adr).bits

pub known : (c : Circuit) (j : ℕ) (q : Port) (r : ℕ) → Shows c j q r → Known c j q r
known c j q r h =
    let fits : PortFits c q = subst (λ p. PortFits c p) h.is (h.can.ports j h.there) in
    let own = subst (λ o. IfSome o (λ x. (x < length c.signals) × (shapes c x ≡ word_shape c q))) h.reader fits.reader in
    record {
      fits = fits;
      reader_there = own.0;
      reader_shape = own.1;
      alone = h.can.alone.each j r (ap (λ (p : Port). p.reader) h.is ∙ h.reader);
      bits = (h.can.signals.each q.adr).some;
    }

-- ---- what the register takes

unwritten_drives : (c : Circuit) (o : Option Writer) (b : Block) (x : ℕ) → drives_block x b ≡ false → drives_block x (unwritten c o b) ≡ false
unwritten_drives c None b x e = e
unwritten_drives c (Some w) b x e = rw (e) refl

unwritten_own : (c : Circuit) (o : Option Writer) (b : Block) (x : ℕ) → drives_block x b ≡ true → drives_block x (unwritten c o b) ≡ true
unwritten_own c None b x e = e
unwritten_own c (Some w) b x e = rw (e) refl

pub takes_others : (c : Circuit) (q : Port) (n : ℕ) (m : Mode) (x : ℕ) → nat_eq n x ≡ false → drives_block x (takes c q n m) ≡ false
takes_others c q n Async x e = refl
takes_others c q n WriteFirst x e = or-false (nat_eq n x) ∙ e
takes_others c q n ReadFirst x e = or-false (nat_eq n x) ∙ e
takes_others c q n NoChange x e = unwritten_drives c q.writer (one (Assign (Whole n) (word_at c q q.adr))) x (or-false (nat_eq n x) ∙ e)

pub takes_own : (c : Circuit) (q : Port) (n : ℕ) (m : Mode) → keeps_some m ≡ true → drives_block n (takes c q n m) ≡ true
takes_own c q n Async e = absurd cc
takes_own c q n WriteFirst e = or-false (nat_eq n n) ∙ eq-eqb n n refl
takes_own c q n ReadFirst e = or-false (nat_eq n n) ∙ eq-eqb n n refl
takes_own c q n NoChange e = unwritten_own c q.writer (one (Assign (Whole n) (word_at c q q.adr))) n (or-false (nat_eq n n) ∙ eq-eqb n n refl)

-- ---- what lies past the signals

-- no reader of these ports is the signal
abbrev pub none_reads : ℕ → List Port → Bool
none_reads x [] = true
none_reads x (q ∷ qs) = cond (is_named x q.reader) false (none_reads x qs)

pub read_none : (x k : ℕ) (qs : List Port) (other : Role) → none_reads x qs ≡ true → read_role x k qs other ≡ other
read_none x k [] other e = refl
read_none x k (q ∷ qs) other e = by_answer (is_named x q.reader) (read_none x (k + 1) qs other) e
  where
    by_answer : (t : Bool) → (none_reads x qs ≡ true → read_role x (k + 1) qs other ≡ other) → cond t false (none_reads x qs) ≡ true → cond t (Read k) (read_role x (k + 1) qs other) ≡ other
    by_answer true more h = absurd cc
    by_answer false more h = more h

named_below : (n x : ℕ) (o : Option ℕ) → IfSome o (λ r. r < n) → n ≤ x → is_named x o ≡ false
named_below n x None h l = refl
named_below n x (Some r) h l = ne_eqb r x (λ e. omega arith)

readers_below : (n x : ℕ) (qs : List Port) → ((j : ℕ) → j < length qs → IfSome (slice_index_or qs j no_port).reader (λ r. r < n)) → n ≤ x → none_reads x qs ≡ true
readers_below n x [] h l = refl
readers_below n x (q ∷ qs) h l =
    ap (λ t. cond t false (none_reads x qs)) (named_below n x q.reader (h 0 (omega arith)) l)
    ∙ readers_below n x qs (λ j k. h (suc j) (omega arith)) l

reader_below : (A : ℕ → Type 0) (n : ℕ) (o : Option ℕ) → IfSome o (λ r. (r < n) × A r) → IfSome o (λ r. r < n)
reader_below A n None h = tt
reader_below A n (Some r) h = h.0

none_reads_past : (c : Circuit) → CanLowerPorts c → (x : ℕ) → length c.signals ≤ x → none_reads x c.ports ≡ true
none_reads_past c h x l =
    readers_below (length c.signals) x c.ports (λ j k. reader_below (λ r. shapes c r ≡ word_shape c (port_at c j)) (length c.signals) (port_at c j).reader (h.ports j k).reader) l

pub drives_past : (n x : ℕ) (b : Block) → NamesBelow n b → n ≤ x → drives_block x b ≡ false
drives_past n x b k l = false_from_ne_true (drives_block x b) (λ e. let less = k x (block_mentioned x b e) in omega arith)

domains_past : (n x : ℕ) (ds : List Domain) → EachOf (λ (d : Domain). NamesBelow n d.stmts) ds → n ≤ x → none_drives x ds ≡ true
domains_past n x [] k l = refl
domains_past n x (d ∷ ds) k l =
    ap (λ t. cond t false (none_drives x ds)) (drives_past n x d.stmts k.0 l) ∙ domains_past n x ds k.1 l

idle_past : (c : Circuit) → CanLowerPorts c → (x : ℕ) (given : Bool) → given ≡ false → length c.signals ≤ x
    → cond given Undriven (cond (is_among x c.ios || is_some_reset x c.domains) Input Undriven) ≡ Undriven
idle_past c h x given e l =
    let ios = false_from_ne_true (is_among x c.ios) (λ t. let less = h.ios x t in omega arith) in
    let resets = false_from_ne_true (is_some_reset x c.domains) (λ t. let less = h.resets x t in omega arith) in
    rw (e, ios, resets) refl

-- a signal that the circuit doesn't have is undriven
pub role_past : (c : Circuit) → CanLowerPorts c → (x : ℕ) → length c.signals ≤ x → role c x ≡ Undriven
role_past c h x l =
    ap (λ t. cond t Comb (sync_role x 0 c.domains (read_role x 0 c.ports (idle_role c x)))) (drives_past (length c.signals) x c.comb h.comb l)
    ∙ (sync_none x 0 c.domains (read_role x 0 c.ports (idle_role c x)) (domains_past (length c.signals) x c.domains h.domains l)
    ∙ (read_none x 0 c.ports (idle_role c x) (none_reads_past c h x l)
    ∙ idle_past c h x (made c x).given (ap (λ (m : Made). m.given) (index_past c.signals x nothing l)) l))

-- ---- the lowered port

-- statements of the register in a domain
with_others : (x : ℕ) (ds : List Domain) (o : Option ℕ) (b : Block) (other : Role) → drives_block x b ≡ false → sync_role x 0 (with_sync ds o b) other ≡ sync_role x 0 ds other
with_others x ds None b other e = refl
with_others x ds (Some k) b other e = sync_changed x k 0 b ds other e

pub with_resets : (x : ℕ) (ds : List Domain) (o : Option ℕ) (b : Block) → is_some_reset x (with_sync ds o b) ≡ is_some_reset x ds
with_resets x ds None b = refl
with_resets x ds (Some k) b = resets_changed x k b ds

silent_none : (x j : ℕ) (qs : List Port) → none_reads x qs ≡ true → none_reads x (changed silent j qs) ≡ true
silent_none x j [] e = refl
silent_none x zero (q ∷ qs) e = by_answer (is_named x q.reader) e
  where
    by_answer : (t : Bool) → cond t false (none_reads x qs) ≡ true → none_reads x qs ≡ true
    by_answer true h = absurd cc
    by_answer false h = h
silent_none x (suc j) (q ∷ qs) e = by_answer (is_named x q.reader) (silent_none x j qs) e
  where
    by_answer : (t : Bool) → (none_reads x qs ≡ true → none_reads x (changed silent j qs) ≡ true) → cond t false (none_reads x qs) ≡ true → cond t false (none_reads x (changed silent j qs)) ≡ true
    by_answer true more h = absurd cc
    by_answer false more h = more h

pub made_before : (c : Circuit) (j : ℕ) (q : Port) (r x : ℕ) → x < length c.signals → made (ported c j q r) x ≡ made c x
made_before c j q r x l = index_before c.signals (registers c q q.mode) x nothing l

-- the roles of other signals are as they were
pub role_before : (c : Circuit) (j : ℕ) (q : Port) (r x : ℕ) → Shows c j q r → x < length c.signals → nat_eq r x ≡ false → role (ported c j q r) x ≡ role c x
role_before c j q r x h l e =
    let d = ported c j q r in
    let n = length c.signals in
    let idle : idle_role d x ≡ idle_role c x =
    ap (λ (m : Made). cond m.given Undriven (cond (is_among x c.ios || is_some_reset x d.domains) Input Undriven)) (made_before c j q r x l)
    ∙ ap (λ t. cond (made c x).given Undriven (cond (is_among x c.ios || t) Input Undriven)) (with_resets x c.domains q.domain (takes c q n q.mode)) in
    let named : is_named x (slice_index_or c.ports j no_port).reader ≡ false = ap (λ (p : Port). is_named x p.reader) h.is ∙ (ap (is_named x) h.reader ∙ e) in
    let read : read_role x 0 d.ports (idle_role d x) ≡ read_role x 0 c.ports (idle_role c x) = read_changed x j 0 c.ports (idle_role d x) named ∙ ap (read_role x 0 c.ports) idle in
    let sync : sync_role x 0 d.domains (read_role x 0 d.ports (idle_role d x)) ≡ sync_role x 0 c.domains (read_role x 0 c.ports (idle_role c x)) =
    with_others x c.domains q.domain (takes c q n q.mode) (read_role x 0 d.ports (idle_role d x)) (takes_others c q n q.mode x (ne_eqb n x (λ s. omega arith)))
    ∙ ap (sync_role x 0 c.domains) read in
    ap (λ t. cond t Comb (sync_role x 0 d.domains (read_role x 0 d.ports (idle_role d x)))) (sym (drives_more x c.comb (one (Assign (Whole r) (reads c q n q.mode))) (or-false (nat_eq r x) ∙ e)))
    ∙ ap (λ s. cond (drives_block x c.comb) Comb s) sync

-- dat_r is combinatorial
pub role_reader : (c : Circuit) (j : ℕ) (q : Port) (r : ℕ) → role (ported c j q r) r ≡ Comb
role_reader c j q r =
    let d = ported c j q r in
    ap (λ t. cond t Comb (sync_role r 0 d.domains (read_role r 0 d.ports (idle_role d r))))
    (drives_append r c.comb (one (Assign (Whole r) (reads c q (length c.signals) q.mode))) ∙ (ap (λ t. drives_block r c.comb || t) (or-false (nat_eq r r) ∙ eq-eqb r r refl) ∙ or_true (drives_block r c.comb)))
  where
    or_true : (t : Bool) → (t || true) ≡ true
    or_true true = refl
    or_true false = refl

-- the register is clocked
pub role_register : (c : Circuit) (j : ℕ) (q : Port) (r k : ℕ) → Shows c j q r → keeps_some q.mode ≡ true → q.domain ≡ Some k → k < length c.domains → role (ported c j q r) (length c.signals) ≡ Sync k
role_register c j q r k h m e l =
    let d = ported c j q r in
    let n = length c.signals in
    let own = known c j q r h in
    let other = read_role n 0 d.ports (idle_role d n) in
    let here : d.domains ≡ changed (with_stmts (takes c q n q.mode)) k c.domains = ap (λ o. with_sync c.domains o (takes c q n q.mode)) e in
    let comb : drives_block n d.comb ≡ false = sym (drives_more n c.comb (one (Assign (Whole r) (reads c q n q.mode))) (or-false (nat_eq r n) ∙ ne_eqb r n (λ s. let t = own.reader_there in omega arith))) ∙ drives_past n n c.comb h.can.comb (omega arith) in
    ap (λ t. cond t Comb (sync_role n 0 d.domains other)) comb
    ∙ (ap (λ ds. sync_role n 0 ds other) here
    ∙ (sync_new n k 0 (takes c q n q.mode) c.domains other (takes_own c q n q.mode m) (domains_past n n c.domains h.can.domains (omega arith)) l
    ∙ (let z : 0 + k ≡ k = omega arith in ap Sync z)))

register_given : (c : Circuit) (q : Port) (m : Mode) (k : ℕ) → (slice_index_or (registers c q m) k nothing).given ≡ false
register_given c q Async k = refl
register_given c q WriteFirst zero = refl
register_given c q WriteFirst (suc k) = refl
register_given c q ReadFirst zero = refl
register_given c q ReadFirst (suc k) = refl
register_given c q NoChange zero = refl
register_given c q NoChange (suc k) = refl

pub index_after : {A : Type 0} (xs ys : List A) (k : ℕ) (d : A) → slice_index_or (xs ++ ys) (length xs + k) d ≡ slice_index_or ys k d
index_after [] ys k d = let z : 0 + k ≡ k = omega arith in ap (λ i. slice_index_or ys i d) z
index_after (x ∷ xs) ys k d = (let z : length (x ∷ xs) + k ≡ suc (length xs + k) = omega arith in ap (λ i. slice_index_or (x ∷ (xs ++ ys)) i d) z) ∙ index_after xs ys k d

given_after : (c : Circuit) (j : ℕ) (q : Port) (r x : ℕ) → length c.signals ≤ x → (made (ported c j q r) x).given ≡ false
given_after c j q r x l =
    let k = x - length c.signals in
    let z : length c.signals + k ≡ x = omega arith in
    subst (λ y. (made (ported c j q r) y).given ≡ false) z
    (ap (λ (m : Made). m.given) (index_after c.signals (registers c q q.mode) k nothing) ∙ register_given c q q.mode k)

-- all signals past it are undriven
pub role_after : (c : Circuit) (j : ℕ) (q : Port) (r x : ℕ) → Shows c j q r → length c.signals ≤ x → drives_block x (takes c q (length c.signals) q.mode) ≡ false → role (ported c j q r) x ≡ Undriven
role_after c j q r x h l e =
    let d = ported c j q r in
    let n = length c.signals in
    let own = known c j q r h in
    let comb : drives_block x d.comb ≡ false = sym (drives_more x c.comb (one (Assign (Whole r) (reads c q n q.mode))) (or-false (nat_eq r x) ∙ ne_eqb r x (λ s. let t = own.reader_there in omega arith))) ∙ drives_past n x c.comb h.can.comb l in
    ap (λ t. cond t Comb (sync_role x 0 d.domains (read_role x 0 d.ports (idle_role d x)))) comb
    ∙ (with_others x c.domains q.domain (takes c q n q.mode) (read_role x 0 d.ports (idle_role d x)) e
    ∙ (sync_none x 0 c.domains (read_role x 0 d.ports (idle_role d x)) (domains_past n x c.domains h.can.domains l)
    ∙ (read_none x 0 d.ports (idle_role d x) (silent_none x j c.ports (none_reads_past c h.can x l))
    ∙ (ap (λ t. cond (made d x).given Undriven (cond (is_among x c.ios || t) Input Undriven)) (with_resets x c.domains q.domain (takes c q n q.mode))
    ∙ idle_past c h.can x (made d x).given (given_after c j q r x l) l))))
