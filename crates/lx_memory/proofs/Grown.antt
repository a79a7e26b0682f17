-- A circuit of which one port was lowered is one whose ports can be lowered.
use Rattle.std.proofs.Common.{◌≡◌, ℕ, pos, zero, suc, ◌+◌, ◌-◌, ◌<◌, ◌≤◌, ◌||◌, ◌^◌, Bool, true, false, List, [], ◌∷◌, Option, Some, None, length, length-append, refl, sym, ap, subst, ◌∙◌, arith, nat_eq, nat_lt, cond, eq-eqb, inl, inr}
use Rattle.std.specs.Prelude.{IfSome, IsSomeAnd, slice_index_or}
use Rattle.std.proofs.Math.Bool.{or-false}
use Rattle.std.proofs.lemmas.Bool.{eqb-true, false_from_ne_true, ltb-false, ltb-true, or_cases}
use Rattle.lx_num.proofs.Ranges.{fits_pos}
use Rattle.lx_circuit.specs.Circuit.{Circuit, Domain, Made, Read, made, memory_at, no_port, nothing, port_at, role, shapes}
use Rattle.lx_circuit.specs.Fitting.{IsMade, KeepsShapes}
use Rattle.lx_circuit.specs.Locality.{block_mentions}
use Rattle.lx_circuit.specs.Memories.{Mode, Async, WriteFirst, ReadFirst, NoChange, Port, Writer}
use Rattle.lx_circuit.specs.Places.{At}
use Rattle.lx_circuit.specs.Reads.{names}
use Rattle.lx_circuit.specs.Statements.{Block, Assign, Whole}
use Rattle.lx_circuit.specs.Terms.{Term, Binary, Constant, Fetch, Mux, Signal}
use Rattle.lx_tables.specs.declared.operators.Op.TheVariants as op
use Rattle.lx_circuit.proofs.Cases.{by_test}
use Rattle.lx_fhdl.specs.Keeping.{EachOf}
use Rattle.lx_fhdl.specs.Nodes.{IsSmall}
use Rattle.lx_fhdl.proofs.Fitting.{fits_zero}
use Rattle.lx_lowering.specs.Flat.{append, one}
use Rattle.lx_memory.specs.Lowers.{CanLowerPorts, NamesBelow, PortFits}
use Rattle.lx_memory.specs.Ports.{changed, reads, registers, silent, takes, unwritten, with_stmts, with_sync, word_at, word_shape}
use Rattle.lx_memory.proofs.Changed.{changed_here, changed_length, changed_there, index_past}
use Rattle.lx_memory.proofs.Mentioned.{mentions_append}
use Rattle.lx_memory.proofs.Roles.{Shows, index_after, known, made_before, ported, role_before, with_resets}

-- ---- signals

made_nothing : IsMade nothing
made_nothing = record { some = omega arith; fits = fits_pos 1 0 (omega arith) }

registers_made : (c : Circuit) (q : Port) (m : Mode) (k : ℕ) → 1 ≤ (shapes c q.adr).bits → 1 ≤ (word_shape c q).bits → IsMade (slice_index_or (registers c q m) k nothing)
registers_made c q Async k a b = made_nothing
registers_made c q WriteFirst zero a b = record { some = a; fits = fits_zero (shapes c q.adr).bits (shapes c q.adr).signed }
registers_made c q WriteFirst (suc k) a b = made_nothing
registers_made c q ReadFirst zero a b = record { some = b; fits = fits_zero (word_shape c q).bits false }
registers_made c q ReadFirst (suc k) a b = made_nothing
registers_made c q NoChange zero a b = record { some = b; fits = fits_zero (word_shape c q).bits false }
registers_made c q NoChange (suc k) a b = made_nothing

registers_small : (c : Circuit) (q : Port) (m : Mode) (k : ℕ) → k < length (registers c q m) → IsSmall (shapes c q.adr) → IsSmall (word_shape c q) → IsSmall (slice_index_or (registers c q m) k nothing).shape
registers_small c q Async k l a b = absurd (omega arith)
registers_small c q WriteFirst zero l a b = a
registers_small c q WriteFirst (suc k) l a b = absurd (omega arith)
registers_small c q ReadFirst zero l a b = b
registers_small c q ReadFirst (suc k) l a b = absurd (omega arith)
registers_small c q NoChange zero l a b = b
registers_small c q NoChange (suc k) l a b = absurd (omega arith)

made_past : (c : Circuit) (j : ℕ) (q : Port) (r x : ℕ) → length c.signals ≤ x → made (ported c j q r) x ≡ slice_index_or (registers c q q.mode) (x - length c.signals) nothing
made_past c j q r x l =
    let z : x ≡ length c.signals + (x - length c.signals) = omega arith in
    ap (λ y. made (ported c j q r) y) z ∙ index_after c.signals (registers c q q.mode) (x - length c.signals) nothing

pub more_signals : (c : Circuit) (j : ℕ) (q : Port) (r : ℕ) → length (ported c j q r).signals ≡ length c.signals + length (registers c q q.mode)
more_signals c j q r = length-append c.signals (registers c q q.mode)

signals_made : (c : Circuit) (j : ℕ) (q : Port) (r : ℕ) → Shows c j q r → KeepsShapes (ported c j q r)
signals_made c j q r h =
    let own = known c j q r h in
    record {
      each = λ x. by_test (nat_lt x (length c.signals))
          (λ e. subst IsMade (sym (made_before c j q r x (ltb-true x (length c.signals) e))) (h.can.signals.each x))
          (λ e. subst IsMade (sym (made_past c j q r x (ltb-false x (length c.signals) e))) (registers_made c q q.mode (x - length c.signals) own.bits own.fits.word));
    }

signals_small : (c : Circuit) (j : ℕ) (q : Port) (r x : ℕ) → Shows c j q r → x < length (ported c j q r).signals → IsSmall (shapes (ported c j q r) x)
signals_small c j q r x h l =
    let n = length c.signals in
    let own = known c j q r h in
    let more = more_signals c j q r in
    by_test (nat_lt x n)
    (λ e. let b = ltb-true x n e in subst (λ (m : Made). IsSmall m.shape) (sym (made_before c j q r x b)) (h.can.small x b))
    (λ e. let b = ltb-false x n e in
    subst (λ (m : Made). IsSmall m.shape) (sym (made_past c j q r x b))
    (registers_small c q q.mode (x - n) (omega arith) (h.can.small q.adr own.fits.adr) (subst IsSmall own.reader_shape (h.can.small r own.reader_there))))

-- ---- what the new statements name

-- a read of a word names its address alone
word_names : (c : Circuit) (q : Port) (x y : ℕ) → names (At x) (word_at c q y) ≡ nat_eq y x
word_names c q x y = by_answer (nat_lt (memory_at c q.memory).depth (2 ^ (shapes c q.adr).bits))
  where
    once : (b : Bool) → ((b || false) || ((false || b) || false)) ≡ b
    once true = refl
    once false = refl

    by_answer : (t : Bool) → names (At x) (cond t (Mux (Binary op.Lt (Signal y) (Constant (pos (memory_at c q.memory).depth) (shapes c q.adr))) (Fetch q.memory (memory_at c q.memory).width (Signal y)) (Constant (pos 0) (word_shape c q))) (Fetch q.memory (memory_at c q.memory).width (Signal y))) ≡ nat_eq y x
    by_answer true = once (nat_eq y x)
    by_answer false = refl

same_below : (n x y : ℕ) → y < n → nat_eq y x ≡ true → x < n
same_below n x y l e = let z = eqb-true y x e in omega arith

reads_below : (c : Circuit) (q : Port) (n x : ℕ) (m : Mode) → q.adr < n → names (At x) (reads c q n m) ≡ true → x < n + length (registers c q m)
reads_below c q n x Async l e = let z = same_below n x q.adr l (sym (word_names c q x q.adr) ∙ e) in omega arith
reads_below c q n x WriteFirst l e = let z = eqb-true n x (sym (word_names c q x n) ∙ e) in omega arith
reads_below c q n x ReadFirst l e = let z = eqb-true n x e in omega arith
reads_below c q n x NoChange l e = let z = eqb-true n x e in omega arith

-- an assignment of the signal y
assign_below : (n y : ℕ) (a : Term) → y < n → ((x : ℕ) → names (At x) a ≡ true → x < n) → NamesBelow n (one (Assign (Whole y) a))
assign_below n y a l h x e =
    elim (or_cases (nat_eq y x) (names (At x) a) (sym (or-false (nat_eq y x || names (At x) a)) ∙ e)) [
      | inl p ↦ same_below n x y l p
      | inr p ↦ h x p
    ]

unwritten_below : (c : Circuit) (n : ℕ) (o : Option Writer) (b : Block) → IfSome o (λ u. u.we < n) → NamesBelow n b → NamesBelow n (unwritten c o b)
unwritten_below c n None b l h = h
unwritten_below c n (Some u) b l h = λ x e.
    let m = (nat_eq u.we x || false) || (block_mentions (At x) b || false) in
    elim (or_cases (nat_eq u.we x || false) (block_mentions (At x) b || false) (sym (or-false m) ∙ (sym (or-false (m || false)) ∙ e))) [
      | inl k ↦ same_below n x u.we l (sym (or-false (nat_eq u.we x)) ∙ k)
      | inr k ↦ h x (sym (or-false (block_mentions (At x) b)) ∙ k)
    ]

we_below : (n : ℕ) (o : Option Writer) (k : ℕ) → k ≤ n → IfSome o (λ u. (u.from < k) × (u.we < k)) → IfSome o (λ u. u.we < n)
we_below n None k l h = tt
we_below n (Some u) k l h = (let z = h.1 in omega arith)

takes_below : (c : Circuit) (q : Port) (n : ℕ) (m : Mode) → q.adr < n → IfSome q.writer (λ u. (u.from < n) × (u.we < n)) → NamesBelow (n + length (registers c q m)) (takes c q n m)
takes_below c q n Async l h = λ x e. absurd cc
takes_below c q n WriteFirst l h = assign_below (n + 1) n (Signal q.adr) (omega arith) (λ x e. let z = eqb-true q.adr x e in omega arith)
takes_below c q n ReadFirst l h = assign_below (n + 1) n (word_at c q q.adr) (omega arith) (λ x e. let z = eqb-true q.adr x (sym (word_names c q x q.adr) ∙ e) in omega arith)
takes_below c q n NoChange l h =
    unwritten_below c (n + 1) q.writer (one (Assign (Whole n) (word_at c q q.adr))) (we_below (n + 1) q.writer n (omega arith) h)
    (assign_below (n + 1) n (word_at c q q.adr) (omega arith) (λ x e. let z = eqb-true q.adr x (sym (word_names c q x q.adr) ∙ e) in omega arith))

below_append : (n m : ℕ) (a b : Block) → n ≤ m → NamesBelow n a → NamesBelow m b → NamesBelow m (append a b)
below_append n m a b l h k x e =
    elim (or_cases (block_mentions (At x) a) (block_mentions (At x) b) (sym (mentions_append (At x) a b) ∙ e)) [
      | inl p ↦ (let z = h x p in omega arith)
      | inr p ↦ k x p
    ]

domains_wider : (n m : ℕ) (ds : List Domain) → n ≤ m → EachOf (λ (d : Domain). NamesBelow n d.stmts) ds → EachOf (λ (d : Domain). NamesBelow m d.stmts) ds
domains_wider n m [] l h = tt
domains_wider n m (d ∷ ds) l h = (λ x e. (let z = h.0 x e in omega arith), domains_wider n m ds l h.1)

domains_changed : (n m k : ℕ) (b : Block) (ds : List Domain) → n ≤ m → EachOf (λ (d : Domain). NamesBelow n d.stmts) ds → NamesBelow m b → EachOf (λ (d : Domain). NamesBelow m d.stmts) (changed (with_stmts b) k ds)
domains_changed n m k b [] l h g = tt
domains_changed n m zero b (d ∷ ds) l h g = (below_append n m d.stmts b l h.0 g, domains_wider n m ds l h.1)
domains_changed n m (suc k) b (d ∷ ds) l h g = (λ x e. (let z = h.0 x e in omega arith), domains_changed n m k b ds l h.1 g)

domains_more : (n m : ℕ) (o : Option ℕ) (b : Block) (ds : List Domain) → n ≤ m → EachOf (λ (d : Domain). NamesBelow n d.stmts) ds → NamesBelow m b → EachOf (λ (d : Domain). NamesBelow m d.stmts) (with_sync ds o b)
domains_more n m None b ds l h g = domains_wider n m ds l h
domains_more n m (Some k) b ds l h g = domains_changed n m k b ds l h g

domains_length : (o : Option ℕ) (b : Block) (ds : List Domain) → length (with_sync ds o b) ≡ length ds
domains_length None b ds = refl
domains_length (Some k) b ds = changed_length (with_stmts b) k ds

-- ---- ports

reader_wider : (c : Circuit) (j : ℕ) (q p : Port) (r : ℕ) (o : Option ℕ) → IfSome o (λ x. (x < length c.signals) × (shapes c x ≡ word_shape c p)) → IfSome o (λ x. (x < length (ported c j q r).signals) × (shapes (ported c j q r) x ≡ word_shape c p))
reader_wider c j q p r None h = tt
reader_wider c j q p r (Some x) h = (let z = more_signals c j q r in let l = h.0 in omega arith, ap (λ (m : Made). m.shape) (made_before c j q r x h.0) ∙ h.1)

writer_wider : (n m : ℕ) (o : Option Writer) → n ≤ m → IfSome o (λ u. (u.from < n) × (u.we < n)) → IfSome o (λ u. (u.from < m) × (u.we < m))
writer_wider n m None l h = tt
writer_wider n m (Some u) l h = ((let z = h.0 in omega arith), (let z = h.1 in omega arith))

fits_wider : (c : Circuit) (j : ℕ) (q p : Port) (r : ℕ) → PortFits c p → PortFits (ported c j q r) p
fits_wider c j q p r h =
    let d = ported c j q r in
    let more = more_signals c j q r in
    let adr = h.adr in
    record {
      adr = omega arith;
      plain = ap (λ (m : Made). m.shape.signed) (made_before c j q r p.adr h.adr) ∙ h.plain;
      word = h.word;
      reader = reader_wider c j q p r p.reader h.reader;
      writer = writer_wider (length c.signals) (length d.signals) p.writer (omega arith) h.writer;
      domain = λ e. subst (λ n. IsSomeAnd p.domain (λ k. k < n)) (sym (domains_length q.domain (takes c q (length c.signals) q.mode) c.domains)) (h.domain e);
    }

fits_silent : (c : Circuit) (p : Port) → PortFits c p → PortFits c (silent p)
fits_silent c p h = record { adr = h.adr; plain = h.plain; word = h.word; reader = tt; writer = h.writer; domain = h.domain }

ports_fit : (c : Circuit) (j : ℕ) (q : Port) (r i : ℕ) → Shows c j q r → i < length (ported c j q r).ports → PortFits (ported c j q r) (port_at (ported c j q r) i)
ports_fit c j q r i h l =
    let d = ported c j q r in
    let there : i < length c.ports = (let z = changed_length silent j c.ports in omega arith) in
    let fits = fits_wider c j q (port_at c i) r (h.can.ports i there) in
    by_test (nat_eq j i)
    (λ e. let same : port_at d i ≡ silent (port_at c i) = subst (λ k. port_at d k ≡ silent (port_at c k)) (eqb-true j i e) (changed_here silent j c.ports no_port h.there) in
    subst (λ p. PortFits d p) (sym same) (fits_silent d (port_at c i) fits))
    (λ e. subst (λ p. PortFits d p) (sym (changed_there silent j i c.ports no_port e)) fits)

read_number : (a b : ℕ) → Read a ≡ Read b → a ≡ b
read_number a b e = cc

reader_there : (c : Circuit) → CanLowerPorts c → (i x : ℕ) → (port_at c i).reader ≡ Some x → x < length c.signals
reader_there c h i x e =
    by_test (nat_lt i (length c.ports))
    (λ t. (subst (λ o. IfSome o (λ y. (y < length c.signals) × (shapes c y ≡ word_shape c (port_at c i)))) e (h.ports i (ltb-true i (length c.ports) t)).reader).0)
    (λ t. let none : port_at c i ≡ no_port = index_past c.ports i no_port (ltb-false i (length c.ports) t) in
    let z : (port_at c i).reader ≡ None = ap (λ (p : Port). p.reader) none in absurd (cc))

show_alone : (c : Circuit) (j : ℕ) (q : Port) (r i x : ℕ) → Shows c j q r → (port_at (ported c j q r) i).reader ≡ Some x → role (ported c j q r) x ≡ Read i
show_alone c j q r i x h e =
    let d = ported c j q r in
    by_test (nat_eq j i)
    (λ t. let same : port_at d i ≡ silent (port_at c i) = subst (λ k. port_at d k ≡ silent (port_at c k)) (eqb-true j i t) (changed_here silent j c.ports no_port h.there) in
    let z : (port_at d i).reader ≡ None = ap (λ (p : Port). p.reader) same in absurd (cc))
    (λ t. let reader : (port_at c i).reader ≡ Some x = ap (λ (p : Port). p.reader) (sym (changed_there silent j i c.ports no_port t)) ∙ e in
    let is = h.can.alone.each i x reader in
    let apart : nat_eq r x ≡ false = false_from_ne_true (nat_eq r x)
    (λ s. let z : role c r ≡ Read i = subst (λ y. role c y ≡ Read i) (sym (eqb-true r x s)) is in
    let n = read_number j i (sym (known c j q r h).alone ∙ z) in
    let k = eq-eqb j i n in absurd (cc)) in
    role_before c j q r x h (reader_there c h.can i x reader) apart ∙ is)

-- ---- the circuit

pub can_go_on : (c : Circuit) (j : ℕ) (q : Port) (r : ℕ) → Shows c j q r → CanLowerPorts (ported c j q r)
can_go_on c j q r h =
    let d = ported c j q r in
    let n = length c.signals in
    let own = known c j q r h in
    let more = more_signals c j q r in
    let wide : n ≤ length d.signals = omega arith in
    let reader : r < length d.signals = (let z = own.reader_there in omega arith) in
    record {
      signals = signals_made c j q r h;
      small = λ x l. signals_small c j q r x h l;
      comb = below_append n (length d.signals) c.comb (one (Assign (Whole r) (reads c q n q.mode))) wide h.can.comb
          (assign_below (length d.signals) r (reads c q n q.mode) reader (λ x e. subst (λ k. x < k) (sym more) (reads_below c q n x q.mode own.fits.adr e)));
      domains = domains_more n (length d.signals) q.domain (takes c q n q.mode) c.domains wide h.can.domains (λ x e. subst (λ k. x < k) (sym more) (takes_below c q n q.mode own.fits.adr own.fits.writer x e));
      resets = λ x e. (let z = h.can.resets x (sym (with_resets x c.domains q.domain (takes c q n q.mode)) ∙ e) in omega arith);
      ios = λ x e. (let z = h.can.ios x e in omega arith);
      ports = λ i l. ports_fit c j q r i h l;
      alone = record { each = λ i x e. show_alone c j q r i x h e };
    }
