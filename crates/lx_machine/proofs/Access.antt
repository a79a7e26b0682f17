-- An access of a register's region, from an idle bus.
use Rattle.std.proofs.Common.{◌≡◌, ℕ, ℤ, pos, Bool, true, false, List, [], ◌∷◌, Option, Some, None, ◌+◌, ◌/◌, ◌%◌, ◌^◌, inl, inr, ◌&&◌, cond, not, refl, sym, ◌∙◌, ap, subst, nat_eq, eq-eqb, is_some, nat_le, nat_lt, ◌-◌, ◌≤◌}
use Rattle.std.proofs.lemmas.Bool.{leb-true, ltb-true}
use Rattle.lx_num.specs.Ints.{modulo}
use Rattle.lx_circuit.specs.Places.{Values, At}
use Rattle.lx_circuit.specs.Values.{flag}
use Rattle.lx_circuit.specs.Statements.{laid_over}
use Rattle.lx_circuit.specs.Memories.{laid_parts}
use Rattle.lx_circuit.specs.Circuit.{Step}
use Rattle.lx_machine.specs.Map.{CsrWord, StorageParts, Kind, Storage, Raw, Register}
use Rattle.lx_machine.specs.System.{System, Target, Csr}
use Rattle.lx_machine.specs.Bus.{Bus, Phase, Idle, Answering, bit_of, register, manager_at, selected, target, place_of, address, word_at, is_last, answers, offer_word, edge, device_next, storage_written, buffer_written, storage_of, storage_next, buffer_of, buffer_next, written_word, is_last_of, pend_next, clears_in, marks, csr_writes, csr_reads, ram_writes, takes, writes, offset_in, region_at}
use Rattle.lx_machine.specs.Gives.{Given, gives_kind, answered, ack_of, err_of, dat_r_of, is_written, is_read}
use Rattle.lx_machine.specs.Views.{State, Runs, system_next}
use Rattle.lx_machine.specs.Access.{Each, Either, Ask, Asks, Rises, Trace, until_edge, after_edge, last_of, no_values, taking, closing, write_ask}
use Rattle.lx_machine.specs.Sound.{IsSound}
use Rattle.lx_machine.specs.Laws.{CsrRan, Acknowledges, asked_word, written, buffered, IsStorageOver, fires_at, pend_over, marked, ShowsAsked, ShowsNothing, IsRawOver}
use Rattle.lx_machine.proofs.Given.{at_given, port_row, register_row, Among}
use Rattle.lx_machine.proofs.Numbers.{bit_carried}
use Rattle.lx_machine.proofs.Edges.{SettledAt, NotReset, two_edges}
use Rattle.lx_machine.proofs.Asked.{Reaches, asked_all, address_is, target_is, selected_is, writes_idle, reads_idle, phase_taken, word_idle, last_is, writes_taken, reads_taken, phase_closed, word_taken}

pub each_map : {A : Type 0} (P Q : A → Type 0) (xs : List A) → ((x : A) → P x → Q x) → Each P xs → Each Q xs
each_map P Q [] f h = tt
each_map P Q (x ∷ xs) f h = (f x h.0, each_map P Q xs f h.1)

pub each_both : {A : Type 0} (P Q R : A → Type 0) (xs : List A) → ((x : A) → P x → Q x → R x) → Each P xs → Each Q xs → Each R xs
each_both P Q R [] f h k = tt
each_both P Q R (x ∷ xs) f h k = (f x h.0 k.0, each_both P Q R xs f h.1 k.1)

-- the last of some values has what each has
last_has : (P : Values → Type 0) (v : Values) (ws : List Values) → P v → Each P ws → P (last_of v ws)
last_has P v [] h k = h
last_has P v (w ∷ ws) h k = last_has P w ws k.0 k.1

-- ---- what an access is

-- what is known of an access that ran: b is the bus before it
pub record Known (y : System) (q : Ask) (t : Trace) (new : Bus) : Type 0 where
  pub reaches : Reaches y q
  pub idle : t.from.bus.phase ≡ Idle
  pub taking_asks : Asks y q (taking y t)
  pub closing_asks : Asks y q (closing t)
  pub moves : new ≡ edge y (edge y t.from.bus (taking y t)) (closing t)
  pub before : Each (SettledAt y t.from.bus) (until_edge y t.steps t.values)
  pub after : Each (SettledAt y (edge y t.from.bus (taking y t))) (after_edge y t.steps t.values)
  pub before_asks : Each (Asks y q) (until_edge y t.steps t.values)
  pub after_asks : Each (Asks y q) (after_edge y t.steps t.values)

-- facts of all values hold before and after the edge
until_by : (y : System) (P : Values → Type 0) (r : Bool) (w : Values) (us : List Values) → P w → Each P us → Each P (cond r (w ∷ []) (w ∷ us))
until_by y P true w us h k = (h, tt)
until_by y P false w us h k = (h, k)

until_has : (y : System) (P : Values → Type 0) (ts : List Step) (ws : List Values) → Each P ws → Each P (until_edge y ts ws)
until_has y P [] ws h = tt
until_has y P (t ∷ ts) [] h = tt
until_has y P (t ∷ ts) (w ∷ ws) h = until_by y P (t.rises y.sys) w (until_edge y ts ws) h.0 (until_has y P ts ws h.1)

after_by : (P : Values → Type 0) (r : Bool) (us vs : List Values) → Each P us → Each P vs → Each P (cond r us vs)
after_by P true us vs h k = h
after_by P false us vs h k = k

after_has : (y : System) (P : Values → Type 0) (ts : List Step) (ws : List Values) → Each P ws → Each P (after_edge y ts ws)
after_has y P [] ws h = tt
after_has y P (t ∷ ts) [] h = tt
after_has y P (t ∷ ts) (w ∷ ws) h = after_by P (t.rises y.sys) ws (after_edge y ts ws) h.1 (after_has y P ts ws h.1)

-- the taking edge, and the last step, are among them
taking_by : (P : Values → Type 0) (r : Bool) (v w : Values) (us : List Values) → P w → Each P us → P (last_of v (cond r (w ∷ []) (w ∷ us)))
taking_by P true v w us h k = h
taking_by P false v w us h k = last_has P w us h k

taking_has : (y : System) (P : Values → Type 0) (st new : State) (ts : List Step) (ws : List Values) (v : Values) → Rises y 2 ts → Runs y st ts ws new → Each P ws → P (last_of v (until_edge y ts ws))
taking_has y P st new [] ws v r run h = absurd r
taking_has y P st new (t ∷ ts) [] v r run h = absurd run
taking_has y P st new (t ∷ ts) (w ∷ ws) v r run h = taking_by P (t.rises y.sys) v w (until_edge y ts ws) h.0 (until_has y P ts ws h.1)

closing_has : (y : System) (P : Values → Type 0) (st new : State) (ts : List Step) (ws : List Values) (v : Values) → Rises y 2 ts → Runs y st ts ws new → Each P ws → P (last_of v ws)
closing_has y P st new [] ws v r run h = absurd r
closing_has y P st new (t ∷ ts) [] v r run h = absurd run
closing_has y P st new (t ∷ ts) (w ∷ ws) v r run h = last_has P w ws h.0 h.1

pub known : (y : System) (q : Ask) (t : Trace) (new : State) → CsrRan y q t new → Known y q t new.bus
known y q t new h =
    let asked = asked_all y q t.from t.steps t.values new h.sound h.ran.access.asks h.ran.ran in
    let calm : Each (NotReset y) t.values = each_map (λ w. Asks y q w) (NotReset y) t.values (λ w a. a.reset) asked in
    let two = two_edges y t.from.bus t.from t.steps t.values new refl calm h.ran.access.rises h.ran.ran in
    record {
      reaches = record { aligned = h.aligned; csr = h.csr };
      idle = h.ran.idle;
      taking_asks = taking_has y (λ w. Asks y q w) t.from new t.steps t.values no_values h.ran.access.rises h.ran.ran asked;
      closing_asks = closing_has y (λ w. Asks y q w) t.from new t.steps t.values no_values h.ran.access.rises h.ran.ran asked;
      moves = two.moves no_values no_values;
      before = two.before;
      after = two.after no_values;
      before_asks = until_has y (λ w. Asks y q w) t.steps t.values asked;
      after_asks = after_has y (λ w. Asks y q w) t.steps t.values asked;
    }

-- the bus after the taking edge
abbrev pub taken_bus : System → Trace → Bus
taken_bus y t = edge y t.from.bus (taking y t)

abbrev pub the_word : System → Trace → ℕ
the_word y t = offer_word y t.from.bus (taking y t)

pub phase_is : (y : System) (q : Ask) (t : Trace) (new : Bus) → Known y q t new → (taken_bus y t).phase ≡ Answering (place_of y q.addr) (the_word y t)
phase_is y q t new k = phase_taken y q t.from.bus (taking y t) k.reaches k.taking_asks k.idle

pub idle_again : (y : System) (q : Ask) (t : Trace) (new : Bus) → Known y q t new → new.phase ≡ Idle
idle_again y q t new k =
    ap (λ (b : Bus). b.phase) k.moves ∙ phase_closed y q (taken_bus y t) (closing t) (the_word y t) k.reaches k.closing_asks (phase_is y q t new k)

-- ---- answers

answered_here : (n z : ℕ) → answered (Answering n z) n ≡ z
answered_here n z = ap (λ e. cond e z 0) (eq-eqb n n refl)

acknowledges : (y : System) (q : Ask) (b : Bus) (z : ℕ) (v : Values) → IsSound y → Reaches y q → b.phase ≡ Answering (place_of y q.addr) z → Asks y q v → SettledAt y b v → Acknowledges y z v
acknowledges y q b z v s r p a h =
    let st : State = record { held = h.0; bus = b } in
    record {
      ack =
          at_given y st h.1 v _ h.2 (port_row y _ s (inl refl))
          ∙ (ap (λ (g : Target). ack_of b.phase v (selected y v) g) (target_is y q v r a)
          ∙ (ap (λ (p : Phase). flag (answers p (selected y v))) p
          ∙ ap (λ e. flag e) (eq-eqb (place_of y q.addr) (selected y v) (sym (selected_is y q v r a)))));
      err =
          at_given y st h.1 v _ h.2 (port_row y _ s (inr (inl refl)))
          ∙ ap (λ (g : Target). err_of b.phase v (selected y v) g) (target_is y q v r a);
      dat_r =
          at_given y st h.1 v _ h.2 (port_row y _ s (inr (inr (inl refl))))
          ∙ (ap (λ (g : Target). dat_r_of b.phase v (selected y v) g) (target_is y q v r a)
          ∙ (ap (λ (p : Phase). pos (answered p (selected y v))) p
          ∙ (ap (λ (n : ℕ). pos (answered (Answering (place_of y q.addr) z) n)) (selected_is y q v r a)
          ∙ ap (λ (n : ℕ). pos n) (answered_here (place_of y q.addr) z))));
    }

pub answers_all : (y : System) (q : Ask) (t : Trace) (new : Bus) → IsSound y → Known y q t new → Each (Acknowledges y (the_word y t)) (after_edge y t.steps t.values)
answers_all y q t new s k =
    each_both (λ w. Asks y q w) (SettledAt y (taken_bus y t)) (Acknowledges y (the_word y t)) (after_edge y t.steps t.values)
    (λ w a h. acknowledges y q (taken_bus y t) (the_word y t) w s k.reaches (phase_is y q t new k) a h) k.after_asks k.after

pub answer_law : (y : System) (q : Ask) (t : Trace) (new : State) → CsrRan y q t new
    → (word : ℕ) × Each (Acknowledges y word) (after_edge y t.steps t.values) × (new.bus.phase ≡ Idle)
answer_law y q t new h =
    let k = known y q t new h in
    (the_word y t, answers_all y q t new.bus h.sound k, idle_again y q t new.bus k)

-- the last step is after the taking edge
one_has : (y : System) (P : Values → Type 0) (st new : State) (ts : List Step) (ws : List Values) (v : Values) → Rises y 1 ts → Runs y st ts ws new → Each P ws → P (last_of v ws)
one_has y P st new [] ws v r run h = absurd r
one_has y P st new (t ∷ ts) [] v r run h = absurd run
one_has y P st new (t ∷ ts) (w ∷ ws) v r run h = last_has P w ws h.0 h.1

ends_by : (y : System) (P : Values → Type 0) (st new : State) (b : Bool) (ts : List Step) (ws : List Values) (v : Values) → Either b (Rises y 1 ts) (Rises y 2 ts) → Runs y st ts ws new
    → Each P (cond b ws (after_edge y ts ws)) → (Rises y 2 ts → Each P (after_edge y ts ws) → P (last_of v ws)) → P (last_of v ws)
ends_by y P st new true ts ws v r run h more = one_has y P st new ts ws v r run h
ends_by y P st new false ts ws v r run h more = more r h

ends_has : (y : System) (P : Values → Type 0) (st new : State) (ts : List Step) (ws : List Values) (v : Values) → Rises y 2 ts → Runs y st ts ws new → Each P (after_edge y ts ws) → P (last_of v ws)
ends_has y P st new [] ws v r run h = absurd r
ends_has y P st new (t ∷ ts) [] v r run h = absurd run
ends_has y P st new (t ∷ ts) (w ∷ ws) v r run h =
    ends_by y P (system_next y st w t.rises) new (t.rises y.sys) ts ws w r run.1 h (λ k m. ends_has y P (system_next y st w t.rises) new ts ws w k run.1 m)

pub last_acknowledges : (y : System) (q : Ask) (t : Trace) (new : State) → CsrRan y q t new → Acknowledges y (the_word y t) (closing t)
last_acknowledges y q t new h =
    ends_has y (Acknowledges y (the_word y t)) t.from new t.steps t.values no_values h.ran.access.rises h.ran.ran (answers_all y q t new.bus h.sound (known y q t new h))

-- ---- storages

none_written : (atomic last : Bool) (d b : ℕ) (z : ℤ) → storage_written atomic last d b None z ≡ d
none_written true true d b z = refl
none_written true false d b z = refl
none_written false true d b z = refl
none_written false false d b z = refl

some_written : (atomic last : Bool) (d b : ℕ) (w : CsrWord) (z : ℤ)
    → storage_written atomic last d b (Some w) z ≡ cond atomic (cond last (laid_over b w.low w.len z) d) (laid_over d w.low w.len z)
some_written true true d b w z = refl
some_written true false d b w z = refl
some_written false true d b w z = refl
some_written false false d b w z = refl

none_buffered : (atomic last : Bool) (b : ℕ) (z : ℤ) → buffer_written atomic last b None z ≡ b
none_buffered true true b z = refl
none_buffered true false b z = refl
none_buffered false true b z = refl
none_buffered false false b z = refl

some_buffered : (atomic last : Bool) (b : ℕ) (w : CsrWord) (z : ℤ) → buffer_written atomic last b (Some w) z ≡ cond (atomic && not last) (laid_over b w.low w.len z) b
some_buffered true true b w z = refl
some_buffered true false b w z = refl
some_buffered false true b w z = refl
some_buffered false false b w z = refl

written_is : (s : StorageParts) (r : Register) (q : Ask) (o : Option CsrWord) (d b : ℕ) → storage_written s.atomic (is_last r.words q.addr) d b o q.number ≡ written s r q o d b
written_is s r q None d b = none_written s.atomic (is_last r.words q.addr) d b q.number
written_is s r q (Some w) d b = some_written s.atomic (is_last r.words q.addr) d b w q.number

buffered_is : (s : StorageParts) (r : Register) (q : Ask) (o : Option CsrWord) (b : ℕ) → buffer_written s.atomic (is_last r.words q.addr) b o q.number ≡ buffered s r q o b
buffered_is s r q None b = none_buffered s.atomic (is_last r.words q.addr) b q.number
buffered_is s r q (Some w) b = some_buffered s.atomic (is_last r.words q.addr) b w q.number

-- the number on the bus, where a word is written
number_by : (b : Bool) (z n : ℤ) (o : Option CsrWord) (f : Option CsrWord → ℤ → ℕ) → (b ≡ true → z ≡ n) → f None z ≡ f None n → f (cond b o None) z ≡ f (cond b o None) n
number_by true z n o f e h = ap (λ (x : ℤ). f o x) (e refl)
number_by false z n o f e h = h

of_storage : (y : System) (b : Bus) (v : Values) (k : ℕ) (r : Register) (s : StorageParts) → register y k ≡ Some r → r.kind ≡ Storage s
    → (edge y b v).storage k ≡ storage_written s.atomic (is_last_of y v r) (device_next s.device r.size v (b.storage k)) (b.buffer k) (written_word y b v r) (v (At y.port.dat_w))
of_storage y b v k r s e kd = ap (λ (o : Option Register). storage_next y b v k o) e ∙ ap (λ (d : Kind). storage_of y b v k r d) kd

of_buffer : (y : System) (b : Bus) (v : Values) (k : ℕ) (r : Register) (s : StorageParts) → register y k ≡ Some r → r.kind ≡ Storage s
    → (edge y b v).buffer k ≡ buffer_written s.atomic (is_last_of y v r) (b.buffer k) (written_word y b v r) (v (At y.port.dat_w))
of_buffer y b v k r s e kd = ap (λ (o : Option Register). buffer_next y b v k o) e ∙ ap (λ (d : Kind). buffer_of y b v k r d) kd

-- a storage and its buffer at the taking edge
storage_taken : (y : System) (q : Ask) (t : Trace) (new : Bus) (k : ℕ) (r : Register) (s : StorageParts) → Known y q t new → register y k ≡ Some r → r.kind ≡ Storage s
    → (taken_bus y t).storage k ≡ written s r q (asked_word q r) (device_next s.device r.size (taking y t) (t.from.bus.storage k)) (t.from.bus.buffer k)
storage_taken y q t new k r s h e kd =
    let b = t.from.bus in
    let v = taking y t in
    let d = device_next s.device r.size v (b.storage k) in
    of_storage y b v k r s e kd
    ∙ (ap (λ l. storage_written s.atomic l d (b.buffer k) (written_word y b v r) (v (At y.port.dat_w))) (last_is y q v r h.reaches h.taking_asks)
    ∙ (ap (λ (o : Option CsrWord). storage_written s.atomic (is_last r.words q.addr) d (b.buffer k) o (v (At y.port.dat_w))) (word_idle y q b v r h.reaches h.taking_asks h.idle)
    ∙ (number_by q.writes (v (At y.port.dat_w)) q.number (word_at r.words q.addr) (λ o z. storage_written s.atomic (is_last r.words q.addr) d (b.buffer k) o z) h.taking_asks.dat_w
    (none_written s.atomic (is_last r.words q.addr) d (b.buffer k) (v (At y.port.dat_w)) ∙ sym (none_written s.atomic (is_last r.words q.addr) d (b.buffer k) q.number))
    ∙ written_is s r q (asked_word q r) d (b.buffer k))))

buffer_taken : (y : System) (q : Ask) (t : Trace) (new : Bus) (k : ℕ) (r : Register) (s : StorageParts) → Known y q t new → register y k ≡ Some r → r.kind ≡ Storage s
    → (taken_bus y t).buffer k ≡ buffered s r q (asked_word q r) (t.from.bus.buffer k)
buffer_taken y q t new k r s h e kd =
    let b = t.from.bus in
    let v = taking y t in
    of_buffer y b v k r s e kd
    ∙ (ap (λ l. buffer_written s.atomic l (b.buffer k) (written_word y b v r) (v (At y.port.dat_w))) (last_is y q v r h.reaches h.taking_asks)
    ∙ (ap (λ (o : Option CsrWord). buffer_written s.atomic (is_last r.words q.addr) (b.buffer k) o (v (At y.port.dat_w))) (word_idle y q b v r h.reaches h.taking_asks h.idle)
    ∙ (number_by q.writes (v (At y.port.dat_w)) q.number (word_at r.words q.addr) (λ o z. buffer_written s.atomic (is_last r.words q.addr) (b.buffer k) o z) h.taking_asks.dat_w
    (none_buffered s.atomic (is_last r.words q.addr) (b.buffer k) (v (At y.port.dat_w)) ∙ sym (none_buffered s.atomic (is_last r.words q.addr) (b.buffer k) q.number))
    ∙ buffered_is s r q (asked_word q r) (b.buffer k))))

-- and at the second edge
storage_closed : (y : System) (q : Ask) (t : Trace) (new : Bus) (k : ℕ) (r : Register) (s : StorageParts) → Known y q t new → register y k ≡ Some r → r.kind ≡ Storage s
    → new.storage k ≡ device_next s.device r.size (closing t) ((taken_bus y t).storage k)
storage_closed y q t new k r s h e kd =
    let c = taken_bus y t in
    let v = closing t in
    let d = device_next s.device r.size v (c.storage k) in
    ap (λ (b : Bus). b.storage k) h.moves
    ∙ (of_storage y c v k r s e kd
    ∙ (ap (λ (o : Option CsrWord). storage_written s.atomic (is_last_of y v r) d (c.buffer k) o (v (At y.port.dat_w))) (word_taken y q c v (the_word y t) r h.reaches h.closing_asks (phase_is y q t new h))
    ∙ none_written s.atomic (is_last_of y v r) d (c.buffer k) (v (At y.port.dat_w))))

buffer_closed : (y : System) (q : Ask) (t : Trace) (new : Bus) (k : ℕ) (r : Register) (s : StorageParts) → Known y q t new → register y k ≡ Some r → r.kind ≡ Storage s
    → new.buffer k ≡ (taken_bus y t).buffer k
buffer_closed y q t new k r s h e kd =
    let c = taken_bus y t in
    let v = closing t in
    ap (λ (b : Bus). b.buffer k) h.moves
    ∙ (of_buffer y c v k r s e kd
    ∙ (ap (λ (o : Option CsrWord). buffer_written s.atomic (is_last_of y v r) (c.buffer k) o (v (At y.port.dat_w))) (word_taken y q c v (the_word y t) r h.reaches h.closing_asks (phase_is y q t new h))
    ∙ none_buffered s.atomic (is_last_of y v r) (c.buffer k) (v (At y.port.dat_w))))

pub storage_law : (y : System) (q : Ask) (t : Trace) (new : State) → CsrRan y q t new → (k : ℕ) (r : Register) (s : StorageParts) → register y k ≡ Some r → r.kind ≡ Storage s → IsStorageOver y s r q t new k
storage_law y q t new h k r s e kd =
    let n = known y q t new h in
    record {
      storage = storage_closed y q t new.bus k r s n e kd ∙ ap (λ (p : ℕ). device_next s.device r.size (closing t) p) (storage_taken y q t new.bus k r s n e kd);
      buffer = buffer_closed y q t new.bus k r s n e kd ∙ buffer_taken y q t new.bus k r s n e kd;
    }

-- ---- RAM

never : (a b c : Bool) → (a && (b && (c && false))) ≡ false
never true true true = refl
never true true false = refl
never true false c = refl
never false b c = refl

keeps_word : (y : System) (b : Bus) (v : Values) (place n : ℕ) → target y v ≡ Csr → (edge y b v).ram place n ≡ b.ram place n
keeps_word y b v place n e =
    let z = writes y b v in
    let none : ram_writes y b v place n ≡ false =
    ap (λ (g : Target). z && (nat_eq (selected y v) place && (nat_eq (offset_in (region_at y place) (address y v)) n && takes g n))) e
    ∙ never z (nat_eq (selected y v) place) (nat_eq (offset_in (region_at y place) (address y v)) n) in
    ap (λ c. cond c (laid_parts 8 (v (At y.port.sel)) (v (At y.port.dat_w)) (b.ram place n) 4) (b.ram place n)) none

pub ram_law : (y : System) (q : Ask) (t : Trace) (new : State) → CsrRan y q t new → (place n : ℕ) → new.bus.ram place n ≡ t.from.bus.ram place n
ram_law y q t new h place n =
    let k = known y q t new h in
    ap (λ (b : Bus). b.ram place n) k.moves
    ∙ (keeps_word y (taken_bus y t) (closing t) place n (target_is y q (closing t) k.reaches k.closing_asks)
    ∙ keeps_word y t.from.bus (taking y t) place n (target_is y q (taking y t) k.reaches k.taking_asks))

-- ---- events

-- the pending bit of source i of manager m at an edge
abbrev pub pend_edge : System → Bus → Values → ℕ → ℕ → Bool → Bool
pend_edge y b v m i clear = pend_next (fires_at y m i v (b.last m i)) clear (b.pend m i)

clears_is : (y : System) (b : Bus) (v : Values) (m i k : ℕ) (r : Register) → (manager_at y m).pending ≡ k → register y k ≡ Some r
    → (edge y b v).pend m i ≡ pend_edge y b v m i (marks (written_word y b v r) (v (At y.port.dat_w)) i)
clears_is y b v m i k r e f =
    ap (λ (j : ℕ). pend_edge y b v m i (clears_in y b v (register y j) i)) e ∙ ap (λ (o : Option Register). pend_edge y b v m i (clears_in y b v o i)) f

pend_over_is : (y : System) (q : Ask) (t : Trace) (new : Bus) (m i k : ℕ) (r : Register) → Known y q t new → (manager_at y m).pending ≡ k → register y k ≡ Some r
    → new.pend m i ≡ pend_over y m i t (marks (asked_word q r) (taking y t (At y.port.dat_w)) i)
pend_over_is y q t new m i k r h e f =
    let b = t.from.bus in
    let c = taken_bus y t in
    ap (λ (d : Bus). d.pend m i) h.moves
    ∙ (clears_is y c (closing t) m i k r e f
    ∙ (ap (λ (o : Option CsrWord). pend_edge y c (closing t) m i (marks o (closing t (At y.port.dat_w)) i)) (word_taken y q c (closing t) (the_word y t) r h.reaches h.closing_asks (phase_is y q t new h))
    ∙ ap (λ p. pend_next (fires_at y m i (closing t) (c.last m i)) false p)
    (clears_is y b (taking y t) m i k r e f
    ∙ ap (λ (o : Option CsrWord). pend_edge y b (taking y t) m i (marks o (taking y t (At y.port.dat_w)) i)) (word_idle y q b (taking y t) r h.reaches h.taking_asks h.idle))))

pub pend_others : (y : System) (q : Ask) (t : Trace) (new : State) → CsrRan y q t new → (m i k : ℕ) (r : Register) → (manager_at y m).pending ≡ k → register y k ≡ Some r
    → asked_word q r ≡ None → new.bus.pend m i ≡ pend_over y m i t false
pend_others y q t new h m i k r e f n =
    pend_over_is y q t new.bus m i k r (known y q t new h) e f ∙ ap (λ (o : Option CsrWord). pend_over y m i t (marks o (taking y t (At y.port.dat_w)) i)) n

-- a word of v marks the bits of v that it holds
marks_by : (v i : ℕ) (w : CsrWord) (a b : Bool) → nat_le w.low i ≡ a → nat_lt i (w.low + w.len) ≡ b → w.len ≤ 32
    → (a && (b && bit_of (pos (v / 2 ^ w.low % 2 ^ 32)) (i - w.low))) ≡ (a && (b && bit_of (pos v) i))
marks_by v i w true true e f s = bit_carried v w.low w.len i s (leb-true w.low i e) (ltb-true i (w.low + w.len) f)
marks_by v i w true false e f s = refl
marks_by v i w false b e f s = refl

pub pend_written : (y : System) (v : ℕ) (w : CsrWord) (t : Trace) (new : State) → CsrRan y (write_ask v w) t new
    → (m i k : ℕ) (r : Register) → (manager_at y m).pending ≡ k → register y k ≡ Some r → word_at r.words w.addr ≡ Some w
    → w.len ≤ 32 → new.bus.pend m i ≡ pend_over y m i t (marked w v i)
pend_written y v w t new h m i k r e f found short =
    let n = known y (write_ask v w) t new h in
    pend_over_is y (write_ask v w) t new.bus m i k r n e f
    ∙ (ap (λ (o : Option CsrWord). pend_over y m i t (marks o (taking y t (At y.port.dat_w)) i)) found
    ∙ (ap (λ (z : ℤ). pend_over y m i t (marks (Some w) z i)) (n.taking_asks.dat_w refl)
    ∙ ap (λ c. pend_over y m i t c) (marks_by v i w (nat_le w.low i) (nat_lt i (w.low + w.len)) refl refl short)))

-- ---- raw registers

raw_rows : (y : System) (k : ℕ) (r : Register) (to re we from : ℕ) → r.kind ≡ Raw to re we from → (g : Given) → Among g (gives_kind y k r (Raw to re we from)) → Among g (gives_kind y k r r.kind)
raw_rows y k r to re we from e g m = subst (λ (d : Kind). Among g (gives_kind y k r d)) (sym e) m

found_some : (y : System) (q : Ask) (v : Values) (r : Register) (w : CsrWord) → Reaches y q → Asks y q v → word_at r.words q.addr ≡ Some w → is_some (word_at r.words (address y v)) ≡ true
found_some y q v r w c a f = ap (λ (n : ℕ). is_some (word_at r.words n)) (address_is y q v c a) ∙ ap (λ (o : Option CsrWord). is_some o) f

and_yes : (a b : Bool) → b ≡ true → (a && b) ≡ a
and_yes true b e = e
and_yes false b e = refl

raw_number : (y : System) (b : Bus) (v : Values) (k : ℕ) (r : Register) (to re we from : ℕ) → IsSound y → register y k ≡ Some r → r.kind ≡ Raw to re we from → SettledAt y b v → v (At to) ≡ pos (modulo (v (At y.port.dat_w)) (2 ^ r.size))
raw_number y b v k r to re we from s e kd h =
    at_given y (record { held = h.0; bus = b }) h.1 v _ h.2 (register_row y _ k r s e (raw_rows y k r to re we from kd _ (inl refl)))

raw_written : (y : System) (b : Bus) (v : Values) (k : ℕ) (r : Register) (to re we from : ℕ) → IsSound y → register y k ≡ Some r → r.kind ≡ Raw to re we from → SettledAt y b v → v (At re) ≡ flag (is_written y b v r)
raw_written y b v k r to re we from s e kd h =
    at_given y (record { held = h.0; bus = b }) h.1 v _ h.2 (register_row y _ k r s e (raw_rows y k r to re we from kd _ (inr (inl refl))))

raw_read : (y : System) (b : Bus) (v : Values) (k : ℕ) (r : Register) (to re we from : ℕ) → IsSound y → register y k ≡ Some r → r.kind ≡ Raw to re we from → SettledAt y b v → v (At we) ≡ flag (is_read y b v r)
raw_read y b v k r to re we from s e kd h =
    at_given y (record { held = h.0; bus = b }) h.1 v _ h.2 (register_row y _ k r s e (raw_rows y k r to re we from kd _ (inr (inr (inl refl)))))

pub raw_law : (y : System) (q : Ask) (t : Trace) (new : State) → CsrRan y q t new
    → (k : ℕ) (r : Register) (w : CsrWord) (to re we from : ℕ) → register y k ≡ Some r → r.kind ≡ Raw to re we from → word_at r.words q.addr ≡ Some w
    → IsRawOver y r.size to re we q t
raw_law y q t new h k r w to re we from e kd found =
    let n = known y q t new h in
    let b = t.from.bus in
    let c = taken_bus y t in
    record {
      until = each_both (λ v. Asks y q v) (SettledAt y b) (ShowsAsked y r.size to re we q) (until_edge y t.steps t.values)
          (λ v a s. record {
            number = λ z. raw_number y b v k r to re we from h.sound e kd s ∙ ap (λ (x : ℤ). pos (modulo x (2 ^ r.size))) (a.dat_w z);
            written = raw_written y b v k r to re we from h.sound e kd s
                ∙ ap (λ x. flag x) (and_yes (csr_writes y b v) (is_some (word_at r.words (address y v))) (found_some y q v r w n.reaches a found) ∙ writes_idle y q b v n.reaches a n.idle);
            read = raw_read y b v k r to re we from h.sound e kd s
                ∙ ap (λ x. flag x) (and_yes (csr_reads y b v) (is_some (word_at r.words (address y v))) (found_some y q v r w n.reaches a found) ∙ reads_idle y q b v n.reaches a n.idle);
          }) n.before_asks n.before;
      after = each_both (λ v. Asks y q v) (SettledAt y c) (ShowsNothing re we) (after_edge y t.steps t.values)
          (λ v a s. record {
            written = raw_written y c v k r to re we from h.sound e kd s
                ∙ ap (λ x. flag (x && is_some (word_at r.words (address y v)))) (writes_taken y q c v (the_word y t) n.reaches a (phase_is y q t new.bus n));
            read = raw_read y c v k r to re we from h.sound e kd s
                ∙ ap (λ x. flag (x && is_some (word_at r.words (address y v)))) (reads_taken y q c v (the_word y t) n.reaches a (phase_is y q t new.bus n));
          }) n.after_asks n.after;
    }
