-- What the bus gives hangs on what its row reads.
use Rattle.std.proofs.Common.{◌≡◌, ℕ, ℤ, pos, Bool, true, false, List, [], ◌∷◌, ◌++◌, Option, Some, None, ◌+◌, ◌*◌, ◌^◌, ◌||◌, ◌&&◌, cond, not, refl, sym, ◌∙◌, ap, nat_eq, zero, suc, eq-eqb, is_some, slice_index_or, ap₂}
use Rattle.lx_num.specs.Ints.{modulo}
use Rattle.lx_circuit.specs.Places.{Values, At}
use Rattle.lx_circuit.specs.Values.{flag, is_zero, count_of}
use Rattle.lx_circuit.specs.Circuit.{is_among, is_reset, domain_at}
use Rattle.std.proofs.lemmas.Bool.{or_left, or_right}
use Rattle.lx_machine.specs.Map.{CsrWord, FieldSignal, Shown, Kind, Storage, Status, Raw, EventStatus, EventPending, Register}
use Rattle.lx_machine.specs.System.{System, Source, SourceKind, Pulse, Rising, Falling, Level, Manager, Slave, Target, Csr, Memory, User, Null, Region}
use Rattle.lx_machine.specs.Bus.{Bus, Phase, is_on, bit_of, number_of, null_region, place_of, target_of, address, selected, target, word_at, is_csr, is_user, answers, in_reset, csr_writes, csr_reads, status_of, pending_of, marks, clears_in, register, manager_at}
use Rattle.lx_machine.specs.Gives.{Given, reset_signal, offer_reads, gives_fields, gives_shown, is_written, is_read, gives_kind, gives_registers, status_reads, pending_reads, gives_source, gives_sources, interrupts, pendings, gives_manager, gives_managers, gives_target, gives_targets, ack_of, err_of, dat_r_of, of_user, of_users, is_number, line, lines_read, gives_port, all_given, given_at}
use Rattle.lx_machine.specs.Access.{Each}

-- ---- agreement on a list of signals

abbrev pub Agree : Values → Values → List ℕ → Type 0
Agree v w xs = Each (λ x. v (At x) ≡ w (At x)) xs

pub agree_each : (v w : Values) (xs : List ℕ) → ((x : ℕ) → is_among x xs ≡ true → v (At x) ≡ w (At x)) → Agree v w xs
agree_each v w [] h = tt
agree_each v w (x ∷ xs) h =
    (h x (or_left (nat_eq x x) (is_among x xs) (eq-eqb x x refl)), agree_each v w xs (λ z e. h z (or_right (nat_eq x z) (is_among z xs) e)))

pub each_append : {A : Type 0} (P : A → Type 0) (xs ys : List A) → Each P xs → Each P ys → Each P (xs ++ ys)
each_append P [] ys h k = k
each_append P (x ∷ xs) ys h k = (h.0, each_append P xs ys h.1 k)

agree_left : (v w : Values) (xs ys : List ℕ) → Agree v w (xs ++ ys) → Agree v w xs
agree_left v w [] ys h = tt
agree_left v w (x ∷ xs) ys h = (h.0, agree_left v w xs ys h.1)

agree_right : (v w : Values) (xs ys : List ℕ) → Agree v w (xs ++ ys) → Agree v w ys
agree_right v w [] ys h = h
agree_right v w (x ∷ xs) ys h = agree_right v w xs ys h.1

abbrev pub Hangs : Given → Type 0
Hangs g = (b : Bus) (v w : Values) → Agree v w g.reads → g.value b v ≡ g.value b w

-- ---- offers

reset_same : (v w : Values) (o : Option ℕ) → Agree v w (reset_signal o) → is_reset v o ≡ is_reset w o
reset_same v w None h = refl
reset_same v w (Some x) h = ap (λ z. not (is_zero z)) h.0

-- whether an access of a register stands, by what it reads
stands_by : System → Bus → (reset : Bool) → (cyc stb adr : ℤ) → Bool
stands_by y b r c s a =
    is_csr (target_of y (4 * count_of a))
    && ((not r && (not (is_zero c) && not (is_zero s))) && (not (is_user (target_of y (4 * count_of a))) && not (answers b.phase (place_of y (4 * count_of a)))))

writes_by : System → Bus → (reset : Bool) → (cyc stb adr we : ℤ) → Bool
writes_by y b r c s a we =
    is_csr (target_of y (4 * count_of a))
    && (((not r && (not (is_zero c) && not (is_zero s))) && (not (is_user (target_of y (4 * count_of a))) && not (answers b.phase (place_of y (4 * count_of a))))) && not (is_zero we))

reads_by : System → Bus → (reset : Bool) → (cyc stb adr we : ℤ) → Bool
reads_by y b r c s a we =
    is_csr (target_of y (4 * count_of a))
    && (((not r && (not (is_zero c) && not (is_zero s))) && (not (is_user (target_of y (4 * count_of a))) && not (answers b.phase (place_of y (4 * count_of a))))) && not (not (is_zero we)))

writes_is : (y : System) (b : Bus) (v : Values) → csr_writes y b v ≡ writes_by y b (in_reset y v) (v (At y.port.cyc)) (v (At y.port.stb)) (v (At y.port.adr)) (v (At y.port.we))
unfolding writes_by
writes_is y b v = refl

reads_is : (y : System) (b : Bus) (v : Values) → csr_reads y b v ≡ reads_by y b (in_reset y v) (v (At y.port.cyc)) (v (At y.port.stb)) (v (At y.port.adr)) (v (At y.port.we))
unfolding reads_by
reads_is y b v = refl

pub writes_same : (y : System) (b : Bus) (v w : Values) → Agree v w (offer_reads y) → csr_writes y b v ≡ csr_writes y b w
writes_same y b v w h =
    let r = reset_same v w (domain_at y.circuit y.sys).reset h.1.1.1.1 in
    writes_is y b v
    ∙ (ap (λ z. writes_by y b z (v (At y.port.cyc)) (v (At y.port.stb)) (v (At y.port.adr)) (v (At y.port.we))) r
    ∙ (ap (λ z. writes_by y b (in_reset y w) z (v (At y.port.stb)) (v (At y.port.adr)) (v (At y.port.we))) h.1.0
    ∙ (ap (λ z. writes_by y b (in_reset y w) (w (At y.port.cyc)) z (v (At y.port.adr)) (v (At y.port.we))) h.1.1.0
    ∙ (ap (λ z. writes_by y b (in_reset y w) (w (At y.port.cyc)) (w (At y.port.stb)) z (v (At y.port.we))) h.0
    ∙ (ap (λ z. writes_by y b (in_reset y w) (w (At y.port.cyc)) (w (At y.port.stb)) (w (At y.port.adr)) z) h.1.1.1.0
    ∙ sym (writes_is y b w))))))

pub reads_same : (y : System) (b : Bus) (v w : Values) → Agree v w (offer_reads y) → csr_reads y b v ≡ csr_reads y b w
reads_same y b v w h =
    let r = reset_same v w (domain_at y.circuit y.sys).reset h.1.1.1.1 in
    reads_is y b v
    ∙ (ap (λ z. reads_by y b z (v (At y.port.cyc)) (v (At y.port.stb)) (v (At y.port.adr)) (v (At y.port.we))) r
    ∙ (ap (λ z. reads_by y b (in_reset y w) z (v (At y.port.stb)) (v (At y.port.adr)) (v (At y.port.we))) h.1.0
    ∙ (ap (λ z. reads_by y b (in_reset y w) (w (At y.port.cyc)) z (v (At y.port.adr)) (v (At y.port.we))) h.1.1.0
    ∙ (ap (λ z. reads_by y b (in_reset y w) (w (At y.port.cyc)) (w (At y.port.stb)) z (v (At y.port.we))) h.0
    ∙ (ap (λ z. reads_by y b (in_reset y w) (w (At y.port.cyc)) (w (At y.port.stb)) (w (At y.port.adr)) z) h.1.1.1.0
    ∙ sym (reads_is y b w))))))

-- the word of a register that is found at the bus's address
found_same : (y : System) (v w : Values) (r : Register) → v (At y.port.adr) ≡ w (At y.port.adr) → word_at r.words (address y v) ≡ word_at r.words (address y w)
found_same y v w r e = ap (λ (z : ℤ). word_at r.words (4 * count_of z)) e

-- ---- registers

fields_hang : (k : ℕ) (fs : List FieldSignal) → Each Hangs (gives_fields k fs)
fields_hang k [] = tt
fields_hang k (f ∷ fs) = ((λ b v w h. refl), fields_hang k fs)

shown_hangs : (k : ℕ) (s : Option Shown) → Each Hangs (gives_shown k s)
shown_hangs k None = tt
shown_hangs k (Some s) = ((λ b v w h. refl), ((λ b v w h. refl), fields_hang k s.fields))

written_same : (y : System) (b : Bus) (v w : Values) (r : Register) → Agree v w (offer_reads y) → is_written y b v r ≡ is_written y b w r
written_same y b v w r h =
    ap₂ (λ (c d : Bool). c && d) (writes_same y b v w h) (ap (λ (o : Option CsrWord). is_some o) (found_same y v w r h.0))

read_same : (y : System) (b : Bus) (v w : Values) (r : Register) → Agree v w (offer_reads y) → is_read y b v r ≡ is_read y b w r
read_same y b v w r h =
    ap₂ (λ (c d : Bool). c && d) (reads_same y b v w h) (ap (λ (o : Option CsrWord). is_some o) (found_same y v w r h.0))

kind_hangs : (y : System) (k : ℕ) (r : Register) (kd : Kind) → Each Hangs (gives_kind y k r kd)
kind_hangs y k r (Storage s) = shown_hangs k s.shown
kind_hangs y k r (Status status we) = ((λ b v w h. refl), tt)
kind_hangs y k r (Raw to re we given) = (
  (λ b v w h. ap (λ z. pos (modulo z (2 ^ r.size))) h.0),
  ((λ b v w h. ap (λ z. flag z) (written_same y b v w r h)), ((λ b v w h. ap (λ z. flag z) (read_same y b v w r h)), tt)),
)
kind_hangs y k r (EventStatus m) = tt
kind_hangs y k r (EventPending m) = tt

registers_hang : (y : System) (k : ℕ) (rs : List Register) → Each Hangs (gives_registers y k rs)
registers_hang y k [] = tt
registers_hang y k (r ∷ rs) = each_append Hangs (gives_kind y k r r.kind) (gives_registers y (k + 1) rs) (kind_hangs y k r r.kind) (registers_hang y (k + 1) rs)

-- ---- sources

status_same : (s : Source) (kd : SourceKind) (v w : Values) → Agree v w (status_reads s kd) → status_of kd (is_on v s.trigger) ≡ status_of kd (is_on w s.trigger)
status_same s Pulse v w h = refl
status_same s Rising v w h = ap (λ z. not (is_zero z)) h.0
status_same s Falling v w h = ap (λ z. not (is_zero z)) h.0
status_same s Level v w h = ap (λ z. not (is_zero z)) h.0

pending_same : (s : Source) (kd : SourceKind) (pend : Bool) (v w : Values) → Agree v w (pending_reads s kd) → pending_of kd (is_on v s.trigger) pend ≡ pending_of kd (is_on w s.trigger) pend
pending_same s Pulse pend v w h = refl
pending_same s Rising pend v w h = refl
pending_same s Falling pend v w h = refl
pending_same s Level pend v w h = ap (λ z. not (is_zero z)) h.0

clears_in_same : (y : System) (b : Bus) (v w : Values) (o : Option Register) (i : ℕ) → Agree v w (y.port.dat_w ∷ offer_reads y) → clears_in y b v o i ≡ clears_in y b w o i
clears_in_same y b v w None i h = refl
clears_in_same y b v w (Some r) i h =
    ap (λ z. marks (cond z (word_at r.words (address y v)) None) (v (At y.port.dat_w)) i) (writes_same y b v w h.1)
    ∙ (ap (λ (o : Option CsrWord). marks (cond (csr_writes y b w) o None) (v (At y.port.dat_w)) i) (found_same y v w r h.1.0)
    ∙ ap (λ z. marks (cond (csr_writes y b w) (word_at r.words (address y w)) None) z i) h.0)

source_hangs : (y : System) (m i : ℕ) (s : Source) → Each Hangs (gives_source y m i s)
source_hangs y m i s = (
  (λ b v w h. ap (λ z. flag z) (status_same s s.kind v w h)),
  (
    (λ b v w h. ap (λ z. flag z) (pending_same s s.kind (b.pend m i) v w h)),
    ((λ b v w h. ap (λ z. flag z) (clears_in_same y b v w (register y (manager_at y m).pending) i h)), tt),
  ),
)

sources_hang : (y : System) (m i : ℕ) (ss : List Source) → Each Hangs (gives_sources y m i ss)
sources_hang y m i [] = tt
sources_hang y m i (s ∷ ss) = each_append Hangs (gives_source y m i s) (gives_sources y m (i + 1) ss) (source_hangs y m i s) (sources_hang y m (i + 1) ss)

interrupts_same : (v w : Values) (enable i : ℕ) (ss : List Source) → Agree v w (pendings ss) → interrupts v enable i ss ≡ interrupts w enable i ss
interrupts_same v w enable i [] h = refl
interrupts_same v w enable i (s ∷ ss) h =
    ap (λ z. (not (is_zero z) && bit_of (pos enable) i) || interrupts v enable (i + 1) ss) h.0
    ∙ ap (λ z. (is_on w s.pending && bit_of (pos enable) i) || z) (interrupts_same v w enable (i + 1) ss h.1)

manager_hangs : (y : System) (m : ℕ) (g : Manager) → Each Hangs (gives_manager y m g)
manager_hangs y m g = ((λ b v w h. ap (λ z. flag z) (interrupts_same v w (b.storage g.enable) 0 g.sources h)), sources_hang y m 0 g.sources)

managers_hang : (y : System) (m : ℕ) (gs : List Manager) → Each Hangs (gives_managers y m gs)
managers_hang y m [] = tt
managers_hang y m (g ∷ gs) = each_append Hangs (gives_manager y m g) (gives_managers y (m + 1) gs) (manager_hangs y m g) (managers_hang y (m + 1) gs)

-- ---- slaves

target_hangs : (y : System) (t : ℕ) (tg : Target) → Each Hangs (gives_target y t tg)
target_hangs y t Csr = tt
target_hangs y t (Memory s) = tt
target_hangs y t (User s) = (
  (λ b v w h. h.0),
  (
    (λ b v w h. h.0),
    (
      (λ b v w h. h.0),
      (
        (λ b v w h.
            ap (λ (z : ℤ). cond (nat_eq (place_of y (4 * count_of z)) t) (v (At y.port.cyc)) (pos 0)) h.0
            ∙ ap (λ z. cond (nat_eq (selected y w) t) z (pos 0)) h.1.0),
        ((λ b v w h. h.0), ((λ b v w h. h.0), tt)),
      ),
    ),
  ),
)
target_hangs y t Null = tt

targets_hang : (y : System) (t : ℕ) (rs : List Region) → Each Hangs (gives_targets y t rs)
targets_hang y t [] = tt
targets_hang y t (r ∷ rs) = each_append Hangs (gives_target y t r.target) (gives_targets y (t + 1) rs) (target_hangs y t r.target) (targets_hang y (t + 1) rs)

-- ---- the port

abbrev UserAgrees : (Slave → ℕ) → Values → Values → Target → Type 0
UserAgrees f v w (User s) = v (At (f s)) ≡ w (At (f s))
UserAgrees f v w _ = Unit {0}

user_of : (f : Slave → ℕ) (v w : Values) (tg : Target) → Agree v w (of_user f tg) → UserAgrees f v w tg
user_of f v w Csr h = tt
user_of f v w (Memory s) h = tt
user_of f v w (User s) h = h.0
user_of f v w Null h = tt

users_agree : (f : Slave → ℕ) (v w : Values) (rs : List Region) (t : ℕ) → Agree v w (of_users f rs) → UserAgrees f v w (slice_index_or rs t null_region).target
users_agree f v w [] t h = tt
users_agree f v w (r ∷ rs) zero h = user_of f v w r.target (agree_left v w (of_user f r.target) (of_users f rs) h)
users_agree f v w (r ∷ rs) (suc t) h = users_agree f v w rs t (agree_right v w (of_user f r.target) (of_users f rs) h)

ack_same : (p : Phase) (v w : Values) (t : ℕ) (tg : Target) → UserAgrees (λ s. s.ack) v w tg → ack_of p v t tg ≡ ack_of p w t tg
ack_same p v w t Csr h = refl
ack_same p v w t (Memory s) h = refl
ack_same p v w t (User s) h = h
ack_same p v w t Null h = refl

err_same : (p : Phase) (v w : Values) (t : ℕ) (tg : Target) → UserAgrees (λ s. s.err) v w tg → err_of p v t tg ≡ err_of p w t tg
err_same p v w t Csr h = refl
err_same p v w t (Memory s) h = refl
err_same p v w t (User s) h = h
err_same p v w t Null h = refl

dat_r_same : (p : Phase) (v w : Values) (t : ℕ) (tg : Target) → UserAgrees (λ s. s.dat_r) v w tg → dat_r_of p v t tg ≡ dat_r_of p w t tg
dat_r_same p v w t Csr h = refl
dat_r_same p v w t (Memory s) h = refl
dat_r_same p v w t (User s) h = h
dat_r_same p v w t Null h = refl

line_same : (v w : Values) (gs : List Manager) (n : ℕ) → Agree v w (lines_read gs) → line v gs n ≡ line w gs n
line_same v w [] n h = refl
line_same v w (g ∷ gs) n h =
    ap (λ z. cond (is_number g.interrupt n) (not (is_zero z)) (line v gs n)) h.0
    ∙ ap (λ z. cond (is_number g.interrupt n) (is_on w g.irq) z) (line_same v w gs n h.1)

pub number_same : (f g : ℕ → Bool) (n : ℕ) → ((i : ℕ) → f i ≡ g i) → number_of f n ≡ number_of g n
number_same f g zero h = refl
number_same f g (suc n) h =
    ap (λ z. z + cond (f n) (2 ^ n) 0) (number_same f g n h) ∙ ap (λ z. number_of g n + cond z (2 ^ n) 0) (h n)

port_hangs : (y : System) → Each Hangs (gives_port y)
port_hangs y = (
  (λ b v w h.
      ap (λ (z : ℤ). ack_of b.phase v (place_of y (4 * count_of z)) (target_of y (4 * count_of z))) h.0
      ∙ ack_same b.phase v w (selected y w) (target y w) (users_agree (λ s. s.ack) v w y.regions (selected y w) h.1)),
  (
    (λ b v w h.
        ap (λ (z : ℤ). err_of b.phase v (place_of y (4 * count_of z)) (target_of y (4 * count_of z))) h.0
        ∙ err_same b.phase v w (selected y w) (target y w) (users_agree (λ s. s.err) v w y.regions (selected y w) h.1)),
    (
      (λ b v w h.
          ap (λ (z : ℤ). dat_r_of b.phase v (place_of y (4 * count_of z)) (target_of y (4 * count_of z))) h.0
          ∙ dat_r_same b.phase v w (selected y w) (target y w) (users_agree (λ s. s.dat_r) v w y.regions (selected y w) h.1)),
      ((λ b v w h. ap (λ (n : ℕ). pos n) (number_same (λ n. line v y.managers n) (λ n. line w y.managers n) 32 (λ n. line_same v w y.managers n h))), tt),
    ),
  ),
)

pub all_hang : (y : System) → Each Hangs (all_given y)
all_hang y =
    each_append Hangs (gives_port y) (gives_registers y 0 y.registers ++ (gives_managers y 0 y.managers ++ gives_targets y 0 y.regions)) (port_hangs y)
    (each_append Hangs (gives_registers y 0 y.registers) (gives_managers y 0 y.managers ++ gives_targets y 0 y.regions) (registers_hang y 0 y.registers)
    (each_append Hangs (gives_managers y 0 y.managers) (gives_targets y 0 y.regions) (managers_hang y 0 y.managers) (targets_hang y 0 y.regions)))

-- ---- the first row of a signal

abbrev pub HangsOr : Option Given → Type 0
HangsOr None = Unit {0}
HangsOr (Some g) = Hangs g

hangs_by : (t : Bool) (g : Given) (o : Option Given) → Hangs g → HangsOr o → HangsOr (cond t (Some g) o)
hangs_by true g o h k = h
hangs_by false g o h k = k

pub given_hangs : (gs : List Given) (x : ℕ) → Each Hangs gs → HangsOr (given_at x gs)
given_hangs [] x h = tt
given_hangs (g ∷ gs) x h = hangs_by (nat_eq g.signal x) g (given_at x gs) h.0 (given_hangs gs x h.1)
