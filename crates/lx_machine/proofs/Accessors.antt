-- Whole accessors: all words of a register, one access after the other.
use Rattle.std.proofs.Common.{◌≡◌, ◌≢◌, ℕ, ℤ, pos, Bool, true, false, List, [], ◌∷◌, Option, Some, None, ◌+◌, ◌*◌, ◌/◌, ◌%◌, ◌^◌, ◌<◌, ◌≤◌, ◌⊎◌, inl, inr, ◌||◌, ◌&&◌, ◌++◌, cond, not, refl, sym, ◌∙◌, ap, subst, nat_eq, nat_le, eq-eqb, is_some, slice_get, zero, suc, zero-add, arith}
use Rattle.std.proofs.lemmas.Bool.{ne_eqb, le-leb, lt-leb, or_parts, or_right, both_ways, eqb-true, and_parts, cond_both}
use Rattle.std.proofs.lemmas.Nat.{pow_pos, mod_below}
use Rattle.lx_num.specs.Ints.{modulo, field_of}
use Rattle.lx_num.proofs.Ints.{modulo-below}
use Rattle.lx_circuit.specs.Places.{Values, At}
use Rattle.lx_circuit.specs.Values.{count_of, flag}
use Rattle.lx_circuit.specs.Statements.{laid_over}
use Rattle.lx_circuit.specs.Circuit.{Step, is_among}
use Rattle.lx_circuit.proofs.Cases.{by_test}
use Rattle.lx_machine.specs.Map.{CsrWord, Device, StorageParts, Kind, Storage, Status, Raw, EventStatus, EventPending, Register, Shown}
use Rattle.lx_machine.specs.System.{System, Target, Csr}
use Rattle.lx_machine.specs.Bus.{Bus, Idle, is_on, in_reset, register, word_at, target_of, is_last, is_highest, read_at, read_word, read_of, write_of, value_of, target, selected, address, device_next, storage_written, buffer_written, storage_of, storage_next, buffer_of, buffer_next, written_word, csr_writes, is_last_of, edge, moved, first_bus, reset_of, reset_of_kind}
use Rattle.lx_machine.specs.Gives.{Given, gives_kind, gives_shown}
use Rattle.lx_machine.specs.Views.{State, IsSystemSettled, Runs, system_next, first_system}
use Rattle.lx_machine.specs.Access.{Each, Ask, AccessRan, AccessorRan, Trace, taking, closing, read_ask, write_ask, reads_all, writes_all, word_read, result_of, from_of, IsIdle}
use Rattle.lx_machine.specs.Sound.{IsSound, IsRegister, IsWord, Ascend, Down, Up, word_addresses, addresses_of, is_distinct}
use Rattle.lx_machine.specs.Laws.{CsrRan, asked_word, written, buffered, RegisterRan, fields_of, last_trace}
use Rattle.lx_machine.proofs.Given.{at_given, register_row, Among}
use Rattle.lx_machine.proofs.Numbers.{laid_all, laid_whole, laid_below, Lies}
use Rattle.lx_machine.proofs.Asked.{address_is, target_is, we_is}
use Rattle.lx_machine.proofs.Access.{Known, known, the_word, idle_again, storage_law, each_map, each_both, last_acknowledges}

-- ---- tests

among_by : (t : Bool) (w : CsrWord) (o : Option CsrWord) (b : Bool) → is_some (cond t (Some w) o) ≡ true → (is_some o ≡ true → b ≡ true) → (t || b) ≡ true
among_by true w o b e h = refl
among_by false w o b e h = h e

or_more : (t a b : Bool) → (t || a) ≡ true → (a ≡ true → b ≡ true) → (t || b) ≡ true
or_more true a b e h = refl
or_more false a b e h = h e

not_first : (a b : Bool) → (not a && b) ≡ true → a ≡ false
not_first true b e = absurd cc
not_first false b e = refl

-- ---- registers of the map

each_get : (P : Register → Type 0) (rs : List Register) (k : ℕ) (r : Register) → Each P rs → slice_get rs k ≡ Some r → P r
each_get P [] k r h e = absurd cc
each_get P (q ∷ rs) zero r h e = let same : q ≡ r = cc in subst P same h.0
each_get P (q ∷ rs) (suc k) r h e = each_get P rs k r h.1 e

pub register_is : (y : System) (k : ℕ) (r : Register) → IsSound y → register y k ≡ Some r → IsRegister y r
register_is y k r s e = each_get (IsRegister y) y.registers k r s.registers e

word_among : (ws : List CsrWord) (a : ℕ) → is_some (word_at ws a) ≡ true → is_among a (word_addresses ws) ≡ true
word_among [] a e = absurd cc
word_among (w ∷ ws) a e = among_by (nat_eq w.addr a) w (word_at ws a) (is_among a (word_addresses ws)) e (λ f. word_among ws a f)

none_among : (ws : List CsrWord) (a : ℕ) → is_among a (word_addresses ws) ≡ false → word_at ws a ≡ None
none_among [] a e = refl
none_among (w ∷ ws) a e =
    let both = or_parts (nat_eq w.addr a) (is_among a (word_addresses ws)) e in
    ap (λ z. cond z (Some w) (word_at ws a)) both.0 ∙ none_among ws a both.1

-- what stands in a list stands in a longer one
among_first : (a : ℕ) (xs ys : List ℕ) → is_among a xs ≡ true → is_among a (xs ++ ys) ≡ true
among_first a [] ys e = absurd cc
among_first a (x ∷ xs) ys e = or_more (nat_eq x a) (is_among a xs) (is_among a (xs ++ ys)) e (λ f. among_first a xs ys f)

among_second : (a : ℕ) (xs ys : List ℕ) → is_among a ys ≡ true → is_among a (xs ++ ys) ≡ true
among_second a [] ys e = e
among_second a (x ∷ xs) ys e = or_right (nat_eq x a) (is_among a (xs ++ ys)) (among_second a xs ys e)

-- and in a list without repeats it stands once
distinct_second : (xs ys : List ℕ) → is_distinct (xs ++ ys) ≡ true → is_distinct ys ≡ true
distinct_second [] ys d = d
distinct_second (x ∷ xs) ys d = distinct_second xs ys (and_parts (not (is_among x (xs ++ ys))) (is_distinct (xs ++ ys)) d).1

distinct_apart : (a : ℕ) (xs ys : List ℕ) → is_distinct (xs ++ ys) ≡ true → is_among a ys ≡ true → is_among a xs ≡ false
distinct_apart a [] ys d m = refl
distinct_apart a (x ∷ xs) ys d m =
    by_test (nat_eq x a)
    (λ e. absurd (both_ways (is_among x (xs ++ ys)) (not_first (is_among x (xs ++ ys)) (is_distinct (xs ++ ys)) d)
    (let same : x ≡ a = eqb-true x a e in let P : ℕ → Type 0 = λ n. is_among n (xs ++ ys) ≡ true in subst P (sym same) (among_second a xs ys m))))
    (λ e. ap (λ z. z || is_among a xs) e ∙ distinct_apart a xs ys (and_parts (not (is_among x (xs ++ ys))) (is_distinct (xs ++ ys)) d).1 m)

-- a word of one register of the list has an address of the list
address_among : (a k : ℕ) (r : Register) (rs : List Register) → slice_get rs k ≡ Some r → is_among a (word_addresses r.words) ≡ true → is_among a (addresses_of rs) ≡ true
address_among a k r [] e m = absurd cc
address_among a zero r (q ∷ rs) e m =
    let same : q ≡ r = cc in
    among_first a (word_addresses q.words) (addresses_of rs) (let P : Register → Type 0 = λ z. is_among a (word_addresses z.words) ≡ true in subst P (sym same) m)
address_among a (suc k) r (q ∷ rs) e m = among_second a (word_addresses q.words) (addresses_of rs) (address_among a k r rs e m)

-- an address of the first register is none of the others
not_later : (a : ℕ) (xs ys : List ℕ) → is_distinct (xs ++ ys) ≡ true → is_among a xs ≡ true → is_among a ys ≡ false
not_later a xs ys d m = by_test (is_among a ys) (λ e. absurd (both_ways (is_among a xs) (distinct_apart a xs ys d e) m)) (λ e. e)

not_of : (a k : ℕ) (r : Register) (rs : List Register) → slice_get rs k ≡ Some r → is_among a (addresses_of rs) ≡ false → is_among a (word_addresses r.words) ≡ false
not_of a k r rs e m = by_test (is_among a (word_addresses r.words)) (λ f. absurd (both_ways (is_among a (addresses_of rs)) m (address_among a k r rs e f))) (λ f. f)

-- no two registers have a word at one address
pub words_apart : (j k : ℕ) (q r : Register) (a : ℕ) (rs : List Register) → is_distinct (addresses_of rs) ≡ true → slice_get rs j ≡ Some q → slice_get rs k ≡ Some r → j ≢ k
    → is_some (word_at r.words a) ≡ true → word_at q.words a ≡ None
words_apart j k q r a [] d e f n m = absurd cc
words_apart zero zero q r a (x ∷ rs) d e f n m = absurd (n refl)
words_apart zero (suc k) q r a (x ∷ rs) d e f n m =
    let same : x ≡ q = cc in
    let P : Register → Type 0 = λ z. word_at z.words a ≡ None in
    subst P same (none_among x.words a (distinct_apart a (word_addresses x.words) (addresses_of rs) d (address_among a k r rs f (word_among r.words a m))))
words_apart (suc j) zero q r a (x ∷ rs) d e f n m =
    let same : r ≡ x = cc in
    let P : Register → Type 0 = λ z. is_among a (word_addresses z.words) ≡ true in
    none_among q.words a (not_of a j q rs e (not_later a (word_addresses x.words) (addresses_of rs) d (subst P same (word_among r.words a m))))
words_apart (suc j) (suc k) q r a (x ∷ rs) d e f n m =
    words_apart j k q r a rs (distinct_second (word_addresses x.words) (addresses_of rs) d) e f (λ h. n (ap (λ (i : ℕ). suc i) h)) m

-- ---- words of one register

found_by : (P : CsrWord → Type 0) (b : Bool) (x w : CsrWord) (o : Option CsrWord) → P x → cond b (Some x) o ≡ Some w → (o ≡ Some w → P w) → P w
found_by P true x w o h e k = let same : x ≡ w = cc in subst P same h
found_by P false x w o h e k = k e

-- P of each word of a list, and of the one that is found
pub found_has : (P : CsrWord → Type 0) (ws : List CsrWord) (a : ℕ) (w : CsrWord) → Each P ws → word_at ws a ≡ Some w → P w
found_has P [] a w h e = absurd cc
found_has P (x ∷ xs) a w h e = found_by P (nat_eq x.addr a) x w (word_at xs a) h.0 e (λ f. found_has P xs a w h.1 f)

-- the word that is found has its address, in the region of the registers
found_here : (y : System) (size a : ℕ) (t : Bool) (x w : CsrWord) (o : Option CsrWord) → nat_eq x.addr a ≡ t → IsWord y size x → cond t (Some x) o ≡ Some w
    → (o ≡ Some w → (a ≡ 4 * (a / 4)) × (target_of y a ≡ Csr)) → (a ≡ 4 * (a / 4)) × (target_of y a ≡ Csr)
found_here y size a true x w o e i f more =
    let P : ℕ → Type 0 = λ n. (n ≡ 4 * (n / 4)) × (target_of y n ≡ Csr) in
    subst P (eqb-true x.addr a e) (i.aligned, i.csr)
found_here y size a false x w o e i f more = more f

pub found_at : (y : System) (size : ℕ) (ws : List CsrWord) (a : ℕ) (w : CsrWord) → Each (λ u. IsWord y size u) ws → word_at ws a ≡ Some w → (a ≡ 4 * (a / 4)) × (target_of y a ≡ Csr)
found_at y size [] a w h f = absurd cc
found_at y size (x ∷ xs) a w h f = found_here y size a (nat_eq x.addr a) x w (word_at xs a) refl h.0 f (λ g. found_at y size xs a w h.1 g)

-- the words of a register are found at their own addresses
later_words : (a : ℕ) (ws : List CsrWord) → Ascend a ws → Each (λ w. a ≤ w.addr) ws
later_words a [] h = tt
later_words a (w ∷ ws) h = (h.0, each_map (λ (u : CsrWord). w.addr + 1 ≤ u.addr) (λ u. a ≤ u.addr) ws (λ u k. omega (arith, h.0, k)) (later_words (w.addr + 1) ws h.1))

abbrev pub Found : List CsrWord → List CsrWord → Type 0
Found all ws = Each (λ w. word_at all w.addr ≡ Some w) ws

other_word : (w u : CsrWord) (ws : List CsrWord) → w.addr + 1 ≤ u.addr → word_at ws u.addr ≡ Some u → word_at (w ∷ ws) u.addr ≡ Some u
other_word w u ws h e =
    ap (λ z. cond z (Some w) (word_at ws u.addr)) (ne_eqb w.addr u.addr (λ k. absurd (omega (arith, h, k)))) ∙ e

pub words_found : (a : ℕ) (ws : List CsrWord) → Ascend a ws → Found ws ws
words_found a [] h = tt
words_found a (w ∷ ws) h = (
  ap (λ z. cond z (Some w) (word_at ws w.addr)) (eq-eqb w.addr w.addr refl),
  each_both (λ (u : CsrWord). w.addr + 1 ≤ u.addr) (λ u. word_at ws u.addr ≡ Some u) (λ u. word_at (w ∷ ws) u.addr ≡ Some u) ws
      (λ u k e. other_word w u ws k e) (later_words (w.addr + 1) ws h.1) (words_found (w.addr + 1) ws h.1),
)

abbrev pub is_end : List CsrWord → Bool
is_end [] = true
is_end (w ∷ ws) = false

-- the last of these is the register's last word, and no other is
abbrev pub Lasts : List CsrWord → List CsrWord → Type 0
Lasts all [] = Unit {0}
Lasts all (w ∷ ws) = (is_highest all w.addr ≡ is_end ws) × Lasts all ws

lasts_more : (all : List CsrWord) (x : CsrWord) (ws : List CsrWord) → Each (λ (u : CsrWord). x.addr + 1 ≤ u.addr) ws → Lasts all ws → Lasts (x ∷ all) ws
lasts_more all x [] h l = tt
lasts_more all x (w ∷ ws) h l =
    (ap (λ z. z && is_highest all w.addr) (le-leb x.addr w.addr (omega (arith, h.0))) ∙ l.0, lasts_more all x ws h.1 l.1)

first_last : (w : CsrWord) (ws : List CsrWord) → Each (λ (u : CsrWord). w.addr + 1 ≤ u.addr) ws → is_highest (w ∷ ws) w.addr ≡ is_end ws
first_last w [] h = ap (λ z. z && true) (le-leb w.addr w.addr (omega arith))
first_last w (u ∷ us) h =
    ap (λ z. z && (nat_le u.addr w.addr && is_highest us w.addr)) (le-leb w.addr w.addr (omega arith))
    ∙ ap (λ z. z && is_highest us w.addr) (lt-leb u.addr w.addr (omega (arith, h.0)))

pub words_last : (a : ℕ) (ws : List CsrWord) → Ascend a ws → Lasts ws ws
words_last a [] h = tt
words_last a (w ∷ ws) h =
    let more = later_words (w.addr + 1) ws h.1 in
    (first_last w ws more, lasts_more ws w ws more (words_last (w.addr + 1) ws h.1))

-- ---- what is read at a word's address

read_none : (y : System) (b : Bus) (v : Values) (q : Register) (rs : List Register) (n a : ℕ) → word_at q.words a ≡ None → read_at y b v (q ∷ rs) n a ≡ read_at y b v rs (n + 1) a
read_none y b v q rs n a e = ap (λ (o : Option CsrWord). read_word (value_of y b v n q.kind) o (read_at y b v rs (n + 1) a)) e

read_here : (y : System) (b : Bus) (v : Values) (r : Register) (w : CsrWord) (a : ℕ) → word_at r.words a ≡ Some w
    → (rs : List Register) (i n : ℕ) → slice_get rs i ≡ Some r → ((j : ℕ) (q : Register) → slice_get rs j ≡ Some q → j ≢ i → word_at q.words a ≡ None)
    → read_at y b v rs n a ≡ field_of (value_of y b v (i + n) r.kind) w.low w.len
read_here y b v r w a f [] i n e h = absurd cc
read_here y b v r w a f (q ∷ rs) zero n e h =
    let same : q ≡ r = cc in
    ap (λ (z : Register). read_word (value_of y b v n z.kind) (word_at z.words a) (read_at y b v rs (n + 1) a)) same
    ∙ (ap (λ (o : Option CsrWord). read_word (value_of y b v n r.kind) o (read_at y b v rs (n + 1) a)) f
    ∙ ap (λ (m : ℕ). field_of (value_of y b v m r.kind) w.low w.len) (sym (zero-add n)))
read_here y b v r w a f (q ∷ rs) (suc i) n e h =
    read_none y b v q rs n a (h zero q refl (λ k. absurd cc))
    ∙ (read_here y b v r w a f rs i (n + 1) e (λ j p g d. h (suc j) p g (λ k. d (omega (arith, k))))
    ∙ ap (λ (m : ℕ). field_of (value_of y b v m r.kind) w.low w.len) (let m : i + (n + 1) ≡ suc i + n = omega arith in m))

-- the word of a read is its register's field
pub read_word_is : (y : System) (q : Ask) (t : Trace) (new : Bus) (k : ℕ) (r : Register) (w : CsrWord) → IsSound y → Known y q t new → q.writes ≡ false → register y k ≡ Some r → word_at r.words q.addr ≡ Some w
    → the_word y t ≡ field_of (value_of y t.from.bus (taking y t) k r.kind) w.low w.len
read_word_is y q t new k r w s n read e f =
    let b = t.from.bus in
    let v = taking y t in
    ap (λ z. cond z (write_of (target y v)) (read_of y b v (selected y v) (target y v))) (we_is y q v n.taking_asks ∙ read)
    ∙ (ap (λ (g : Target). read_of y b v (selected y v) g) (target_is y q v n.reaches n.taking_asks)
    ∙ (ap (λ (a : ℕ). read_at y b v y.registers 0 a) (address_is y q v n.reaches n.taking_asks)
    ∙ (read_here y b v r w q.addr f y.registers k 0 e (λ j p g d. words_apart j k p r q.addr y.registers s.addresses g e d (ap (λ (o : Option CsrWord). is_some o) f))
    ∙ ap (λ (m : ℕ). field_of (value_of y b v m r.kind) w.low w.len) (let m : k + 0 ≡ k = omega arith in m))))

-- ---- a word's access of a register

word_reaches : (y : System) (size : ℕ) (w : CsrWord) (t : Trace) (new : State) (q : Ask) → q.addr ≡ w.addr → IsSound y → IsWord y size w → AccessRan y q t new → CsrRan y q t new
word_reaches y size w t new q e s i a = record {
  sound = s;
  aligned = let P : ℕ → Type 0 = λ n. n ≡ 4 * (n / 4) in subst P (sym e) i.aligned;
  csr = let P : ℕ → Type 0 = λ n. target_of y n ≡ Csr in subst P (sym e) i.csr;
  ran = a;
}

-- the answer of an access is in its last step
pub result_word : (y : System) (q : Ask) (t : Trace) (new : State) → CsrRan y q t new → word_read y t ≡ the_word y t
result_word y q t new h = ap (λ (z : ℤ). count_of z) (last_acknowledges y q t new h).dat_r

-- ---- read accessors

reads_sum : (y : System) (k : ℕ) (r : Register) → IsSound y → register y k ≡ Some r → (ws : List CsrWord) (ts : List Trace) (new : State)
    → Each (λ w. IsWord y r.size w) ws → Found r.words ws → AccessorRan y (reads_all ws) ts new → (from_of ts new).bus.phase ≡ Idle
    → result_of y ws ts ≡ fields_of y k r.kind ws ts
reads_sum y k r s e [] [] new i f ran idle = refl
reads_sum y k r s e [] (t ∷ ts) new i f ran idle = absurd ran
reads_sum y k r s e (w ∷ ws) [] new i f ran idle = absurd ran
reads_sum y k r s e (w ∷ ws) (t ∷ ts) new i f ran idle =
    let a : AccessRan y (read_ask w) t (from_of ts new) = record { access = ran.0; ran = ran.1; idle = idle } in
    let h = word_reaches y r.size w t (from_of ts new) (read_ask w) refl s i.0 a in
    let n = known y (read_ask w) t (from_of ts new) h in
    ap (λ (z : ℕ). z * 2 ^ w.low + result_of y ws ts)
    (result_word y (read_ask w) t (from_of ts new) h ∙ read_word_is y (read_ask w) t (from_of ts new).bus k r w s n refl e f.0)
    ∙ ap (λ (z : ℕ). field_of (value_of y t.from.bus (taking y t) k r.kind) w.low w.len * 2 ^ w.low + z)
    (reads_sum y k r s e ws ts new i.1 f.1 ran.2 (idle_again y (read_ask w) t (from_of ts new).bus n))

pub read_law : (y : System) (k : ℕ) (r : Register) (ts : List Trace) (new : State) → RegisterRan y k r (reads_all r.words) ts new → result_of y r.words ts ≡ fields_of y k r.kind r.words ts
read_law y k r ts new h =
    let i = register_is y k r h.sound h.is in
    reads_sum y k r h.sound h.is r.words ts new i.words (words_found 0 r.words i.ascend) h.ran h.idle.idle

-- ---- what is kept stays below 2 to the size

pub record IsBelow (size : ℕ) (b : Bus) (k : ℕ) : Type 0 where
  pub storage : b.storage k < 2 ^ size
  pub buffer : b.buffer k < 2 ^ size

abbrev pub Below : System → Bus → Type 0
Below y b = (k : ℕ) (r : Register) → register y k ≡ Some r → IsBelow r.size b k

device_below : (d : Option Device) (size : ℕ) (v : Values) (old : ℕ) → old < 2 ^ size → device_next d size v old < 2 ^ size
device_below None size v old h = h
device_below (Some d) size v old h = cond_both (is_on v d.we) (modulo (v (At d.dat_w)) (2 ^ size)) old (λ z. z < 2 ^ size) (λ e. (modulo-below (v (At d.dat_w)) (2 ^ size) (pow_pos size))) (λ e. h)

written_below : (atomic last : Bool) (d b size : ℕ) (o : Option CsrWord) (z : ℤ) → d < 2 ^ size → b < 2 ^ size → ((w : CsrWord) → o ≡ Some w → w.low + w.len ≤ size) → storage_written atomic last d b o z < 2 ^ size
written_below true true d b size None z h k i = h
written_below true false d b size None z h k i = h
written_below false true d b size None z h k i = h
written_below false false d b size None z h k i = h
written_below true true d b size (Some w) z h k i = laid_below b w.low w.len size z k (i w refl)
written_below true false d b size (Some w) z h k i = h
written_below false true d b size (Some w) z h k i = laid_below d w.low w.len size z h (i w refl)
written_below false false d b size (Some w) z h k i = laid_below d w.low w.len size z h (i w refl)

buffered_below : (atomic last : Bool) (b size : ℕ) (o : Option CsrWord) (z : ℤ) → b < 2 ^ size → ((w : CsrWord) → o ≡ Some w → w.low + w.len ≤ size) → buffer_written atomic last b o z < 2 ^ size
buffered_below true true b size None z k i = k
buffered_below true false b size None z k i = k
buffered_below false true b size None z k i = k
buffered_below false false b size None z k i = k
buffered_below true true b size (Some w) z k i = k
buffered_below true false b size (Some w) z k i = laid_below b w.low w.len size z k (i w refl)
buffered_below false true b size (Some w) z k i = k
buffered_below false false b size (Some w) z k i = k

-- a word that is written lies in its register
some_inside : (y : System) (c : Bool) (r : Register) (a : ℕ) → Each (λ w. IsWord y r.size w) r.words → (w : CsrWord) → cond c (word_at r.words a) None ≡ Some w → w.low + w.len ≤ r.size
some_inside y true r a i w e = (found_has (λ w. IsWord y r.size w) r.words a w i e).inside
some_inside y false r a i w e = absurd cc

kind_below : (y : System) (b : Bus) (v : Values) (k : ℕ) (r : Register) (kd : Kind) → IsRegister y r → IsBelow r.size b k → (storage_of y b v k r kd < 2 ^ r.size) × (buffer_of y b v k r kd < 2 ^ r.size)
kind_below y b v k r (Storage s) i h =
    let inside : (w : CsrWord) → written_word y b v r ≡ Some w → w.low + w.len ≤ r.size = some_inside y (csr_writes y b v) r (address y v) i.words in (
      written_below s.atomic (is_last_of y v r) (device_next s.device r.size v (b.storage k)) (b.buffer k) r.size (written_word y b v r) (v (At y.port.dat_w)) (device_below s.device r.size v (b.storage k) h.storage) h.buffer inside,
      buffered_below s.atomic (is_last_of y v r) (b.buffer k) r.size (written_word y b v r) (v (At y.port.dat_w)) h.buffer inside,
    )
kind_below y b v k r (Status status we) i h = (h.storage, h.buffer)
kind_below y b v k r (Raw to re we from) i h = (h.storage, h.buffer)
kind_below y b v k r (EventStatus m) i h = (h.storage, h.buffer)
kind_below y b v k r (EventPending m) i h = (h.storage, h.buffer)

edge_below : (y : System) (b : Bus) (v : Values) → IsSound y → Below y b → Below y (edge y b v)
edge_below y b v s h k r e =
    let p = kind_below y b v k r r.kind (register_is y k r s e) (h k r e) in
    record {
      storage = let P : Option Register → Type 0 = λ o. storage_next y b v k o < 2 ^ r.size in subst P (sym e) p.0;
      buffer = let P : Option Register → Type 0 = λ o. buffer_next y b v k o < 2 ^ r.size in subst P (sym e) p.1;
    }

reset_kind_below : (size : ℕ) (kd : Kind) → reset_of_kind size kd < 2 ^ size
reset_kind_below size (Storage s) = mod_below s.reset (2 ^ size) (pow_pos size)
reset_kind_below size (Status status we) = pow_pos size
reset_kind_below size (Raw to re we from) = pow_pos size
reset_kind_below size (EventStatus m) = pow_pos size
reset_kind_below size (EventPending m) = pow_pos size

reset_below : (y : System) (k : ℕ) (r : Register) → register y k ≡ Some r → reset_of (register y k) < 2 ^ r.size
reset_below y k r e = let P : Option Register → Type 0 = λ o. reset_of o < 2 ^ r.size in subst P (sym e) (reset_kind_below r.size r.kind)

moved_below : (y : System) (b : Bus) (v : Values) (rises reset : Bool) → IsSound y → Below y b → Below y (moved y b v rises reset)
moved_below y b v false reset s h = h
moved_below y b v true true s h = λ k r e. record { storage = reset_below y k r e; buffer = pow_pos r.size }
moved_below y b v true false s h = edge_below y b v s h

run_below : (y : System) (st : State) (steps : List Step) (ws : List Values) (new : State) → IsSound y → Below y st.bus → Runs y st steps ws new → Below y new.bus
run_below y st [] [] new s h run = let P : State → Type 0 = λ z. Below y z.bus in subst P (sym run) h
run_below y st [] (w ∷ ws) new s h run = absurd run
run_below y st (t ∷ ts) [] new s h run = absurd run
run_below y st (t ∷ ts) (w ∷ ws) new s h run =
    run_below y (system_next y st w t.rises) ts ws new s (moved_below y st.bus w (t.rises y.sys) (in_reset y w) s h) run.1

first_below : (y : System) → Below y (first_bus y)
first_below y k r e = record { storage = reset_below y k r e; buffer = pow_pos r.size }

pub idle_below : (y : System) (st : State) → IsSound y → IsIdle y st → Below y st.bus
idle_below y st s i = run_below y (first_system y) i.before i.values st s (first_below y) i.ran

-- ---- write accessors

lies_all : (y : System) (size : ℕ) (ws : List CsrWord) → Each (λ w. IsWord y size w) ws → Each (λ w. Lies size w) ws
lies_all y size ws h = each_map (λ w. IsWord y size w) (λ w. Lies size w) ws (λ w i. record { inside = i.inside; short = i.short }) h

-- what a write of a word of v leaves of a storage without a device
plain_word : (s : StorageParts) (r : Register) (v : ℕ) (w : CsrWord) (d b : ℕ) → s.atomic ≡ false → word_at r.words w.addr ≡ Some w
    → written s r (write_ask v w) (asked_word (write_ask v w) r) d b ≡ laid_over d w.low w.len (pos (v / 2 ^ w.low % 2 ^ 32))
plain_word s r v w d b a f =
    ap (λ (o : Option CsrWord). written s r (write_ask v w) o d b) f
    ∙ ap (λ c. cond c (cond (is_last r.words w.addr) (laid_over b w.low w.len (pos (v / 2 ^ w.low % 2 ^ 32))) d) (laid_over d w.low w.len (pos (v / 2 ^ w.low % 2 ^ 32)))) a

pub no_device : (d : Option Device) (size : ℕ) (v : Values) (old : ℕ) → d ≡ None → device_next d size v old ≡ old
no_device d size v old e = ap (λ (o : Option Device). device_next o size v old) e

plain_all : (y : System) (k v : ℕ) (r : Register) (s : StorageParts) → IsSound y → register y k ≡ Some r → r.kind ≡ Storage s → s.device ≡ None → s.atomic ≡ false
    → (ws : List CsrWord) (ts : List Trace) (new : State) → Each (λ w. IsWord y r.size w) ws → Found r.words ws → AccessorRan y (writes_all v ws) ts new → (from_of ts new).bus.phase ≡ Idle
    → new.bus.storage k ≡ laid_all v ((from_of ts new).bus.storage k) ws
plain_all y k v r s sound e kd nd pl [] [] new i f ran idle = refl
plain_all y k v r s sound e kd nd pl [] (t ∷ ts) new i f ran idle = absurd ran
plain_all y k v r s sound e kd nd pl (w ∷ ws) [] new i f ran idle = absurd ran
plain_all y k v r s sound e kd nd pl (w ∷ ws) (t ∷ ts) new i f ran idle =
    let a : AccessRan y (write_ask v w) t (from_of ts new) = record { access = ran.0; ran = ran.1; idle = idle } in
    let h = word_reaches y r.size w t (from_of ts new) (write_ask v w) refl sound i.0 a in
    let n = known y (write_ask v w) t (from_of ts new) h in
    let old = t.from.bus.storage k in
    let d = device_next s.device r.size (taking y t) old in
    let one : (from_of ts new).bus.storage k ≡ laid_over old w.low w.len (pos (v / 2 ^ w.low % 2 ^ 32)) =
    (storage_law y (write_ask v w) t (from_of ts new) h k r s e kd).storage
    ∙ (no_device s.device r.size (closing t) (written s r (write_ask v w) (asked_word (write_ask v w) r) d (t.from.bus.buffer k)) nd
    ∙ (plain_word s r v w d (t.from.bus.buffer k) pl f.0
    ∙ ap (λ (p : ℕ). laid_over p w.low w.len (pos (v / 2 ^ w.low % 2 ^ 32))) (no_device s.device r.size (taking y t) old nd))) in
    plain_all y k v r s sound e kd nd pl ws ts new i.1 f.1 ran.2 (idle_again y (write_ask v w) t (from_of ts new).bus n)
    ∙ ap (λ (p : ℕ). laid_all v p ws) one

-- what a write of a word of v leaves of an atomic storage, and of its buffer
atomic_storage : (s : StorageParts) (r : Register) (v : ℕ) (w : CsrWord) (last : Bool) (d b : ℕ) → s.atomic ≡ true → word_at r.words w.addr ≡ Some w → is_highest r.words w.addr ≡ last
    → written s r (write_ask v w) (asked_word (write_ask v w) r) d b ≡ cond last (laid_over b w.low w.len (pos (v / 2 ^ w.low % 2 ^ 32))) d
atomic_storage s r v w last d b a f l =
    let x = laid_over b w.low w.len (pos (v / 2 ^ w.low % 2 ^ 32)) in
    let z = laid_over d w.low w.len (pos (v / 2 ^ w.low % 2 ^ 32)) in
    ap (λ (o : Option CsrWord). written s r (write_ask v w) o d b) f
    ∙ (ap (λ c. cond c (cond (is_last r.words w.addr) x d) z) a
    ∙ ap (λ c. cond c x d) (ap (λ (o : Option CsrWord). is_some o && is_highest r.words w.addr) f ∙ l))

atomic_buffer : (s : StorageParts) (r : Register) (v : ℕ) (w : CsrWord) (last : Bool) (b : ℕ) → s.atomic ≡ true → word_at r.words w.addr ≡ Some w → is_highest r.words w.addr ≡ last
    → buffered s r (write_ask v w) (asked_word (write_ask v w) r) b ≡ cond (not last) (laid_over b w.low w.len (pos (v / 2 ^ w.low % 2 ^ 32))) b
atomic_buffer s r v w last b a f l =
    let x = laid_over b w.low w.len (pos (v / 2 ^ w.low % 2 ^ 32)) in
    ap (λ (o : Option CsrWord). buffered s r (write_ask v w) o b) f
    ∙ (ap (λ c. cond (c && not (is_last r.words w.addr)) x b) a
    ∙ ap (λ c. cond (not c) x b) (ap (λ (o : Option CsrWord). is_some o && is_highest r.words w.addr) f ∙ l))

atomic_all : (y : System) (k v : ℕ) (r : Register) (s : StorageParts) → IsSound y → register y k ≡ Some r → r.kind ≡ Storage s → s.atomic ≡ true
    → (w : CsrWord) (ws : List CsrWord) (t : Trace) (ts : List Trace) (new : State) → Each (λ w. IsWord y r.size w) (w ∷ ws) → Found r.words (w ∷ ws) → Lasts r.words (w ∷ ws)
    → AccessorRan y (writes_all v (w ∷ ws)) (t ∷ ts) new → t.from.bus.phase ≡ Idle
    → new.bus.storage k ≡ device_next s.device r.size (closing (last_trace t ts)) (laid_all v (t.from.bus.buffer k) (w ∷ ws))
atomic_all y k v r s sound e kd at w [] t [] new i f l ran idle =
    let a : AccessRan y (write_ask v w) t new = record { access = ran.0; ran = ran.1; idle = idle } in
    let h = word_reaches y r.size w t new (write_ask v w) refl sound i.0 a in
    (storage_law y (write_ask v w) t new h k r s e kd).storage
    ∙ ap (λ (p : ℕ). device_next s.device r.size (closing t) p) (atomic_storage s r v w true (device_next s.device r.size (taking y t) (t.from.bus.storage k)) (t.from.bus.buffer k) at f.0 l.0)
atomic_all y k v r s sound e kd at w [] t (u ∷ us) new i f l ran idle = absurd ran.2
atomic_all y k v r s sound e kd at w (x ∷ xs) t [] new i f l ran idle = absurd ran.2
atomic_all y k v r s sound e kd at w (x ∷ xs) t (u ∷ us) new i f l ran idle =
    let a : AccessRan y (write_ask v w) t u.from = record { access = ran.0; ran = ran.1; idle = idle } in
    let h = word_reaches y r.size w t u.from (write_ask v w) refl sound i.0 a in
    let n = known y (write_ask v w) t u.from h in
    atomic_all y k v r s sound e kd at x xs u us new i.1 f.1 l.1 ran.2 (idle_again y (write_ask v w) t u.from.bus n)
    ∙ ap (λ (p : ℕ). device_next s.device r.size (closing (last_trace u us)) (laid_all v p (x ∷ xs)))
    ((storage_law y (write_ask v w) t u.from h k r s e kd).buffer ∙ atomic_buffer s r v w false (t.from.bus.buffer k) at f.0 l.0)

-- a register of at least one bit has a word
some_words : (size : ℕ) → 1 ≤ size → Down size [] ⊎ Up size 0 [] → ⊥
some_words size h (inl e) = absurd (omega (arith, h, e))
some_words size h (inr e) = absurd (omega (arith, h, e))

none_ran : (y : System) (v size : ℕ) (ws : List CsrWord) (new : State) → 1 ≤ size → Down size ws ⊎ Up size 0 ws → AccessorRan y (writes_all v ws) [] new → ⊥
none_ran y v size [] new h t ran = some_words size h t
none_ran y v size (w ∷ ws) new h t ran = ran

atomic_from : (y : System) (k v : ℕ) (r : Register) (s : StorageParts) → IsSound y → register y k ≡ Some r → r.kind ≡ Storage s → s.atomic ≡ true
    → (ws : List CsrWord) (t : Trace) (ts : List Trace) (new : State) → Each (λ w. IsWord y r.size w) ws → Found r.words ws → Lasts r.words ws
    → AccessorRan y (writes_all v ws) (t ∷ ts) new → t.from.bus.phase ≡ Idle
    → new.bus.storage k ≡ device_next s.device r.size (closing (last_trace t ts)) (laid_all v (t.from.bus.buffer k) ws)
atomic_from y k v r s sound e kd at [] t ts new i f l ran idle = absurd ran
atomic_from y k v r s sound e kd at (w ∷ ws) t ts new i f l ran idle = atomic_all y k v r s sound e kd at w ws t ts new i f l ran idle

pub atomic_law : (y : System) (k v : ℕ) (r : Register) (s : StorageParts) (t : Trace) (ts : List Trace) (new : State)
    → RegisterRan y k r (writes_all v r.words) (t ∷ ts) new → r.kind ≡ Storage s → s.atomic ≡ true
    → new.bus.storage k ≡ device_next s.device r.size (closing (last_trace t ts)) (v % 2 ^ r.size)
atomic_law y k v r s t ts new h kd at =
    let i = register_is y k r h.sound h.is in
    atomic_from y k v r s h.sound h.is kd at r.words t ts new i.words (words_found 0 r.words i.ascend) (words_last 0 r.words i.ascend) h.ran h.idle.idle
    ∙ ap (λ (p : ℕ). device_next s.device r.size (closing (last_trace t ts)) p)
    (laid_whole v r.size (t.from.bus.buffer k) r.words (lies_all y r.size r.words i.words) i.tiled (idle_below y t.from h.sound h.idle k r h.is).buffer)

-- an atomic storage that no device writes: a register has a word, so some access ran
write_atomic : (y : System) (k v : ℕ) (r : Register) (s : StorageParts) (ts : List Trace) (new : State) → RegisterRan y k r (writes_all v r.words) ts new → r.kind ≡ Storage s → s.device ≡ None → s.atomic ≡ true
    → new.bus.storage k ≡ v % 2 ^ r.size
write_atomic y k v r s [] new h kd nd at =
    let i = register_is y k r h.sound h.is in absurd (none_ran y v r.size r.words new i.some i.tiled h.ran)
write_atomic y k v r s (t ∷ ts) new h kd nd at = atomic_law y k v r s t ts new h kd at ∙ no_device s.device r.size (closing (last_trace t ts)) (v % 2 ^ r.size) nd

write_by : (y : System) (k v : ℕ) (r : Register) (s : StorageParts) (ts : List Trace) (new : State) (c : Bool) → RegisterRan y k r (writes_all v r.words) ts new → r.kind ≡ Storage s → s.device ≡ None → s.atomic ≡ c
    → new.bus.storage k ≡ v % 2 ^ r.size
write_by y k v r s ts new false h kd nd at =
    let i = register_is y k r h.sound h.is in
    plain_all y k v r s h.sound h.is kd nd at r.words ts new i.words (words_found 0 r.words i.ascend) h.ran h.idle.idle
    ∙ laid_whole v r.size ((from_of ts new).bus.storage k) r.words (lies_all y r.size r.words i.words) i.tiled (idle_below y (from_of ts new) h.sound h.idle k r h.is).storage
write_by y k v r s ts new true h kd nd at = write_atomic y k v r s ts new h kd nd at

pub write_law : (y : System) (k v : ℕ) (r : Register) (s : StorageParts) (ts : List Trace) (new : State) → RegisterRan y k r (writes_all v r.words) ts new
    → r.kind ≡ Storage s → s.device ≡ None → new.bus.storage k ≡ v % 2 ^ r.size
write_law y k v r s ts new h kd nd = write_by y k v r s ts new s.atomic h kd nd refl

-- ---- what the description sees

pub shown_rows : (y : System) (k : ℕ) (r : Register) (s : StorageParts) (h : Shown) (g : Given) → r.kind ≡ Storage s → s.shown ≡ Some h → Among g (gives_shown k (Some h)) → Among g (gives_kind y k r r.kind)
shown_rows y k r s h g kd e m =
    subst (λ (d : Kind). Among g (gives_kind y k r d)) (sym kd) (subst (λ (o : Option Shown). Among g (gives_shown k o)) (sym e) m)

pub shown_law : (y : System) → IsSound y → (st : State) (inputs v : Values) → IsSystemSettled y st inputs v
    → (k : ℕ) (r : Register) (s : StorageParts) (h : Shown) → register y k ≡ Some r → r.kind ≡ Storage s → s.shown ≡ Some h
    → (v (At h.storage) ≡ pos (st.bus.storage k)) × (v (At h.re) ≡ flag (st.bus.strobe k))
shown_law y sound st inputs v p k r s h e kd sh = (
  at_given y st inputs v _ p (register_row y _ k r sound e (shown_rows y k r s h _ kd sh (inl refl))),
  at_given y st inputs v _ p (register_row y _ k r sound e (shown_rows y k r s h _ kd sh (inr (inl refl)))),
)
