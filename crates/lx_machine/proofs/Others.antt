-- What an accessor leaves as it was.
use Rattle.std.proofs.Common.{◌≡◌, ◌≢◌, ℕ, Bool, true, false, List, [], ◌∷◌, Option, Some, None, cond, refl, ◌∙◌, ap, is_some}
use Rattle.lx_machine.specs.Map.{CsrWord, StorageParts, Storage, Register}
use Rattle.lx_machine.specs.System.{System}
use Rattle.lx_machine.specs.Bus.{Idle, register, word_at, device_next}
use Rattle.lx_machine.specs.Views.{State}
use Rattle.lx_machine.specs.Access.{Each, Ask, AccessRan, AccessorRan, Trace, taking, closing, reads_all, writes_all, from_of}
use Rattle.lx_machine.specs.Sound.{IsSound}
use Rattle.lx_machine.specs.Laws.{CsrRan, asked_word, written, buffered, RegisterRan, AsksOf, EachRan, IsKept}
use Rattle.lx_machine.proofs.Access.{known, idle_again, storage_law, ram_law}
use Rattle.lx_machine.proofs.Accessors.{register_is, words_apart, words_found, found_at, no_device}

-- an access of a word of the register reaches its region
some_word : (o : Option CsrWord) → is_some o ≡ true → (w : CsrWord) × (o ≡ Some w)
some_word None e = absurd cc
some_word (Some w) e = (w, refl)

pub reaches : (y : System) (k : ℕ) (r : Register) (q : Ask) (t : Trace) (new : State) → IsSound y → register y k ≡ Some r → is_some (word_at r.words q.addr) ≡ true → AccessRan y q t new → CsrRan y q t new
reaches y k r q t new s e f a =
    let w = some_word (word_at r.words q.addr) f in
    let i = found_at y r.size r.words q.addr w.0 (register_is y k r s e).words w.1 in
    record { sound = s; aligned = i.0; csr = i.1; ran = a }

-- these accesses write no word of the register g
abbrev WriteNone : Register → List Ask → Type 0
WriteNone g asks = Each (λ (q : Ask). asked_word q g ≡ None) asks

kept_storage : (y : System) (s : StorageParts) (g : Register) (q : Ask) (t : Trace) (o : Option CsrWord) (old b : ℕ) → s.device ≡ None → o ≡ None
    → device_next s.device g.size (closing t) (written s g q o (device_next s.device g.size (taking y t) old) b) ≡ old
kept_storage y s g q t o old b d e =
    no_device s.device g.size (closing t) (written s g q o (device_next s.device g.size (taking y t) old) b) d
    ∙ (ap (λ (x : Option CsrWord). written s g q x (device_next s.device g.size (taking y t) old) b) e ∙ no_device s.device g.size (taking y t) old d)

pub kept_all : (y : System) (k : ℕ) (r : Register) (j : ℕ) (g : Register) (s : StorageParts) → IsSound y → register y k ≡ Some r → register y j ≡ Some g → g.kind ≡ Storage s
    → (asks : List Ask) (ts : List Trace) (new : State) → AsksOf r asks → WriteNone g asks → AccessorRan y asks ts new → (from_of ts new).bus.phase ≡ Idle → IsKept s j (from_of ts new).bus new.bus
kept_all y k r j g s sound e f kd [] [] new a w ran idle = record { storage = λ d. refl; buffer = refl }
kept_all y k r j g s sound e f kd [] (t ∷ ts) new a w ran idle = absurd ran
kept_all y k r j g s sound e f kd (q ∷ qs) [] new a w ran idle = absurd ran
kept_all y k r j g s sound e f kd (q ∷ qs) (t ∷ ts) new a w ran idle =
    let h = reaches y k r q t (from_of ts new) sound e a.0 (record { access = ran.0; ran = ran.1; idle = idle }) in
    let n = known y q t (from_of ts new) h in
    let one = storage_law y q t (from_of ts new) h j g s f kd in
    let more = kept_all y k r j g s sound e f kd qs ts new a.1 w.1 ran.2 (idle_again y q t (from_of ts new).bus n) in
    record {
      storage = λ d. more.storage d ∙ (one.storage ∙ kept_storage y s g q t (asked_word q g) (t.from.bus.storage j) (t.from.bus.buffer j) d w.0);
      buffer = more.buffer ∙ (one.buffer ∙ ap (λ (x : Option CsrWord). buffered s g q x (t.from.bus.buffer j)) w.0);
    }

ram_all : (y : System) (k : ℕ) (r : Register) (place n : ℕ) → IsSound y → register y k ≡ Some r
    → (asks : List Ask) (ts : List Trace) (new : State) → AsksOf r asks → AccessorRan y asks ts new → (from_of ts new).bus.phase ≡ Idle → new.bus.ram place n ≡ (from_of ts new).bus.ram place n
ram_all y k r place n sound e [] [] new a ran idle = refl
ram_all y k r place n sound e [] (t ∷ ts) new a ran idle = absurd ran
ram_all y k r place n sound e (q ∷ qs) [] new a ran idle = absurd ran
ram_all y k r place n sound e (q ∷ qs) (t ∷ ts) new a ran idle =
    let h = reaches y k r q t (from_of ts new) sound e a.0 (record { access = ran.0; ran = ran.1; idle = idle }) in
    ram_all y k r place n sound e qs ts new a.1 ran.2 (idle_again y q t (from_of ts new).bus (known y q t (from_of ts new) h)) ∙ ram_law y q t (from_of ts new) h place n

either_none : (b : Bool) (o : Option CsrWord) → o ≡ None → cond b o None ≡ None
either_none true o e = e
either_none false o e = refl

write_none : (y : System) (k : ℕ) (r : Register) (j : ℕ) (g : Register) → IsSound y → register y k ≡ Some r → register y j ≡ Some g → j ≢ k → (asks : List Ask) → AsksOf r asks → WriteNone g asks
write_none y k r j g s e f n [] a = tt
write_none y k r j g s e f n (q ∷ qs) a =
    (either_none q.writes (word_at g.words q.addr) (words_apart j k g r q.addr y.registers s.addresses f e n a.0), write_none y k r j g s e f n qs a.1)

pub others_kept : (y : System) (k : ℕ) (r : Register) (asks : List Ask) (ts : List Trace) (new : State) → RegisterRan y k r asks ts new → AsksOf r asks
    → (j : ℕ) (g : Register) (s : StorageParts) → register y j ≡ Some g → g.kind ≡ Storage s → j ≢ k → IsKept s j (from_of ts new).bus new.bus
others_kept y k r asks ts new h a j g s f kd n =
    kept_all y k r j g s h.sound h.is f kd asks ts new a (write_none y k r j g h.sound h.is f n asks a) h.ran h.idle.idle

reads_of_words : (r : Register) (ws : List CsrWord) → Each (λ (w : CsrWord). word_at r.words w.addr ≡ Some w) ws → AsksOf r (reads_all ws)
reads_of_words r [] h = tt
reads_of_words r (w ∷ ws) h = (ap (λ (o : Option CsrWord). is_some o) h.0, reads_of_words r ws h.1)

reads_none : (g : Register) (ws : List CsrWord) → WriteNone g (reads_all ws)
reads_none g [] = tt
reads_none g (w ∷ ws) = (refl, reads_none g ws)

pub reads_kept : (y : System) (k : ℕ) (r : Register) (ts : List Trace) (new : State) → RegisterRan y k r (reads_all r.words) ts new
    → (j : ℕ) (g : Register) (s : StorageParts) → register y j ≡ Some g → g.kind ≡ Storage s → IsKept s j (from_of ts new).bus new.bus
reads_kept y k r ts new h j g s f kd =
    kept_all y k r j g s h.sound h.is f kd (reads_all r.words) ts new
    (reads_of_words r r.words (words_found 0 r.words (register_is y k r h.sound h.is).ascend)) (reads_none g r.words) h.ran h.idle.idle

pub ram_kept : (y : System) (k : ℕ) (r : Register) (asks : List Ask) (ts : List Trace) (new : State) → RegisterRan y k r asks ts new → AsksOf r asks
    → (place n : ℕ) → new.bus.ram place n ≡ (from_of ts new).bus.ram place n
ram_kept y k r asks ts new h a place n = ram_all y k r place n h.sound h.is asks ts new a h.ran h.idle.idle

-- ---- each access

writes_of_words : (v : ℕ) (r : Register) (ws : List CsrWord) → Each (λ (w : CsrWord). word_at r.words w.addr ≡ Some w) ws → AsksOf r (writes_all v ws)
writes_of_words v r [] h = tt
writes_of_words v r (w ∷ ws) h = (ap (λ (o : Option CsrWord). is_some o) h.0, writes_of_words v r ws h.1)

pub reads_asked : (y : System) (k : ℕ) (r : Register) → IsSound y → register y k ≡ Some r → AsksOf r (reads_all r.words)
reads_asked y k r s e = reads_of_words r r.words (words_found 0 r.words (register_is y k r s e).ascend)

pub writes_asked : (y : System) (k v : ℕ) (r : Register) → IsSound y → register y k ≡ Some r → AsksOf r (writes_all v r.words)
writes_asked y k v r s e = writes_of_words v r r.words (words_found 0 r.words (register_is y k r s e).ascend)

each_from : (y : System) (k : ℕ) (r : Register) → IsSound y → register y k ≡ Some r → (asks : List Ask) (ts : List Trace) (new : State) → AsksOf r asks → AccessorRan y asks ts new → (from_of ts new).bus.phase ≡ Idle → EachRan y asks ts new
each_from y k r s e [] [] new a ran idle = tt
each_from y k r s e [] (t ∷ ts) new a ran idle = absurd ran
each_from y k r s e (q ∷ qs) [] new a ran idle = absurd ran
each_from y k r s e (q ∷ qs) (t ∷ ts) new a ran idle =
    let h = reaches y k r q t (from_of ts new) s e a.0 (record { access = ran.0; ran = ran.1; idle = idle }) in
    (h, each_from y k r s e qs ts new a.1 ran.2 (idle_again y q t (from_of ts new).bus (known y q t (from_of ts new) h)))

pub each_ran : (y : System) (k : ℕ) (r : Register) (asks : List Ask) (ts : List Trace) (new : State) → RegisterRan y k r asks ts new → AsksOf r asks → EachRan y asks ts new
each_ran y k r asks ts new h a = each_from y k r h.sound h.is asks ts new a h.ran h.idle.idle
