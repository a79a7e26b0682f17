-- Names stay where a design gains signals of generated hardware: these have a `$` in their names, and no other name has one.
use Rattle.std.proofs.Common.{◌≡◌, ℕ, zero, suc, ◌+◌, ◌<◌, ◌≤◌, Bool, true, false, cond, ◌||◌, List, [], ◌∷◌, ◌++◌, Option, Some, None, Result, Ok, Err, map, length, codes, flat_map, refl, sym, ap, subst, ◌∙◌, arith, length-append, true≢false}
use Rattle.std.specs.Prelude.{slice_get, IfSome}
use Rattle.std.specs.List.{AllByRecursion, range_with_len}
use Rattle.std.specs.Str.{bytes_eq}
use Rattle.std.proofs.Math.Bool.{or-false}
use Rattle.std.proofs.lemmas.List.{append_assoc, append-nil, get_or_append_left, get_or-append-add}
use Rattle.std.proofs.lemmas.List.Folds.{list_any-append}
use Rattle.std.proofs.lemmas.List.FromFn.{length-map-range_with_len}
use Rattle.std.proofs.lemmas.Option.{slice_get_within}
use Rattle.lx_text.specs.declared.faults.Fault.{Fault}
use Rattle.lx_text.specs.declared.faults.Kind.TheVariants as kind
use Rattle.lx_circuit.specs.Circuit as circuit
use Rattle.lx_vtext.specs.Tree.{Name}
use Rattle.lx_arena.proofs.Places.{get_front, node_there}
use Rattle.lx_fhdl.specs.Designs.{signal_number}
use Rattle.lx_fhdl.specs.Keeping.{EachOf, HasResetPath, IsDomain, IsReset, Keeps}
use Rattle.lx_fhdl.specs.declared.exprs.SigId.{SigId}
use Rattle.lx_fhdl.specs.declared.design.Signal.{Signal}
use Rattle.lx_fhdl.specs.declared.design.Memory.{Memory}
use Rattle.lx_fhdl.specs.declared.design.Domain.{Domain}
use Rattle.lx_fhdl.specs.declared.design.Design.{Design}
use Rattle.lx_fhdl.proofs.Resets.{each_of_at}
use Rattle.lx_emission.specs.Emission.{is_port}
use Rattle.lx_emission.specs.Naming.{clock_name, is_among, net}
use Rattle.lx_emission.proofs.Lists.{name_other}
use Rattle.lx_namer.specs.Marks.{resets_of}
use Rattle.lx_namer.specs.Names.{Wish, all_given, all_wishes, domain_names, given, has_no_path, line_of, memory_path, memory_wish, memory_wishes, name_or_place, name_taken, names_of, own_memory_name, own_name, port_fault, port_names, reserved, reset_names, signal_path, signal_wish, signal_wishes, taken_first}
use Rattle.lx_namer.specs.Staying.{AnswersStay, Gains, HaveStayed, NamesStay}
use Rattle.lx_namer.specs.Taken.{free_name, numbered}
use Rattle.lx_namer.proofs.Apart.{IsKnown, given_free, given_only}
use Rattle.lx_namer.proofs.Fit.{fault_is, given_long, names_are, names_given}
use Rattle.lx_namer.proofs.Free.{found_free, free_is}
use Rattle.lx_namer.proofs.Marked.{port_is}
use Rattle.lx_namer.proofs.Spelling.{IsGood, good_numbered, is_marked_name, no_mark}
use Rattle.lx_namer.proofs.Wishes.{all_known}

-- ---- lists with the same names, but for those with `$`

record AreAlike (a b : List Name) : Type 0 where
  each : (n : Name) → is_marked_name n ≡ false → is_among n a ≡ is_among n b

free_alike : (a b : List Name) (base : Name) → IsGood base → AreAlike a b → free_name a base ≡ free_name b base
free_alike a b base g h =
    let found = found_free a base in
    free_is b base (free_name a base) found.0 (record {
      is = found.1.is;
      below = record { some = found.1.below.some; each = λ k p q. sym (h.each (numbered base k) (unmarked k)) ∙ found.1.below.each k p q };
      free = sym (h.each (free_name a base) (ap is_marked_name found.1.is ∙ unmarked found.0)) ∙ found.1.free;
    })
  where
    unmarked : (k : ℕ) → is_marked_name (numbered base k) ≡ false
    unmarked k = no_mark (numbered base k) (good_numbered base k g).identifier

given_alike : (taken a b : List Name) (w : Wish) → IsKnown taken w → AreAlike a b → given a w ≡ given b w
given_alike taken a b w known h = by w.only refl
  where
    by : (t : Bool) → w.only ≡ t → given a w ≡ given b w
    by true e = given_only a w e ∙ sym (given_only b w e)
    by false e = given_free a w e ∙ free_alike a b w.name (known.free e) h ∙ sym (given_free b w e)

more_alike : (a b more : List Name) → AreAlike a b → AreAlike (a ++ more) (b ++ more)
more_alike a b more h = record {
  each = λ n m. list_any-append (bytes_eq n) a more ∙ ap (λ t. t || is_among n more) (h.each n m) ∙ sym (list_any-append (bytes_eq n) b more);
}

all_alike : (taken a b : List Name) (ws : List Wish) → AllByRecursion (IsKnown taken) ws → AreAlike a b → all_given a ws ≡ all_given b ws
unfolding all_given
all_alike taken a b [] known h = refl
all_alike taken a b (w ∷ ws) known h =
    ap (λ (n : Name). n ∷ all_given (a ++ n ∷ []) ws) (given_alike taken a b w known.0 h)
    ∙ ap (λ (ns : List Name). given b w ∷ ns) (all_alike taken (a ++ given b w ∷ []) (b ++ given b w ∷ []) ws known.1 (more_alike a b (given b w ∷ []) h))

-- ---- names with `$`

abbrev AreMarked : List Name → Type 0
AreMarked ns = AllByRecursion (λ (n : Name). is_marked_name n ≡ true) ns

record IsGenerated (w : Wish) : Type 0 where
  only : w.only ≡ true
  marked : is_marked_name w.name ≡ true

generated_marked : (taken : List Name) (ws : List Wish) → AllByRecursion IsGenerated ws → AreMarked (all_given taken ws)
unfolding all_given
generated_marked taken [] h = tt
generated_marked taken (w ∷ ws) h = (ap is_marked_name (given_only taken w h.0.only) ∙ h.0.marked, generated_marked (taken ++ given taken w ∷ []) ws h.1)

none_marked : (n : Name) (ns : List Name) → is_marked_name n ≡ false → AreMarked ns → is_among n ns ≡ false
none_marked n [] m h = refl
none_marked n (x ∷ xs) m h =
    ap (λ t. t || is_among n xs) (name_other n x (λ e. true≢false (sym h.0 ∙ ap is_marked_name (sym e) ∙ m))) ∙ none_marked n xs m h.1

marked_alike : (a ns : List Name) → AreMarked ns → AreAlike (a ++ ns) a
marked_alike a ns h = record {
  each = λ n m. list_any-append (bytes_eq n) a ns ∙ ap (λ t. is_among n a || t) (none_marked n ns m h) ∙ or-false (is_among n a);
}

-- ---- wishes in parts

given_joined : (taken : List Name) (vs ws : List Wish) → all_given taken (vs ++ ws) ≡ all_given taken vs ++ all_given (taken ++ all_given taken vs) ws
unfolding all_given
given_joined taken [] ws = ap (λ (t : List Name). all_given t ws) (sym (append-nil taken))
given_joined taken (v ∷ vs) ws =
    let n = given taken v in
    let t = taken ++ n ∷ [] in
    ap (λ (ns : List Name). n ∷ ns) (given_joined t vs ws ∙ ap (λ (u : List Name). all_given t vs ++ all_given u ws) (append_assoc taken (n ∷ []) (all_given t vs)))

same_wishes : (f g : ℕ → Wish) (a n : ℕ) → ((x : ℕ) → a ≤ x → x < a + n → f x ≡ g x) → map f (range_with_len a n) ≡ map g (range_with_len a n)
same_wishes f g a zero h = refl
same_wishes f g a (suc n) h =
    ap (λ (w : Wish). w ∷ map f (range_with_len (a + 1) n)) (h a (omega arith) (omega arith))
    ∙ ap (λ (ws : List Wish). g a ∷ ws) (same_wishes f g (a + 1) n (λ x p q. h x (omega arith) (omega arith)))

wishes_split : (f : ℕ → Wish) (a n k : ℕ) → map f (range_with_len a (n + k)) ≡ map f (range_with_len a n) ++ map f (range_with_len (a + n) k)
wishes_split f a zero k =
    let y : 0 + k ≡ k = omega arith in
    let z : a ≡ a + 0 = omega arith in
    ap (λ i. map f (range_with_len a i)) y ∙ ap (λ i. map f (range_with_len i k)) z
wishes_split f a (suc n) k =
    let y : suc n + k ≡ suc (n + k) = omega arith in
    let z : (a + 1) + n ≡ a + suc n = omega arith in
    ap (λ i. map f (range_with_len a i)) y
    ∙ ap (λ (ws : List Wish). f a ∷ ws) (wishes_split f (a + 1) n k ∙ ap (λ i. map f (range_with_len (a + 1) n) ++ map f (range_with_len i k)) z)

each_in : (P : Wish → Type 0) (f : ℕ → Wish) (a n : ℕ) → ((k : ℕ) → k < n → P (f (a + k))) → AllByRecursion P (map f (range_with_len a n))
each_in P f a zero h = tt
each_in P f a (suc n) h =
    let z : a + 0 ≡ a = omega arith in
    (subst (λ i. P (f i)) z (h 0 (omega arith)), each_in P f (a + 1) n (λ k l. let y : a + suc k ≡ (a + 1) + k = omega arith in subst (λ i. P (f i)) y (h (suc k) (omega arith))))

-- ---- what stays of a design

signal_same : (d e : Design) → Gains d e → (x : ℕ) → x < length d.signals → slice_get e.signals x ≡ slice_get d.signals x
signal_same d e g x l = ap (λ (ss : List Signal). slice_get ss x) g.are ∙ get_front d.signals g.signals x l

own_same : (d e : Design) → Gains d e → (x : ℕ) → x < length d.signals → own_name e x ≡ own_name d x
unfolding own_name
own_same d e g x l = ap (λ (o : Option Signal). name_or_place (codes "s$") x (signal_path o)) (signal_same d e g x l)

port_same : (d e : Design) → Gains d e → (x : ℕ) → is_port e x ≡ is_port d x
port_same d e g x =
    sym (port_is e x)
    ∙ ap (λ (xs : List SigId). circuit.is_among x (map signal_number xs ++ resets_of e.domains)) g.ios
    ∙ ap (λ (as_ : List Domain). circuit.is_among x (map signal_number d.ios ++ resets_of as_)) g.domains
    ∙ port_is d x

abbrev wish_from : Name → Option Signal → Bool → Wish
wish_from n o port = record { name = n; only = has_no_path (signal_path o) || port }

signal_wish_same : (d e : Design) → Gains d e → (x : ℕ) → x < length d.signals → signal_wish e x ≡ signal_wish d x
unfolding signal_wish
signal_wish_same d e g x l =
    ap (λ (n : Name). wish_from n (slice_get e.signals x) (is_port e x)) (own_same d e g x l)
    ∙ ap (λ (o : Option Signal). wish_from (own_name d x) o (is_port e x)) (signal_same d e g x l)
    ∙ ap (λ (b : Bool). wish_from (own_name d x) (slice_get d.signals x) b) (port_same d e g x)

abbrev memory_wish_from : List Memory → ℕ → Wish
memory_wish_from ms k = record { name = name_or_place (codes "m$") k (memory_path (slice_get ms k)); only = has_no_path (memory_path (slice_get ms k)) }

memory_wish_same : (d e : Design) → Gains d e → (k : ℕ) → memory_wish e k ≡ memory_wish d k
unfolding memory_wish own_memory_name
memory_wish_same d e g k = ap (λ (ms : List Memory). memory_wish_from ms k) g.memories

-- ---- what is gained

get_behind : {X : Type 0} (xs ys : List X) (k : ℕ) → slice_get (xs ++ ys) (length xs + k) ≡ slice_get ys k
get_behind [] ys k = let z : 0 + k ≡ k = omega arith in ap (λ i. slice_get ys i) z
get_behind (x ∷ xs) ys k =
    (let z : suc (length xs) + k ≡ suc (length xs + k) = omega arith in ap (λ i. slice_get (x ∷ (xs ++ ys)) i) z) ∙ get_behind xs ys k

signal_gained : (d e : Design) (g : Gains d e) (k : ℕ) → k < length g.signals → signal_path (slice_get e.signals (length d.signals + k)) ≡ []
signal_gained d e g k l =
    let found = node_there g.signals k l in
    ap (λ (ss : List Signal). signal_path (slice_get ss (length d.signals + k))) g.are
    ∙ ap signal_path (get_behind d.signals g.signals k ∙ found.1)
    ∙ each_of_at (λ (s : Signal). s.path ≡ []) g.signals g.pathless k found.0 found.1

generated : (e : Design) (x : ℕ) → signal_path (slice_get e.signals x) ≡ [] → IsGenerated (signal_wish e x)
unfolding signal_wish own_name
generated e x p = record {
  only = ap (λ (path : List Name). has_no_path path || is_port e x) p;
  marked = ap (λ (path : List Name). is_marked_name (name_or_place (codes "s$") x path)) p;
}

abbrev gained : (d e : Design) → Gains d e → List Wish
gained d e g = map (signal_wish e) (range_with_len (length d.signals) (length g.signals))

all_generated : (d e : Design) (g : Gains d e) → AllByRecursion IsGenerated (gained d e g)
all_generated d e g = each_in IsGenerated (signal_wish e) (length d.signals) (length g.signals) (λ k l. generated e (length d.signals + k) (signal_gained d e g k l))

-- ---- all wishes

signals_long : (d e : Design) (g : Gains d e) → length e.signals ≡ length d.signals + length g.signals
signals_long d e g = ap length g.are ∙ length-append d.signals g.signals

signals_split : (d e : Design) (g : Gains d e) → signal_wishes e (length e.signals) ≡ signal_wishes d (length d.signals) ++ gained d e g
signals_split d e g =
    let z : 0 + length d.signals ≡ length d.signals = omega arith in
    ap (λ n. signal_wishes e n) (signals_long d e g)
    ∙ wishes_split (signal_wish e) 0 (length d.signals) (length g.signals)
    ∙ ap (λ (ws : List Wish). ws ++ map (signal_wish e) (range_with_len (0 + length d.signals) (length g.signals)))
    (same_wishes (signal_wish e) (signal_wish d) 0 (length d.signals) (λ x p q. signal_wish_same d e g x (omega arith)))
    ∙ ap (λ n. signal_wishes d (length d.signals) ++ map (signal_wish e) (range_with_len n (length g.signals))) z

memories_same : (d e : Design) → Gains d e → memory_wishes e (length e.memories) ≡ memory_wishes d (length d.memories)
memories_same d e g =
    ap (λ (ms : List Memory). memory_wishes e (length ms)) g.memories
    ∙ same_wishes (memory_wish e) (memory_wish d) 0 (length d.memories) (λ k p q. memory_wish_same d e g k)

wishes_same : (d e : Design) (g : Gains d e) → all_wishes e ≡ (signal_wishes d (length d.signals) ++ gained d e g) ++ memory_wishes d (length d.memories)
wishes_same d e g =
    ap (λ (ws : List Wish). ws ++ memory_wishes e (length e.memories)) (signals_split d e g)
    ∙ ap (λ (ws : List Wish). (signal_wishes d (length d.signals) ++ gained d e g) ++ ws) (memories_same d e g)

-- ---- what is taken first

reset_there : (d : Design) (a : Domain) (r : SigId) → IsReset d a r → r.0 < length d.signals
reset_there d a r h = by (slice_get d.signals r.0) refl h.path
  where
    by : (o : Option Signal) → slice_get d.signals r.0 ≡ o → HasResetPath a o → r.0 < length d.signals
    by None e p = absurd p
    by (Some s) e p = slice_get_within d.signals r.0 s e

resets_same : (d e : Design) → Gains d e → (a : Domain) (o : Option SigId) → IfSome o (IsReset d a) → reset_names e o ≡ reset_names d o
resets_same d e g a None h = refl
resets_same d e g a (Some r) h = ap (λ (n : Name). n ∷ []) (own_same d e g r.0 (reset_there d a r h))

domains_same : (d e : Design) → Gains d e → (as_ : List Domain) → EachOf (IsDomain d) as_ → flat_map (domain_names e) as_ ≡ flat_map (domain_names d) as_
domains_same d e g [] h = refl
domains_same d e g (a ∷ as_) h =
    ap (λ (ns : List Name). (clock_name a.name ∷ ns) ++ flat_map (domain_names e) as_) (resets_same d e g a a.reset h.0.reset)
    ∙ ap (λ (ns : List Name). (clock_name a.name ∷ reset_names d a.reset) ++ ns) (domains_same d e g as_ h.1)

reserved_same : (d e : Design) → Keeps d → Gains d e → reserved e ≡ reserved d
unfolding reserved
reserved_same d e keeps g = ap (λ (as_ : List Domain). flat_map (domain_names e) as_) g.domains ∙ domains_same d e g d.domains keeps.domains

abbrev AreThere : Design → List SigId → Type 0
AreThere d xs = EachOf (λ (x : SigId). x.0 < length d.signals) xs

port_names_same : (d e : Design) → Gains d e → (xs : List SigId) → AreThere d xs → port_names e xs ≡ port_names d xs
port_names_same d e g [] h = refl
port_names_same d e g (x ∷ xs) h =
    ap (λ (n : Name). n ∷ port_names e xs) (own_same d e g x.0 h.0) ∙ ap (λ (ns : List Name). own_name d x.0 ∷ ns) (port_names_same d e g xs h.1)

taken_same : (d e : Design) → Keeps d → Gains d e → taken_first e ≡ taken_first d
taken_same d e keeps g =
    ap (λ (ns : List Name). ns ++ port_names e e.ios) (reserved_same d e keeps g)
    ∙ ap (λ (ns : List Name). reserved d ++ ns) (ap (λ (xs : List SigId). port_names e xs) g.ios ∙ port_names_same d e g d.ios keeps.ios)

abbrev fault_at : Option Signal → Name → Fault
fault_at o n = record { line = line_of o; kind = kind.NameTaken n }

faults_same : (d e : Design) → Gains d e → (taken : List Name) (xs : List SigId) → AreThere d xs → port_fault e taken xs ≡ port_fault d taken xs
unfolding port_fault
faults_same d e g taken [] h = refl
faults_same d e g taken (x ∷ xs) h =
    ap (λ (n : Name). cond (is_among n taken) (Some (fault_at (slice_get e.signals x.0) n)) (port_fault e (taken ++ n ∷ []) xs)) (own_same d e g x.0 h.0)
    ∙ ap (λ (o : Option Signal). cond (is_among (own_name d x.0) taken) (Some (fault_at o (own_name d x.0))) (port_fault e (taken ++ own_name d x.0 ∷ []) xs)) (signal_same d e g x.0 h.0)
    ∙ ap (λ (o : Option Fault). cond (is_among (own_name d x.0) taken) (Some (name_taken d x)) o) (faults_same d e g (taken ++ own_name d x.0 ∷ []) xs h.1)

fault_same : (d e : Design) → Keeps d → Gains d e → port_fault e (reserved e) e.ios ≡ port_fault d (reserved d) d.ios
fault_same d e keeps g =
    ap (λ (ns : List Name). port_fault e ns e.ios) (reserved_same d e keeps g)
    ∙ ap (λ (xs : List SigId). port_fault e (reserved d) xs) g.ios
    ∙ faults_same d e g (reserved d) d.ios keeps.ios

-- ---- the names

-- those of the signals, those of the signals that are gained, and those of the memories
abbrev signal_names : Design → List Name
signal_names d = all_given (taken_first d) (signal_wishes d (length d.signals))

abbrev gained_names : (d e : Design) → Gains d e → List Name
gained_names d e g = all_given (taken_first d ++ signal_names d) (gained d e g)

abbrev memory_names : Design → List Name
memory_names d = all_given (taken_first d ++ signal_names d) (memory_wishes d (length d.memories))

memories_known : (taken : List Name) (vs ws : List Wish) → AllByRecursion (IsKnown taken) (vs ++ ws) → AllByRecursion (IsKnown taken) ws
memories_known taken [] ws h = h
memories_known taken (v ∷ vs) ws h = memories_known taken vs ws h.1

old_names : (d : Design) → names_given d ≡ signal_names d ++ memory_names d
old_names d = given_joined (taken_first d) (signal_wishes d (length d.signals)) (memory_wishes d (length d.memories))

new_names : (d e : Design) → Keeps d → (g : Gains d e) → names_given e ≡ (signal_names d ++ gained_names d e g) ++ memory_names d
new_names d e keeps g =
    let first = taken_first d in
    let ss = signal_wishes d (length d.signals) in
    let ms = memory_wishes d (length d.memories) in
    let known = memories_known first ss ms (all_known d keeps) in
    let marked = generated_marked (first ++ signal_names d) (gained d e g) (all_generated d e g) in
    let front : all_given first (ss ++ gained d e g) ≡ signal_names d ++ gained_names d e g = given_joined first ss (gained d e g) in
    ap (λ (t : List Name). all_given t (all_wishes e)) (taken_same d e keeps g)
    ∙ ap (λ (ws : List Wish). all_given first ws) (wishes_same d e g)
    ∙ given_joined first (ss ++ gained d e g) ms
    ∙ ap (λ (ns : List Name). ns ++ all_given (first ++ ns) ms) front
    ∙ ap (λ (t : List Name). (signal_names d ++ gained_names d e g) ++ all_given t ms) (sym (append_assoc first (signal_names d) (gained_names d e g)))
    ∙ ap (λ (ns : List Name). (signal_names d ++ gained_names d e g) ++ ns)
    (all_alike first ((first ++ signal_names d) ++ gained_names d e g) (first ++ signal_names d) ms known (marked_alike (first ++ signal_names d) (gained_names d e g) marked))

signal_names_long : (d : Design) → length (signal_names d) ≡ length d.signals
signal_names_long d = given_long (taken_first d) (signal_wishes d (length d.signals)) ∙ length-map-range_with_len (signal_wish d) 0 (length d.signals)

gained_names_long : (d e : Design) (g : Gains d e) → length (gained_names d e g) ≡ length g.signals
gained_names_long d e g = given_long (taken_first d ++ signal_names d) (gained d e g) ∙ length-map-range_with_len (signal_wish e) (length d.signals) (length g.signals)

front_long : (d e : Design) (g : Gains d e) → length e.signals ≡ length (signal_names d ++ gained_names d e g)
front_long d e g =
    let one = signals_long d e g in
    let all = length-append (signal_names d) (gained_names d e g) in
    let ss = signal_names_long d in
    let ms = gained_names_long d e g in
    omega (arith, one, all, ss, ms)

have_stayed : (d e : Design) → Keeps d → (g : Gains d e) → HaveStayed d e (names_given d) (names_given e)
have_stayed d e keeps g =
    let ss = signal_names d in
    let more = gained_names d e g in
    let ms = memory_names d in
    let long = signal_names_long d in
    record {
      signals = λ x l.
          ap (λ (ns : List Name). net ns x) (new_names d e keeps g)
          ∙ get_or_append_left (ss ++ more) ms [] x (omega (arith, length-append ss more, long))
          ∙ get_or_append_left ss more [] x (omega (arith, long))
          ∙ sym (get_or_append_left ss ms [] x (omega (arith, long)))
          ∙ sym (ap (λ (ns : List Name). net ns x) (old_names d));
      memories = λ k.
          ap (λ (ns : List Name). net ns (length e.signals + k)) (new_names d e keeps g)
          ∙ ap (λ n. net ((ss ++ more) ++ ms) (n + k)) (front_long d e g)
          ∙ get_or-append-add (ss ++ more) ms k []
          ∙ sym (get_or-append-add ss ms k [])
          ∙ ap (λ n. net (ss ++ ms) (n + k)) long
          ∙ sym (ap (λ (ns : List Name). net ns (length d.signals + k)) (old_names d));
    }

stay_as : (d e : Design) (r s t u : Result (List Name) Fault) → r ≡ t → s ≡ u → AnswersStay d e t u → AnswersStay d e r s
stay_as d e r s t u p q h = subst (λ (x : Result (List Name) Fault). AnswersStay d e x s) (sym p) (subst (λ (y : Result (List Name) Fault). AnswersStay d e t y) (sym q) h)

pub names_stay : NamesStay
names_stay d e keeps g = by (port_fault d (reserved d) d.ios) refl
  where
    by : (o : Option Fault) → port_fault d (reserved d) d.ios ≡ o → AnswersStay d e (names_of d) (names_of e)
    by None p =
        stay_as d e (names_of d) (names_of e) (Ok (names_given d)) (Ok (names_given e))
        (names_are d (names_given d) p refl) (names_are e (names_given e) (fault_same d e keeps g ∙ p) refl) (have_stayed d e keeps g)
    by (Some f) p = stay_as d e (names_of d) (names_of e) (Err f) (Err f) (fault_is d f p) (fault_is e f (fault_same d e keeps g ∙ p)) refl
