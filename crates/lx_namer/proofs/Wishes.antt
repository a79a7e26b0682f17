-- What the signals and memories of a design ask for.
use Rattle.std.proofs.Common.{◌≡◌, ℕ, zero, suc, ◌+◌, ◌<◌, ◌≤◌, Bool, true, false, cond, not, ◌||◌, List, [], ◌∷◌, ◌++◌, Option, Some, None, map, length, codes, refl, sym, ap, subst, ◌∙◌, arith, inl, inr, ◌⊎◌, nat_eq, eqb-true, eq-eqb, true≢false, flat_map}
use Rattle.std.specs.Prelude.{slice_get, option_map, IfSome}
use Rattle.std.specs.List.{AllByRecursion, list_all, range_with_len}
use Rattle.std.specs.Str.{bytes_eq}
use Rattle.std.proofs.lemmas.Bool.{and_from, or_cases, or_left, or_right}
use Rattle.std.proofs.lemmas.List.{append_cancel_right}
use Rattle.std.proofs.lemmas.Option.{slice_get-map}
use Rattle.lx_circuit.specs.Circuit as circuit
use Rattle.lx_vtext.specs.Tree.{Name}
use Rattle.lx_vtext.specs.Printed.{number_text}
use Rattle.lx_arena.proofs.Places.{node_there}
use Rattle.lx_fhdl.specs.Designs.{signal_number}
use Rattle.lx_fhdl.specs.Keeping.{HasResetPath, IsDomain, IsMemory, IsReset, IsSignal, Keeps, is_distinct, is_identifier, reset_name}
use Rattle.lx_fhdl.specs.declared.exprs.SigId.{SigId}
use Rattle.lx_fhdl.specs.declared.design.Signal.{Signal}
use Rattle.lx_fhdl.specs.declared.design.Domain.{Domain}
use Rattle.lx_fhdl.specs.declared.design.Design.{Design}
use Rattle.lx_fhdl.proofs.Resets.{each_of_at}
use Rattle.lx_emission.specs.Naming.{clock_name, is_among}
use Rattle.lx_emission.specs.Emission.{is_port}
use Rattle.lx_emission.proofs.Lists.{each_counted, each_of_two, is_there, name_other, one_place}
use Rattle.lx_namer.specs.Marks.{reset_numbers, resets_of}
use Rattle.lx_namer.specs.Names.{Wish, all_wishes, domain_names, has_no_path, memory_path, memory_wish, memory_wishes, name_or_place, own_memory_name, own_name, port_fault, port_names, reserved, reset_names, signal_path, signal_wish, signal_wishes, taken_first, name_taken}
use Rattle.lx_namer.proofs.Apart.{AreApart, IsKnown, IsOther, OfOnly, among_first, among_itself, among_not, among_second, not_among_first}
use Rattle.lx_namer.proofs.Free.{number_once}
use Rattle.lx_namer.proofs.Marked.{among_joined, port_is}
use Rattle.lx_namer.proofs.Spelling.{IsGood, good_base, is_marked_name, no_mark, reset_base}

-- ---- a design whose ports have no fault

pub record CanBeNamed (d : Design) : Type 0 where
  pub keeps : Keeps d
  pub ports : port_fault d (reserved d) d.ios ≡ None

-- the ports' own names are distinct, and none of those that are taken
pub record PortsApart (d : Design) (taken : List Name) (xs : List SigId) : Type 0 where
  pub distinct : is_distinct (port_names d xs) ≡ true
  pub others : AllByRecursion (λ (n : Name). is_among n taken ≡ false) (port_names d xs)

not_first : (n m : Name) (taken : List Name) → is_among m (taken ++ n ∷ []) ≡ false → n ≡ m → ⊥
not_first n m taken h e = among_not n m (taken ++ n ∷ []) (among_second n taken (n ∷ []) (among_itself n [])) h e

fewer_taken : (n : Name) (taken ns : List Name) → AllByRecursion (λ (m : Name). is_among m (taken ++ n ∷ []) ≡ false) ns → AllByRecursion (λ (m : Name). is_among m taken ≡ false) ns
fewer_taken n taken [] h = tt
fewer_taken n taken (m ∷ ms) h = (not_among_first m taken (n ∷ []) h.0, fewer_taken n taken ms h.1)

none_of : (n : Name) (taken ns : List Name) → AllByRecursion (λ (m : Name). is_among m (taken ++ n ∷ []) ≡ false) ns → is_among n ns ≡ false
none_of n taken [] h = refl
none_of n taken (m ∷ ms) h = ap (λ t. t || is_among n ms) (name_other n m (not_first n m taken h.0)) ∙ none_of n taken ms h.1

pub ports_apart : (d : Design) (taken : List Name) (xs : List SigId) → port_fault d taken xs ≡ None → PortsApart d taken xs
unfolding port_fault
ports_apart d taken [] h = record { distinct = refl; others = tt }
ports_apart d taken (x ∷ xs) h = by (ports_apart d (taken ++ own_name d x.0 ∷ []) xs) (is_among (own_name d x.0) taken) refl h
  where
    by : (port_fault d (taken ++ own_name d x.0 ∷ []) xs ≡ None → PortsApart d (taken ++ own_name d x.0 ∷ []) xs) → (b : Bool) → is_among (own_name d x.0) taken ≡ b → cond b (Some (name_taken d x)) (port_fault d (taken ++ own_name d x.0 ∷ []) xs) ≡ None → PortsApart d taken (x ∷ xs)
    by next true e g = absurd cc
    by next false e g =
        let n = own_name d x.0 in
        let rest = next g in
        let none = none_of n taken (port_names d xs) rest.others in
        record {
          distinct = and_from (not (is_among n (port_names d xs))) (is_distinct (port_names d xs)) (ap (λ t. not t) none) rest.distinct;
          others = (e, fewer_taken n taken (port_names d xs) rest.others);
        }

each_at : (P : Name → Type 0) (ns : List Name) → AllByRecursion P ns → (k : ℕ) (n : Name) → slice_get ns k ≡ Some n → P n
each_at P [] h k n e = absurd cc
each_at P (m ∷ ms) h zero n e = let same : m ≡ n = cc in subst P same h.0
each_at P (m ∷ ms) h (suc k) n e = each_at P ms h.1 k n e

-- ---- where a port or a reset stands

pub record IsIo (d : Design) (x : ℕ) : Type 0 where
  pub at : ℕ
  pub io : SigId
  pub there : slice_get d.ios at ≡ Some io
  pub is : io.0 ≡ x

pub record IsResetOf (d : Design) (x : ℕ) : Type 0 where
  pub at : ℕ
  pub domain : Domain
  pub reset : SigId
  pub there : slice_get d.domains at ≡ Some domain
  pub has : domain.reset ≡ Some reset
  pub is : reset.0 ≡ x

io_found : (x : ℕ) (xs : List SigId) → circuit.is_among x (map signal_number xs) ≡ true → (k : ℕ) × (y : SigId) × (slice_get xs k ≡ Some y) × (y.0 ≡ x)
io_found x [] h = absurd cc
io_found x (y ∷ ys) h = by (io_found x ys) (nat_eq y.0 x) refl h
  where
    by : (circuit.is_among x (map signal_number ys) ≡ true → (k : ℕ) × (z : SigId) × (slice_get ys k ≡ Some z) × (z.0 ≡ x)) → (b : Bool) → nat_eq y.0 x ≡ b → (b || circuit.is_among x (map signal_number ys)) ≡ true → (k : ℕ) × (z : SigId) × (slice_get (y ∷ ys) k ≡ Some z) × (z.0 ≡ x)
    by next true e g = (zero, y, refl, eqb-true y.0 x e)
    by next false e g = let found = next g in (suc found.0, found.1, found.2, found.3)

pub reset_found : (x : ℕ) (as_ : List Domain) → circuit.is_among x (resets_of as_) ≡ true → (k : ℕ) × (a : Domain) × (r : SigId) × (slice_get as_ k ≡ Some a) × (a.reset ≡ Some r) × (r.0 ≡ x)
reset_found x [] h = absurd cc
reset_found x (a ∷ as_) h = by (reset_found x as_) a.reset refl
  where
    later : (circuit.is_among x (resets_of as_) ≡ true → (k : ℕ) × (b : Domain) × (r : SigId) × (slice_get as_ k ≡ Some b) × (b.reset ≡ Some r) × (r.0 ≡ x)) → circuit.is_among x (resets_of as_) ≡ true → (k : ℕ) × (b : Domain) × (r : SigId) × (slice_get (a ∷ as_) k ≡ Some b) × (b.reset ≡ Some r) × (r.0 ≡ x)
    later next g = let found = next g in (suc found.0, found.1, found.2, found.3, found.4, found.5)

    first : (circuit.is_among x (resets_of as_) ≡ true → (k : ℕ) × (b : Domain) × (r : SigId) × (slice_get as_ k ≡ Some b) × (b.reset ≡ Some r) × (r.0 ≡ x)) → (s : SigId) → a.reset ≡ Some s → (b : Bool) → nat_eq s.0 x ≡ b → (b || circuit.is_among x (resets_of as_)) ≡ true → (k : ℕ) × (c : Domain) × (r : SigId) × (slice_get (a ∷ as_) k ≡ Some c) × (c.reset ≡ Some r) × (r.0 ≡ x)
    first next s e true f g = (zero, a, s, refl, e, eqb-true s.0 x f)
    first next s e false f g = later next g

    by : (circuit.is_among x (resets_of as_) ≡ true → (k : ℕ) × (b : Domain) × (r : SigId) × (slice_get as_ k ≡ Some b) × (b.reset ≡ Some r) × (r.0 ≡ x)) → (o : Option SigId) → a.reset ≡ o → (k : ℕ) × (b : Domain) × (r : SigId) × (slice_get (a ∷ as_) k ≡ Some b) × (b.reset ≡ Some r) × (r.0 ≡ x)
    by next None e = later next (sym (ap (λ (o : Option SigId). circuit.is_among x (reset_numbers o ++ resets_of as_)) e) ∙ h)
    by next (Some s) e = first next s e (nat_eq s.0 x) refl (sym (ap (λ (o : Option SigId). circuit.is_among x (reset_numbers o ++ resets_of as_)) e) ∙ h)

port_found : (d : Design) (x : ℕ) → is_port d x ≡ true → IsIo d x ⊎ IsResetOf d x
port_found d x h = by (or_cases (circuit.is_among x (map signal_number d.ios)) (circuit.is_among x (resets_of d.domains)) (sym (among_joined x (map signal_number d.ios) (resets_of d.domains)) ∙ port_is d x ∙ h))
  where
    by : (circuit.is_among x (map signal_number d.ios) ≡ true) ⊎ (circuit.is_among x (resets_of d.domains) ≡ true) → IsIo d x ⊎ IsResetOf d x
    by (inl e) = let f = io_found x d.ios e in inl (record { at = f.0; io = f.1; there = f.2; is = f.3 })
    by (inr e) = let f = reset_found x d.domains e in inr (record { at = f.0; domain = f.1; reset = f.2; there = f.3; has = f.4; is = f.5 })

reset_among : (x k : ℕ) (as_ : List Domain) (a : Domain) (r : SigId) → slice_get as_ k ≡ Some a → a.reset ≡ Some r → r.0 ≡ x → circuit.is_among x (resets_of as_) ≡ true
reset_among x k [] a r e f g = absurd cc
reset_among x zero (b ∷ bs) a r e f g =
    let same : b ≡ a = cc in
    let o : b.reset ≡ Some r = ap (λ (c : Domain). c.reset) same ∙ f in
    ap (λ (p : Option SigId). circuit.is_among x (reset_numbers p ++ resets_of bs)) o ∙ or_left (nat_eq r.0 x) (circuit.is_among x (resets_of bs)) (eq-eqb r.0 x g)
reset_among x (suc k) (b ∷ bs) a r e f g =
    among_joined x (reset_numbers b.reset) (resets_of bs)
    ∙ or_right (circuit.is_among x (reset_numbers b.reset)) (circuit.is_among x (resets_of bs)) (reset_among x k bs a r e f g)

pub reset_port : (d : Design) (x : ℕ) → IsResetOf d x → is_port d x ≡ true
reset_port d x r =
    sym (port_is d x) ∙ among_joined x (map signal_number d.ios) (resets_of d.domains)
    ∙ or_right (circuit.is_among x (map signal_number d.ios)) (circuit.is_among x (resets_of d.domains)) (reset_among x r.at d.domains r.domain r.reset r.there r.has r.is)

-- ---- the names of ports and resets are taken first

io_name : (d : Design) (x : ℕ) (i : IsIo d x) → slice_get (port_names d d.ios) i.at ≡ Some (own_name d x)
io_name d x i = slice_get-map (λ (y : SigId). own_name d y.0) d.ios i.at ∙ ap (option_map (λ (y : SigId). own_name d y.0)) i.there ∙ ap (λ k. Some (own_name d k)) i.is

domain_reserved : (d : Design) (n : Name) (as_ : List Domain) (k : ℕ) (a : Domain) → slice_get as_ k ≡ Some a → is_among n (domain_names d a) ≡ true → is_among n (flat_map (domain_names d) as_) ≡ true
domain_reserved d n [] k a e h = absurd cc
domain_reserved d n (b ∷ bs) zero a e h =
    let same : a ≡ b = cc in
    among_first n (domain_names d b) (flat_map (domain_names d) bs) (subst (λ (c : Domain). is_among n (domain_names d c) ≡ true) same h)
domain_reserved d n (b ∷ bs) (suc k) a e h = among_second n (domain_names d b) (flat_map (domain_names d) bs) (domain_reserved d n bs k a e h)

pub clock_reserved : (d : Design) (k : ℕ) (a : Domain) → slice_get d.domains k ≡ Some a → is_among (clock_name a.name) (reserved d) ≡ true
unfolding reserved
clock_reserved d k a e = domain_reserved d (clock_name a.name) d.domains k a e (among_itself (clock_name a.name) (reset_names d a.reset))

pub reset_reserved : (d : Design) (x : ℕ) → IsResetOf d x → is_among (own_name d x) (reserved d) ≡ true
unfolding reserved
reset_reserved d x r =
    let here : is_among (own_name d x) (reset_names d r.domain.reset) ≡ true =
    ap (λ (o : Option SigId). is_among (own_name d x) (reset_names d o)) r.has
    ∙ ap (λ k. is_among (own_name d x) (own_name d k ∷ [])) r.is ∙ among_itself (own_name d x) [] in
    domain_reserved d (own_name d x) d.domains r.at r.domain r.there
    (or_right (bytes_eq (own_name d x) (clock_name r.domain.name)) (is_among (own_name d x) (reset_names d r.domain.reset)) here)

pub io_not_reserved : (d : Design) → CanBeNamed d → (x : ℕ) → IsIo d x → is_among (own_name d x) (reserved d) ≡ false
io_not_reserved d can x i = each_at (λ n. is_among n (reserved d) ≡ false) (port_names d d.ios) (ports_apart d (reserved d) d.ios can.ports).others i.at (own_name d x) (io_name d x i)

port_taken : (d : Design) (x : ℕ) → is_port d x ≡ true → is_among (own_name d x) (taken_first d) ≡ true
port_taken d x h = by (port_found d x h)
  where
    by : IsIo d x ⊎ IsResetOf d x → is_among (own_name d x) (taken_first d) ≡ true
    by (inl i) = among_second (own_name d x) (reserved d) (port_names d d.ios) (is_there (own_name d x) (port_names d d.ios) i.at (io_name d x i))
    by (inr r) = among_first (own_name d x) (reserved d) (port_names d d.ios) (reset_reserved d x r)

-- ---- resets

own_path : (d : Design) (x : ℕ) (path : List Name) → signal_path (slice_get d.signals x) ≡ path → own_name d x ≡ name_or_place (codes "s$") x path
unfolding own_name
own_path d x path e = ap (name_or_place (codes "s$") x) e

pub reset_stands : (d : Design) → Keeps d → (k : ℕ) (a : Domain) (r : SigId) → slice_get d.domains k ≡ Some a → a.reset ≡ Some r → IsReset d a r
reset_stands d keeps k a r e f = subst (λ (o : Option SigId). IfSome o (IsReset d a)) f (each_of_at (IsDomain d) d.domains keeps.domains k a e).reset

reset_path : (a : Domain) (o : Option Signal) → HasResetPath a o → signal_path o ≡ reset_name a.name ∷ []
reset_path a None h = absurd h
reset_path a (Some s) h = h

-- the reset of a domain has its own name
pub reset_own : (d : Design) → Keeps d → (x : ℕ) (r : IsResetOf d x) → own_name d x ≡ reset_name r.domain.name
reset_own d keeps x r =
    let stands = reset_stands d keeps r.at r.domain r.reset r.there r.has in
    let path = reset_path r.domain (slice_get d.signals r.reset.0) stands.path in
    ap (own_name d) (sym r.is) ∙ own_path d r.reset.0 (reset_name r.domain.name ∷ []) path ∙ reset_base r.domain.name

-- ---- what signals ask for

-- a signal without a path, or one with a good name
pub data SignalName (d : Design) (x : ℕ) : Type 0 where
  Generated : own_name d x ≡ codes "s$" ++ number_text x → (signal_wish d x).only ≡ true → SignalName d x
  Called : IsGood (own_name d x) → (signal_wish d x).only ≡ is_port d x → SignalName d x

signal_name : (d : Design) → Keeps d → (x : ℕ) → x < length d.signals → SignalName d x
unfolding signal_wish
signal_name d keeps x l =
    let found = node_there d.signals x l in
    let stands = each_of_at IsSignal d.signals keeps.signals x found.0 found.1 in
    by found.0.path (ap signal_path found.1) stands.path
  where
    by : (path : List Name) → signal_path (slice_get d.signals x) ≡ path → list_all is_identifier path ≡ true → SignalName d x
    by [] e h = Generated (own_path d x [] e) (ap (λ (p : List Name). has_no_path p || is_port d x) e)
    by (w ∷ ws) e h = Called (subst IsGood (sym (own_path d x (w ∷ ws) e)) (good_base w ws h)) (ap (λ (p : List Name). has_no_path p || is_port d x) e)

pub data MemoryName (d : Design) (k : ℕ) : Type 0 where
  GeneratedMemory : own_memory_name d k ≡ codes "m$" ++ number_text k → (memory_wish d k).only ≡ true → MemoryName d k
  CalledMemory : IsGood (own_memory_name d k) → (memory_wish d k).only ≡ false → MemoryName d k

memory_name : (d : Design) → Keeps d → (k : ℕ) → k < length d.memories → MemoryName d k
unfolding memory_wish own_memory_name
memory_name d keeps k l =
    let found = node_there d.memories k l in
    let stands = each_of_at IsMemory d.memories keeps.memories k found.0 found.1 in
    by found.0.path (ap memory_path found.1) stands.path
  where
    by : (path : List Name) → memory_path (slice_get d.memories k) ≡ path → list_all is_identifier path ≡ true → MemoryName d k
    by [] e h = GeneratedMemory (ap (name_or_place (codes "m$") k) e) (ap has_no_path e)
    by (w ∷ ws) e h = CalledMemory (subst IsGood (sym (ap (name_or_place (codes "m$") k) e)) (good_base w ws h)) (ap has_no_path e)

pub wish_name : (d : Design) (x : ℕ) → (signal_wish d x).name ≡ own_name d x
unfolding signal_wish
wish_name d x = refl

memory_wish_name : (d : Design) (k : ℕ) → (memory_wish d k).name ≡ own_memory_name d k
unfolding memory_wish
memory_wish_name d k = refl

marked_as : (n : Name) (b k : ℕ) → n ≡ b ∷ (36 ∷ number_text k) → is_marked_name n ≡ true
marked_as n b k e = ap is_marked_name e

-- ---- each wish is known

signal_known : (d : Design) → Keeps d → (x : ℕ) → x < length d.signals → IsKnown (taken_first d) (signal_wish d x)
signal_known d keeps x l = by (signal_name d keeps x l)
  where
    by : SignalName d x → IsKnown (taken_first d) (signal_wish d x)
    by (Generated e o) = record { only = λ h. inr (ap is_marked_name (wish_name d x) ∙ marked_as (own_name d x) 115 x e); free = λ h. absurd (true≢false (sym o ∙ h)) }
    by (Called g o) = record {
      only = λ h. inl (ap (λ n. is_among n (taken_first d)) (wish_name d x) ∙ port_taken d x (sym o ∙ h));
      free = λ h. subst IsGood (sym (wish_name d x)) g;
    }

memory_known : (d : Design) → Keeps d → (k : ℕ) → k < length d.memories → IsKnown (taken_first d) (memory_wish d k)
memory_known d keeps k l = by (memory_name d keeps k l)
  where
    by : MemoryName d k → IsKnown (taken_first d) (memory_wish d k)
    by (GeneratedMemory e o) = record { only = λ h. inr (ap is_marked_name (memory_wish_name d k) ∙ marked_as (own_memory_name d k) 109 k e); free = λ h. absurd (true≢false (sym o ∙ h)) }
    by (CalledMemory g o) = record { only = λ h. absurd (true≢false (sym h ∙ o)); free = λ h. subst IsGood (sym (memory_wish_name d k)) g }

-- what holds of the signals and of the memories holds of all
pub each_wish : (P : Wish → Type 0) (d : Design) → ((x : ℕ) → x < length d.signals → P (signal_wish d x)) → ((k : ℕ) → k < length d.memories → P (memory_wish d k)) → AllByRecursion P (all_wishes d)
each_wish P d signals memories =
    each_of_two P (signal_wishes d (length d.signals)) (memory_wishes d (length d.memories))
    (each_counted P (signal_wish d) 0 (length d.signals) (λ x p q. signals x (omega arith)))
    (each_counted P (memory_wish d) 0 (length d.memories) (λ k p q. memories k (omega arith)))

pub all_known : (d : Design) → Keeps d → AllByRecursion (IsKnown (taken_first d)) (all_wishes d)
all_known d keeps = each_wish (IsKnown (taken_first d)) d (signal_known d keeps) (memory_known d keeps)

-- ---- wishes are apart

mark_once : (b x y : ℕ) (n m : Name) → n ≡ b ∷ (36 ∷ number_text x) → m ≡ b ∷ (36 ∷ number_text y) → n ≡ m → x ≡ y
mark_once b x y n m e f same = let texts : number_text x ≡ number_text y = cc in number_once x y texts

good_not_marked : (n m : Name) → IsGood n → is_marked_name m ≡ true → n ≡ m → ⊥
good_not_marked n m g h e = true≢false (sym h ∙ ap is_marked_name (sym e) ∙ no_mark n g.identifier)

abbrev domain_names_of : List Domain → List Name
domain_names_of as_ = map (λ (a : Domain). a.name) as_

ios_once : (d : Design) → CanBeNamed d → (x y : ℕ) → IsIo d x → IsIo d y → own_name d x ≡ own_name d y → x ≡ y
ios_once d can x y i j e =
    let apart = ports_apart d (reserved d) d.ios can.ports in
    let place = one_place (port_names d d.ios) apart.distinct i.at j.at (own_name d x) (io_name d x i) (io_name d y j ∙ ap Some (sym e)) in
    let both : Some i.io ≡ Some j.io = sym i.there ∙ ap (slice_get d.ios) place ∙ j.there in
    let same : i.io ≡ j.io = cc in
    sym i.is ∙ ap (λ (r : SigId). r.0) same ∙ j.is

resets_once : (d : Design) → CanBeNamed d → (x y : ℕ) → IsResetOf d x → IsResetOf d y → own_name d x ≡ own_name d y → x ≡ y
resets_once d can x y r s e =
    let texts : reset_name r.domain.name ≡ reset_name s.domain.name = sym (reset_own d can.keeps x r) ∙ e ∙ reset_own d can.keeps y s in
    let same = append_cancel_right r.domain.name s.domain.name (codes "_rst") texts in
    let first : slice_get (domain_names_of d.domains) r.at ≡ Some r.domain.name = slice_get-map (λ (a : Domain). a.name) d.domains r.at ∙ ap (option_map (λ (a : Domain). a.name)) r.there in
    let second : slice_get (domain_names_of d.domains) s.at ≡ Some r.domain.name = slice_get-map (λ (a : Domain). a.name) d.domains s.at ∙ ap (option_map (λ (a : Domain). a.name)) s.there ∙ ap Some (sym same) in
    let place = one_place (domain_names_of d.domains) can.keeps.domains_distinct r.at s.at r.domain.name first second in
    let both : Some r.domain ≡ Some s.domain = sym r.there ∙ ap (slice_get d.domains) place ∙ s.there in
    let domain : r.domain ≡ s.domain = cc in
    let resets : Some r.reset ≡ Some s.reset = sym r.has ∙ ap (λ (a : Domain). a.reset) domain ∙ s.has in
    let reset : r.reset ≡ s.reset = cc in
    sym r.is ∙ ap (λ (i : SigId). i.0) reset ∙ s.is

roles_once : (d : Design) → CanBeNamed d → (x y : ℕ) → IsIo d x ⊎ IsResetOf d x → IsIo d y ⊎ IsResetOf d y → own_name d x ≡ own_name d y → x ≡ y
roles_once d can x y (inl i) (inl j) e = ios_once d can x y i j e
roles_once d can x y (inl i) (inr s) e = absurd (among_not (own_name d y) (own_name d x) (reserved d) (reset_reserved d y s) (io_not_reserved d can x i) (sym e))
roles_once d can x y (inr r) (inl j) e = absurd (among_not (own_name d x) (own_name d y) (reserved d) (reset_reserved d x r) (io_not_reserved d can y j) e)
roles_once d can x y (inr r) (inr s) e = resets_once d can x y r s e

own_once : (d : Design) → CanBeNamed d → (x y : ℕ) → x < length d.signals → y < length d.signals → (signal_wish d x).only ≡ true → (signal_wish d y).only ≡ true → own_name d x ≡ own_name d y → x ≡ y
own_once d can x y p q a b e = by (signal_name d can.keeps x p) (signal_name d can.keeps y q)
  where
    by : SignalName d x → SignalName d y → x ≡ y
    by (Generated f o) (Generated g r) = mark_once 115 x y (own_name d x) (own_name d y) f g e
    by (Generated f o) (Called g r) = absurd (good_not_marked (own_name d y) (own_name d x) g (marked_as (own_name d x) 115 x f) (sym e))
    by (Called f o) (Generated g r) = absurd (good_not_marked (own_name d x) (own_name d y) f (marked_as (own_name d y) 115 y g) e)
    by (Called f o) (Called g r) = roles_once d can x y (port_found d x (sym o ∙ a)) (port_found d y (sym r ∙ b)) e

-- a signal's name, where it is the only one, is that of no memory that has no path
signal_not_memory : (d : Design) → CanBeNamed d → (x k : ℕ) → x < length d.signals → k < length d.memories → (memory_wish d k).only ≡ true → own_memory_name d k ≡ own_name d x → ⊥
signal_not_memory d can x k p q a e = by (signal_name d can.keeps x p) (memory_name d can.keeps k q)
  where
    by : SignalName d x → MemoryName d k → ⊥
    by (Generated f o) (GeneratedMemory g r) = let z : ◌≡◌ {A = ℕ} 109 115 = cc in absurd (omega (arith, z))
    by (Called f o) (GeneratedMemory g r) = good_not_marked (own_name d x) (own_memory_name d k) f (marked_as (own_memory_name d k) 109 k g) (sym e)
    by s (CalledMemory g r) = absurd (true≢false (sym a ∙ r))

memory_once : (d : Design) → CanBeNamed d → (j k : ℕ) → j < length d.memories → k < length d.memories → (memory_wish d j).only ≡ true → (memory_wish d k).only ≡ true → own_memory_name d j ≡ own_memory_name d k → j ≡ k
memory_once d can j k p q a b e = by (memory_name d can.keeps j p) (memory_name d can.keeps k q)
  where
    by : MemoryName d j → MemoryName d k → j ≡ k
    by (GeneratedMemory f o) (GeneratedMemory g r) = mark_once 109 j k (own_memory_name d j) (own_memory_name d k) f g e
    by (GeneratedMemory f o) (CalledMemory g r) = absurd (true≢false (sym b ∙ r))
    by (CalledMemory f o) s = absurd (true≢false (sym a ∙ o))

memories_apart : (d : Design) → CanBeNamed d → (a n : ℕ) → a + n ≤ length d.memories → AreApart (map (memory_wish d) (range_with_len a n))
memories_apart d can a zero l = tt
memories_apart d can a (suc n) l = (
  λ o. each_counted (IsOther (memory_wish d a).name) (memory_wish d) (a + 1) n (λ k p q h e.
      let same = memory_once d can k a (omega arith) (omega arith) h o (sym (memory_wish_name d k) ∙ e ∙ memory_wish_name d a) in
      omega (arith, same, p)),
  memories_apart d can (a + 1) n (omega arith),
)

signals_apart : (d : Design) → CanBeNamed d → (a n : ℕ) → a + n ≤ length d.signals → AreApart (map (signal_wish d) (range_with_len a n) ++ memory_wishes d (length d.memories))
signals_apart d can a zero l = memories_apart d can 0 (length d.memories) (omega arith)
signals_apart d can a (suc n) l = (
  λ o. each_of_two (IsOther (signal_wish d a).name) (map (signal_wish d) (range_with_len (a + 1) n)) (memory_wishes d (length d.memories))
      (each_counted (IsOther (signal_wish d a).name) (signal_wish d) (a + 1) n (λ y p q h e.
      let same = own_once d can y a (omega arith) (omega arith) h o (sym (wish_name d y) ∙ e ∙ wish_name d a) in
      omega (arith, same, p)))
      (each_counted (IsOther (signal_wish d a).name) (memory_wish d) 0 (length d.memories) (λ k p q h e.
      signal_not_memory d can a k (omega arith) (omega arith) h (sym (memory_wish_name d k) ∙ e ∙ wish_name d a))),
  signals_apart d can (a + 1) n (omega arith),
)

pub all_apart : (d : Design) → CanBeNamed d → AreApart (all_wishes d)
all_apart d can = signals_apart d can 0 (length d.signals) (omega arith)

-- ---- what the only names are

-- what holds of good names and of those with `$` holds of the only ones
pub each_only : (P : Name → Type 0) (d : Design) → Keeps d
    → ((x : ℕ) → own_name d x ≡ codes "s$" ++ number_text x → P (own_name d x))
    → ((k : ℕ) → own_memory_name d k ≡ codes "m$" ++ number_text k → P (own_memory_name d k))
    → ((x : ℕ) → IsGood (own_name d x) → IsIo d x ⊎ IsResetOf d x → P (own_name d x))
    → AllByRecursion (OfOnly P) (all_wishes d)
each_only P d keeps signal memory port = each_wish (OfOnly P) d
    (λ x l o. subst P (sym (wish_name d x)) (by_signal x (signal_name d keeps x l) o))
    (λ k l o. subst P (sym (memory_wish_name d k)) (by_memory k (memory_name d keeps k l) o))
  where
    by_signal : (x : ℕ) → SignalName d x → (signal_wish d x).only ≡ true → P (own_name d x)
    by_signal x (Generated e r) o = signal x e
    by_signal x (Called g r) o = port x g (port_found d x (sym r ∙ o))

    by_memory : (k : ℕ) → MemoryName d k → (memory_wish d k).only ≡ true → P (own_memory_name d k)
    by_memory k (GeneratedMemory e r) o = memory k e
    by_memory k (CalledMemory g r) o = absurd (true≢false (sym o ∙ r))
