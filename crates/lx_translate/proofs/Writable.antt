-- A design without a fault can be written, once its ports are lowered.
use Rattle.std.proofs.Common.{◌≡◌, ℕ, zero, suc, ◌<◌, Bool, true, false, not, cond, ◌&&◌, List, [], ◌∷◌, map, length, Option, Some, None, refl, sym, ap, subst, ◌∙◌, arith, nat_eq, eqb-true, eq-eqb}
use Rattle.std.specs.Prelude.{slice_get}
use Rattle.std.specs.List.{filter, find}
use Rattle.std.specs.Option.{is_some, option_and_then, option_or}
use Rattle.std.proofs.lemmas.Bool.{and_parts}
use Rattle.lx_text.specs.declared.faults.Fault.{Fault}
use Rattle.lx_circuit.specs.Memories as memory
use Rattle.lx_arena.proofs.Places.{node_there}
use Rattle.lx_vtext.specs.Tree.{Name}
use Rattle.lx_fhdl.specs.Designs.{circuit_of, port_of}
use Rattle.lx_fhdl.specs.Keeping.{EachOf, IsPort, Keeps}
use Rattle.lx_fhdl.specs.declared.design.Port.{Port}
use Rattle.lx_fhdl.specs.declared.design.Memory.{Memory}
use Rattle.lx_fhdl.specs.declared.design.Design.{Design}
use Rattle.lx_fhdl.proofs.Resets.{each_of_at}
use Rattle.lx_emission.specs.Naming.{NamesFit}
use Rattle.lx_emission.specs.Emits.{IsWithFirst, MemoriesFit, PortsFit, ShowsNothing}
use Rattle.lx_emission.specs.Memories.{writes_memory, writing_domain}
use Rattle.lx_reads.specs.Drivings.{Driving, first_driving}
use Rattle.lx_memory.specs.Lowers.{IsPortsOf, silent}
use Rattle.lx_check.specs.Checked.{IsSound}
use Rattle.lx_check.specs.Faults.{any_driving, clock_driver, first_fault, first_of, is_apart, memory_clocks, memory_fault, second_driving, storage_driven, two_drivers, writes, writing, writings}
use Rattle.lx_check.proofs.Faulting.{first_all}
use Rattle.lx_namer.proofs.Fit.{each_from}
use Rattle.lx_write.specs.Writes.{CanBeWritten}

-- ---- lists

each_as : {T : Type 0} (P Q : T → Type 0) (xs : List T) → ((x : T) → P x → Q x) → EachOf P xs → EachOf Q xs
each_as P Q [] f h = tt
each_as P Q (x ∷ xs) f h = (f x h.0, each_as P Q xs f h.1)

each_of_map : {S T : Type 0} (P : T → Type 0) (f : S → T) (xs : List S) → EachOf P (map f xs) → EachOf (λ x. P (f x)) xs
each_of_map P f [] h = tt
each_of_map P f (x ∷ xs) h = (h.0, each_of_map P f xs h.1)

each_in_map : {S T : Type 0} (P : T → Type 0) (f : S → T) (xs : List S) → EachOf (λ x. P (f x)) xs → EachOf P (map f xs)
each_in_map P f [] h = tt
each_in_map P f (x ∷ xs) h = (h.0, each_in_map P f xs h.1)

each_in_filter : {T : Type 0} (P : T → Type 0) (p : T → Bool) (xs : List T) → EachOf P xs → EachOf P (filter p xs)
each_in_filter P p [] h = tt
each_in_filter {T} P p (x ∷ xs) h = by (p x) (each_in_filter P p xs h.1)
  where
    by : (b : Bool) → EachOf P (filter p xs) → EachOf P (cond b (x ∷ filter p xs) (filter p xs))
    by true rest = (h.0, rest)
    by false rest = rest

none_found : {T : Type 0} (p : T → Bool) (xs : List T) → find p xs ≡ None → EachOf (λ x. p x ≡ false) xs
none_found p [] h = tt
none_found {T} p (x ∷ xs) h = by (none_found p xs) (p x) refl h
  where
    by : (find p xs ≡ None → EachOf (λ y. p y ≡ false) xs) → (b : Bool) → p x ≡ b → cond b (Some x) (find p xs) ≡ None → EachOf (λ y. p y ≡ false) (x ∷ xs)
    by rest true e g = absurd cc
    by rest false e g = (e, rest g)

-- ---- no memory is written in two domains

or_none : (o p : Option Fault) → option_or o p ≡ None → (o ≡ None) × (p ≡ None)
or_none None p h = (refl, h)
or_none (Some f) p h = absurd cc

each_none : (f : ℕ → Option Fault) (n k : ℕ) → first_of f n ≡ None → k < n → f k ≡ None
each_none f n k h l =
    sym (ap (λ (o : Option Fault). option_or o (f k)) (first_all f n k h (omega arith))) ∙ first_all f n (suc k) h (omega arith)

no_clocks : (d : Design) → first_fault d ≡ None → (m : ℕ) → m < length d.memories → memory_clocks d m ≡ None
unfolding first_fault
no_clocks d none m l =
    let storage = first_of (storage_driven d) (length d.signals) in
    let two = first_of (two_drivers d) (length d.signals) in
    let clocks = first_of (memory_clocks d) (length d.memories) in
    each_none (memory_clocks d) (length d.memories) m (or_none two clocks (or_none storage (option_or two clocks) none).1).1 l

no_second : (d : Design) → first_fault d ≡ None → (m : ℕ) → m < length d.memories → second_driving m (writings d.ports) ≡ None
no_second d none m l =
    let found = node_there d.memories m l in
    by found.0 found.1 (second_driving m (writings d.ports)) (no_clocks d none m l)
  where
    by : (x : Memory) → slice_get d.memories m ≡ Some x → (o : Option Driving) → cond (is_some o) (memory_fault (slice_get d.memories m)) None ≡ None → o ≡ None
    by x e None h = refl
    by x e (Some a) h = let told : memory_fault (Some x) ≡ None = sym (ap memory_fault e) ∙ h in absurd cc

-- so what drives it is one driver
abbrev IsOf : ℕ → ℕ → Driving → Type 0
IsOf m driver a = a.signal ≡ m → a.driver ≡ driver

not_apart : (m : ℕ) (a b : Driving) → (nat_eq b.signal m && is_apart a b) ≡ false → IsOf m a.driver b
not_apart m a b h e = by (nat_eq b.driver a.driver) refl (sym (ap (λ t. t && is_apart a b) (eq-eqb b.signal m e)) ∙ h)
  where
    by : (t : Bool) → nat_eq b.driver a.driver ≡ t → not t ≡ false → b.driver ≡ a.driver
    by true f g = eqb-true b.driver a.driver f
    by false f g = absurd cc

not_there : (m : ℕ) (b : Driving) → (nat_eq b.signal m && any_driving b) ≡ false → IsOf m 0 b
not_there m b h e = let bad : true ≡ false = sym (ap (λ t. t && true) (eq-eqb b.signal m e)) ∙ h in absurd cc

one_driver : (m : ℕ) (all : List Driving) → second_driving m all ≡ None → (driver : ℕ) × EachOf (IsOf m driver) all
one_driver m all h = by (first_driving m any_driving all) refl h
  where
    by : (o : Option Driving) → first_driving m any_driving all ≡ o → option_and_then (λ (a : Driving). first_driving m (is_apart a) all) o ≡ None → (driver : ℕ) × EachOf (IsOf m driver) all
    by None e g = (0, each_as (λ (b : Driving). (nat_eq b.signal m && any_driving b) ≡ false) (IsOf m 0) all (not_there m) (none_found (λ (b : Driving). nat_eq b.signal m && any_driving b) all e))
    by (Some a) e g =
        (a.driver, each_as (λ (b : Driving). (nat_eq b.signal m && is_apart a b) ≡ false) (IsOf m a.driver) all (not_apart m a) (none_found (λ (b : Driving). nat_eq b.signal m && is_apart a b) all g))

-- ---- the ports that write

one_clock : (a b : Option ℕ) → clock_driver a ≡ clock_driver b → a ≡ b
one_clock None None e = refl
one_clock None (Some k) e = absurd (omega (arith, e))
one_clock (Some j) None e = absurd (omega (arith, e))
one_clock (Some j) (Some k) e = let same : j ≡ k = omega (arith, e) in ap Some same

-- the port's domain is that driver, if the memory is this one
abbrev IsWrittenBy : ℕ → ℕ → memory.Port → Type 0
IsWrittenBy m driver q = q.memory ≡ m → clock_driver q.domain ≡ driver

writing_driver : (m driver : ℕ) (qs : List memory.Port) → EachOf (IsWrittenBy m driver) qs → (k : ℕ) (q : memory.Port) → slice_get qs k ≡ Some q → writes_memory m q ≡ true → clock_driver (writing_domain m qs) ≡ driver
writing_driver m driver [] h k q e w = absurd cc
writing_driver m driver (x ∷ xs) h k q e w = by (λ j g. writing_driver m driver xs h.1 j q g w) (writes_memory m x) refl k e
  where
    by : ((j : ℕ) → slice_get xs j ≡ Some q → clock_driver (writing_domain m xs) ≡ driver) → (b : Bool) → writes_memory m x ≡ b → (j : ℕ) → slice_get (x ∷ xs) j ≡ Some q
        → clock_driver (cond b x.domain (writing_domain m xs)) ≡ driver
    by rest true f j g = h.0 (eqb-true x.memory m (and_parts (nat_eq x.memory m) (is_some x.writer) f).0)
    by rest false f zero g = let same : x ≡ q = cc in let bad : true ≡ false = sym w ∙ sym (ap (writes_memory m) same) ∙ f in absurd cc
    by rest false f (suc j) g = rest j g

-- the ports of the design with its ports lowered
abbrev silent_ports : List Port → List memory.Port
silent_ports qs = map port_of (map silent qs)

show_nothing : (qs : List Port) → EachOf ShowsNothing (silent_ports qs)
show_nothing [] = tt
show_nothing (q ∷ qs) = (refl, show_nothing qs)

written_by : (m driver : ℕ) (qs : List Port) → EachOf (IsOf m driver) (map writing qs) → EachOf (IsWrittenBy m driver) (silent_ports qs)
written_by m driver [] h = tt
written_by m driver (q ∷ qs) h = (h.0, written_by m driver qs h.1)

memories_there : (d : Design) (qs : List Port) → EachOf (IsPort d) qs → EachOf (λ (q : memory.Port). q.memory < length d.memories) (silent_ports qs)
memories_there d [] h = tt
memories_there d (q ∷ qs) h = (h.0.memory, memories_there d qs h.1)

one_domain : (d : Design) → Keeps d → first_fault d ≡ None → EachOf (IsWithFirst (silent_ports (filter writes d.ports))) (silent_ports (filter writes d.ports))
one_domain d keeps none = each_from (IsWithFirst all) all by
  where
    all : List memory.Port
    all = silent_ports (filter writes d.ports)

    by : (k : ℕ) (q : memory.Port) → slice_get all k ≡ Some q → IsWithFirst all q
    by k q e w =
        let there = each_of_at (λ (x : memory.Port). x.memory < length d.memories) all (memories_there d (filter writes d.ports) (each_in_filter (IsPort d) writes d.ports keeps.ports)) k q e in
        let driver = one_driver q.memory (writings d.ports) (no_second d none q.memory there) in
        let by_driver = written_by q.memory driver.0 (filter writes d.ports) driver.1 in
        let own = each_of_at (IsWrittenBy q.memory driver.0) all by_driver k q e refl in
        let writes : writes_memory q.memory q ≡ true = ap (λ t. t && is_some q.writer) (eq-eqb q.memory q.memory refl) ∙ w in
        one_clock q.domain (writing_domain q.memory all) (own ∙ sym (writing_driver q.memory driver.0 all by_driver k q e writes))

pub memories_fit : (d p : Design) → Keeps d → first_fault d ≡ None → IsPortsOf d p → MemoriesFit p
unfolding circuit_of
memories_fit d p keeps none h = record {
  show_nothing = subst (λ (qs : List Port). EachOf ShowsNothing (map port_of qs)) (sym h.ports) (show_nothing (filter writes d.ports));
  one_domain = subst (λ (qs : List Port). EachOf (IsWithFirst (map port_of qs)) (map port_of qs)) (sym h.ports) (one_domain d keeps none);
}

pub can_be_written : (d p : Design) (names : List Name) → Keeps d → IsSound d → IsPortsOf d p → NamesFit p names → PortsFit p → CanBeWritten p names
can_be_written d p names keeps sound h fit ports = record {
  keeps = h.keeps;
  order = h.lowers.order sound.order;
  named = fit;
  ports = ports;
  memories = memories_fit d p keeps sound.faultless h;
}
