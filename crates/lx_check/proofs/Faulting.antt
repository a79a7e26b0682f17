-- The first fault, as marks tell it.
use Rattle.std.proofs.Common.{inl, inr, ◌⊎◌, ◌≡◌, ℕ, zero, suc, ◌+◌, ◌<◌, ◌≤◌, Bool, true, false, ◌||◌, List, [], ◌∷◌, ◌++◌, Option, Some, None, length, map, drop, take, get_or, set, replicate, refl, sym, ap, subst, ◌∙◌, arith, nat_eq, nat_lt, cond, eq-eqb}
use Rattle.std.specs.Prelude.{IfSome, IsTrue, option_map, slice_get, slice_index_or, slice_set, if◌then◌else◌}
use Rattle.std.specs.List.{filter, find, list_all}
use Rattle.std.specs.Option.{is_some, option_and_then, option_or}
use Rattle.std.proofs.lemmas.Bool.{and_from, and_parts, cases_lt, eqb-true, lt-ltb, true≢false}
use Rattle.std.proofs.lemmas.List.Elements.{filter_more}
use Rattle.std.proofs.lemmas.List.{append-nil, get_or-set_other, get_or_default, get_or-set_same, length-replicate, length-set, take_all, take_more}
use Rattle.std.proofs.lemmas.List.Folds.{find-append}
use Rattle.lx_circuit.specs.Circuit.{Made, is_named, made, nothing}
use Rattle.lx_fhdl.specs.Designs.{circuit_of, made_of, signal_number}
use Rattle.lx_fhdl.specs.Keeping.{EachOf, IsPort, Keeps}
use Rattle.lx_fhdl.specs.declared.design.Design.{Design}
use Rattle.lx_fhdl.specs.declared.design.Port.{Port}
use Rattle.lx_fhdl.specs.declared.design.Signal.{Signal}
use Rattle.lx_fhdl.specs.declared.exprs.SigId.{SigId}
use Rattle.lx_reads.specs.Drivings.{Driving, drivings, first_driving}
use Rattle.lx_reads.specs.Net.{driving_of}
use Rattle.lx_reads.specs.declared.net.Driven.{Driven}
use Rattle.lx_check.specs.Faults.{any_driving, fault, first_of, is_output, is_reader, memory_clocks, memory_fault, reader_of, second_driving, signal_name, storage_driven, two_drivers, writes, writing, writings}
use Rattle.lx_check.specs.Marks.{AreMarks, AreReaders, IsMark, are_below, memory_marked, no_mark, or_port, put_at, storage_marked, two_marked, with_reader}
use Rattle.lx_check.specs.declared.marks.Mark.{Mark}
use Rattle.lx_check.proofs.Marking.{map_push}
use Rattle.lx_check.proofs.Roles.{reader_in}
use Rattle.lx_text.specs.declared.faults.Fault.{Fault}
use Rattle.lx_text.specs.declared.faults.Kind.TheVariants.{StorageDriven, TwoDrivers}

-- ---- marks tell the faults

map_map : (f : Driving → Fault) (o : Option Driven) → option_map (λ (a : Driven). f (driving_of a)) o ≡ option_map f (option_map driving_of o)
map_map f None = refl
map_map f (Some a) = refl

pub storage_is : (d : Design) (x : ℕ) (m : Mark) (b : Bool) → IsMark x (drivings d) m → b ≡ is_output d x → storage_marked d x b m ≡ storage_driven d x
storage_is d x m b h e =
    ap (λ (v : Bool). storage_marked d x v m) e
    ∙ ap (λ (v : Option Fault). if is_output d x then v else None)
    (map_map (λ (a : Driving). fault a.line (StorageDriven (signal_name d x))) m.described ∙ ap (option_map (λ (a : Driving). fault a.line (StorageDriven (signal_name d x)))) h.described)

abbrev both : Design → ℕ → Option Driving → Option Driving → Option Fault
both d x first second = option_and_then (λ (a : Driving). option_map (λ (b : Driving). fault b.line (TwoDrivers (signal_name d x) a.line)) second) first

two_map : (d : Design) (x : ℕ) (first second : Option Driven) → option_and_then (λ (a : Driven). option_map (λ (b : Driven). fault b.line (TwoDrivers (signal_name d x) a.line)) second) first ≡ both d x (option_map driving_of first) (option_map driving_of second)
two_map d x None second = refl
two_map d x (Some a) None = refl
two_map d x (Some a) (Some b) = refl

pub two_is : (d : Design) (x : ℕ) (m : Mark) → IsMark x (drivings d) m → two_marked d x m ≡ two_drivers d x
two_is d x m h = two_map d x m.first m.second ∙ ap (λ (v : Option Driving). both d x v (option_map driving_of m.second)) h.first ∙ ap (both d x (first_driving x any_driving (drivings d))) h.second

pub some_map : (o : Option Driven) → is_some o ≡ is_some (option_map driving_of o)
some_map None = refl
some_map (Some a) = refl

pub memory_is : (d : Design) (x : ℕ) (m : Mark) → IsMark x (writings d.ports) m → memory_marked d x m ≡ memory_clocks d x
memory_is d x m h = ap (λ (v : Bool). if v then memory_fault (slice_get d.memories x) else None) (some_map m.second ∙ ap is_some h.second)

-- a mark of a signal
pub mark_item : (n x : ℕ) (all : List Driving) (marks : List Mark) (z : Mark) → AreMarks n all marks → x < n → IsMark x all (get_or marks x z)
mark_item n x all marks z h l = subst (IsMark x all) (get_or_default marks x no_mark z (omega (arith, h.long, l))) (h.each x l)

-- the first port of a signal
pub reader_item : (n x : ℕ) (ports : List Port) (readers : List (Option Port)) (z : Option Port) → AreReaders n ports readers → x < n → get_or readers x z ≡ find (is_reader x) ports
reader_item n x ports readers z h l = get_or_default readers x z None (omega (arith, h.long, l)) ∙ h.each x l

made_of_signal : (xs : List Signal) (x : ℕ) (s : Signal) → slice_get xs x ≡ Some s → slice_index_or (map made_of xs) x nothing ≡ made_of s
made_of_signal [] x s e = absurd (cc)
made_of_signal (z ∷ zs) zero s e = let i : z ≡ s = cc in ap made_of i
made_of_signal (z ∷ zs) (suc x) s e = made_of_signal zs x s e

given_is : (d : Design) (x : ℕ) (s : Signal) → slice_get d.signals x ≡ Some s → (made (circuit_of d) x).given ≡ s.by_bus
unfolding circuit_of
given_is d x s e = ap (λ (m : Made). m.given) (made_of_signal d.signals x s e)

pub output_is : (d : Design) (x : ℕ) (s : Signal) (readers : List (Option Port)) (z : Option Port) (b : Bool) → AreReaders (length d.signals) d.ports readers → x < length d.signals → slice_get d.signals x ≡ Some s → b ≡ (s.by_bus || is_some (get_or readers x z)) → b ≡ is_output d x
output_is d x s readers z b h l e f =
    f ∙ ap (λ (v : Bool). v || is_some (get_or readers x z)) (sym (given_is d x s e)) ∙ ap (λ (v : Option Port). (made (circuit_of d) x).given || is_some v) (reader_item (length d.signals) x d.ports readers z h l)

-- ---- the first of all

pub first_none : (f : ℕ → Option Fault) (k : ℕ) (o : Option Fault) → first_of f k ≡ None → o ≡ f k → is_some o ≡ false → first_of f (k + 1) ≡ None
first_none f k None h e s = (let z : k + 1 ≡ suc k = omega arith in ap (first_of f) z) ∙ ap (λ (v : Option Fault). option_or v (f k)) h ∙ sym e
first_none f k (Some a) h e s = absurd (true≢false s)

stays : (f : ℕ → Option Fault) (a : Fault) (k n : ℕ) → first_of f k ≡ Some a → k ≤ n → first_of f n ≡ Some a
stays f a k zero h l = let z : k ≡ 0 = omega arith in sym (ap (first_of f) z) ∙ h
stays f a k (suc n) h l =
    elim (cases_lt n k) [
      | inl m ↦ let z : k ≡ suc n = omega (arith, l, m) in sym (ap (first_of f) z) ∙ h
      | inr m ↦ ap (λ (v : Option Fault). option_or v (f n)) (stays f a k n h m)
    ]

pub first_some : (f : ℕ → Option Fault) (k n : ℕ) (o : Option Fault) → first_of f k ≡ None → o ≡ f k → is_some o ≡ true → k < n → o ≡ first_of f n
first_some f k n None h e s l = absurd (true≢false (sym s))
first_some f k n (Some a) h e s l =
    sym (stays f a (suc k) n (ap (λ (v : Option Fault). option_or v (f k)) h ∙ sym e) (omega (arith, l)))

pub first_all : (f : ℕ → Option Fault) (k n : ℕ) → first_of f k ≡ None → n ≤ k → first_of f n ≡ None
first_all f k n h l = by_answer (first_of f n) refl
  where
    by_answer : (o : Option Fault) → first_of f n ≡ o → first_of f n ≡ None
    by_answer None e = e
    by_answer (Some a) e = let p : Some a ≡ None = sym (stays f a n k e l) ∙ h in absurd (cc)

-- ---- readers

pub readers_none : (n : ℕ) (readers : List (Option Port)) → readers ≡ replicate n None → AreReaders n [] readers
readers_none n readers e = record {
  long = ap length e ∙ length-replicate n None;
  each = λ x l. ap (λ (v : List (Option Port)). slice_index_or v x None) e ∙ at n x;
}
  where
    at : (n x : ℕ) → slice_index_or (replicate n None) x None ≡ find (is_reader x) []
    at zero x = refl
    at (suc n) zero = refl
    at (suc n) (suc x) = at n x

or_found : (o : Option Port) (q : Port) → or_port o q ≡ option_or o (Some q)
or_found None q = refl
or_found (Some p) q = refl

none_found : (o : Option Port) → option_or o None ≡ o
none_found None = refl
none_found (Some p) = refl

reader_next : (n : ℕ) (ports : List Port) (readers : List (Option Port)) (q : Port) (o : Option SigId) → q.dat_r ≡ o → IfSome o (λ x. x.0 < n) → AreReaders n ports readers → AreReaders n (ports ++ q ∷ []) (with_reader readers q)
reader_next n ports readers q o e t h = record { long = long o e ∙ h.long; each = λ x l. each o e t x l }
  where
    at : (o : Option SigId) → q.dat_r ≡ o → (x : ℕ) → find (is_reader x) (ports ++ q ∷ []) ≡ option_or (find (is_reader x) ports) (cond (is_named x (option_map signal_number o)) (Some q) None)
    at o e x = find-append (is_reader x) ports (q ∷ []) ∙ ap (λ (v : Option SigId). option_or (find (is_reader x) ports) (cond (is_named x (option_map signal_number v)) (Some q) None)) e

    made_at : (o : Option SigId) → q.dat_r ≡ o → with_reader readers q ≡ put_at readers o q
    made_at o e = ap (λ (v : Option SigId). put_at readers v q) e

    long : (o : Option SigId) → q.dat_r ≡ o → length (with_reader readers q) ≡ length readers
    long None e = ap length (made_at None e)
    long (Some z) e = ap length (made_at (Some z) e) ∙ length-set readers z.0 (or_port (slice_index_or readers z.0 None) q)

    each : (o : Option SigId) → q.dat_r ≡ o → IfSome o (λ x. x.0 < n) → (x : ℕ) → x < n → slice_index_or (with_reader readers q) x None ≡ find (is_reader x) (ports ++ q ∷ [])
    each None e t x l = ap (λ (v : List (Option Port)). slice_index_or v x None) (made_at None e) ∙ h.each x l ∙ sym (at None e x ∙ none_found (find (is_reader x) ports))
    each (Some z) e t x l = ap (λ (v : List (Option Port)). slice_index_or v x None) (made_at (Some z) e) ∙ by_answer (nat_eq z.0 x) refl ∙ sym (at (Some z) e x)
      where
        new : Option Port
        new = or_port (slice_index_or readers z.0 None) q

        by_answer : (b : Bool) → nat_eq z.0 x ≡ b → slice_index_or (slice_set readers z.0 new) x None ≡ option_or (find (is_reader x) ports) (cond (nat_eq z.0 x) (Some q) None)
        by_answer true s =
            let same : z.0 ≡ x = eqb-true z.0 x s in
            ap (λ (k : ℕ). slice_index_or (slice_set readers z.0 new) k None) (sym same)
            ∙ get_or-set_same readers z.0 new None (omega (arith, t, h.long))
            ∙ or_found (slice_index_or readers z.0 None) q
            ∙ ap (λ (k : ℕ). option_or (slice_index_or readers k None) (Some q)) same
            ∙ ap (λ (v : Option Port). option_or v (Some q)) (h.each x l)
            ∙ ap (λ (b : Bool). option_or (find (is_reader x) ports) (cond b (Some q) None)) (sym s)
        by_answer false s =
            get_or-set_other readers z.0 x new None (λ p. true≢false (sym (eq-eqb z.0 x (sym p)) ∙ s))
            ∙ h.each x l ∙ sym (none_found (find (is_reader x) ports))
            ∙ ap (λ (b : Bool). option_or (find (is_reader x) ports) (cond b (Some q) None)) (sym s)

-- what a port reads is there
pub reader_fits : (d : Design) (q : Port) (o : Option SigId) → IsPort d q → q.dat_r ≡ o → IfSome o (λ x. x.0 < length d.signals)
reader_fits d q None h e = tt
reader_fits d q (Some z) h e = reader_in d q z h e

pub port_at : (d : Design) (ports : List Port) (k : ℕ) (z : Port) → Keeps d → ports ≡ d.ports → k < length ports → IsPort d (get_or ports k z)
port_at d ports k z keeps same l = at ports k z (subst (EachOf (IsPort d)) (sym same) keeps.ports) l
  where
    at : (ports : List Port) (k : ℕ) (z : Port) → EachOf (IsPort d) ports → k < length ports → IsPort d (get_or ports k z)
    at [] k z h l = absurd (omega arith)
    at (p ∷ ps) zero z h l = h.0
    at (p ∷ ps) (suc k) z h l = at ps k z h.1 (omega arith)

pub readers_more : (d : Design) (ports : List Port) (k : ℕ) (z : Port) (readers new : List (Option Port)) → Keeps d → ports ≡ d.ports → k < length ports → new ≡ with_reader readers (get_or ports k z)
    → AreReaders (length d.signals) (take k ports) readers → AreReaders (length d.signals) (take (k + 1) ports) new
readers_more d ports k z readers new keeps same l e h =
    let q = get_or ports k z in
    let there = reader_fits d q q.dat_r (port_at d ports k z keeps same l) refl in
    subst (AreReaders (length d.signals) (take (k + 1) ports)) (sym e) (subst (λ (v : List Port). AreReaders (length d.signals) v (with_reader readers q)) (sym (take_more ports k z l)) (reader_next (length d.signals) (take k ports) readers q q.dat_r refl there h))

-- ---- what ports write

below_push : (n : ℕ) (list : List Driven) (a : Driven) → are_below n list ≡ true → a.signal < n → are_below n (list ++ a ∷ []) ≡ true
below_push n [] a h l = and_from (nat_lt a.signal n) true (lt-ltb a.signal n l) refl
below_push n (x ∷ xs) a h l = let p = and_parts (nat_lt x.signal n) (are_below n xs) h in and_from (nat_lt x.signal n) (are_below n (xs ++ a ∷ [])) p.0 (below_push n xs a p.1 l)

pub writings_more : (list : List Driven) (ports : List Port) (k : ℕ) (z : Port) (a : Driven) → k < length ports → writes (get_or ports k z) ≡ true → driving_of a ≡ writing (get_or ports k z) → map driving_of list ≡ writings (take k ports)
    → map driving_of (list ++ a ∷ []) ≡ writings (take (k + 1) ports)
writings_more list ports k z a l w e h =
    map_push list a ∙ ap (λ (v : List Driving). v ++ driving_of a ∷ []) h ∙ ap (λ (v : Driving). writings (take k ports) ++ v ∷ []) e
    ∙ sym (ap (map writing) (filter_more writes ports k z l ∙ ap (λ (b : Bool). filter writes (take k ports) ++ cond b (get_or ports k z ∷ []) []) w) ∙ map_append (filter writes (take k ports)) (get_or ports k z))
  where
    map_append : (xs : List Port) (q : Port) → map writing (xs ++ q ∷ []) ≡ map writing xs ++ writing q ∷ []
    map_append [] q = refl
    map_append (x ∷ xs) q = ap (λ (v : List Driving). writing x ∷ v) (map_append xs q)

pub writings_same : (list : List Driven) (ports : List Port) (k : ℕ) (z : Port) → k < length ports → writes (get_or ports k z) ≡ false → map driving_of list ≡ writings (take k ports) → map driving_of list ≡ writings (take (k + 1) ports)
writings_same list ports k z l w h =
    h ∙ sym (ap (map writing) (filter_more writes ports k z l ∙ ap (λ (b : Bool). filter writes (take k ports) ++ cond b (get_or ports k z ∷ []) []) w ∙ append-nil (filter writes (take k ports))))

pub readers_done : (d : Design) (ports : List Port) (k : ℕ) (readers : List (Option Port)) → ports ≡ d.ports → length ports ≤ k → AreReaders (length d.signals) (take k ports) readers → AreReaders (length d.signals) d.ports readers
readers_done d ports k readers same l h = subst (λ (v : List Port). AreReaders (length d.signals) v readers) (take_all k ports l ∙ same) h
