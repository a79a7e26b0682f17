-- The faults of drivers, from the drivings of each signal alone.
use Rattle.std.proofs.Common.{◌≡◌, ℕ, Bool, true, false, ◌&&◌, List, [], ◌∷◌, ◌++◌, Option, Some, None, refl, sym, ap, ◌∙◌, nat_eq, cond, not, eq-eqb}
use Rattle.std.specs.Prelude.{option_map}
use Rattle.std.specs.List.{filter, find}
use Rattle.std.specs.Option.{option_and_then}
use Rattle.std.proofs.lemmas.Bool.{or_parts}
use Rattle.std.proofs.lemmas.List.Elements.{filter-append}
use Rattle.lx_fhdl.specs.Keeping.{EachOf}
use Rattle.lx_fhdl.specs.declared.design.Design.{Design}
use Rattle.lx_reads.specs.Drivings.{Driving, drivings, first_driving}
use Rattle.lx_reads.proofs.Driven.{some_drive}
use Rattle.lx_check.specs.Faults.{any_driving, fault, is_apart, is_described, is_output, second_driving, signal_name, storage_driven, two_drivers}
use Rattle.lx_text.specs.declared.faults.Fault.{Fault}
use Rattle.lx_text.specs.declared.faults.Kind.TheVariants.{StorageDriven, TwoDrivers}
use Rattle.lx_accepted.proofs.Grown.{IsMade}
use Rattle.lx_accepted.proofs.Stayed.{HaveDriver}

-- those that drive x
abbrev pub own : ℕ → List Driving → List Driving
own x all = filter (λ (a : Driving). nat_eq a.signal x) all

pub own_both : (x : ℕ) (as_ bs : List Driving) → own x (as_ ++ bs) ≡ own x as_ ++ own x bs
own_both x as_ bs = filter-append (λ (a : Driving). nat_eq a.signal x) as_ bs

pub own_none : (x : ℕ) (all : List Driving) → some_drive x all ≡ false → own x all ≡ []
own_none x [] e = refl
own_none x (a ∷ as_) e =
    let both = or_parts (nat_eq a.signal x) (some_drive x as_) e in
    ap (λ (t : Bool). cond t (a ∷ own x as_) (own x as_)) both.0 ∙ own_none x as_ both.1

pub own_each : (P : Driving → Type 0) (x : ℕ) (all : List Driving) → EachOf P all → EachOf P (own x all)
own_each P x [] h = tt
own_each P x (a ∷ as_) h = by_answer (nat_eq a.signal x) (own_each P x as_ h.1)
  where
    by_answer : (t : Bool) → EachOf P (own x as_) → EachOf P (cond t (a ∷ own x as_) (own x as_))
    by_answer true more = (h.0, more)
    by_answer false more = more

-- ---- the first that passes a test

first_own : (x : ℕ) (test : Driving → Bool) (all : List Driving) → first_driving x test all ≡ find test (own x all)
first_own x test [] = refl
first_own x test (a ∷ as_) = by_answer (nat_eq a.signal x) (first_own x test as_)
  where
    by_answer : (t : Bool) → first_driving x test as_ ≡ find test (own x as_) → cond (t && test a) (Some a) (first_driving x test as_) ≡ find test (cond t (a ∷ own x as_) (own x as_))
    by_answer true e = ap (λ (o : Option Driving). cond (test a) (Some a) o) e
    by_answer false e = e

abbrev second_of : List Driving → Option Driving
second_of all = option_and_then (λ (a : Driving). find (is_apart a) all) (find any_driving all)

second_own : (x : ℕ) (all : List Driving) → second_driving x all ≡ second_of (own x all)
second_own x all = by_first (first_driving x any_driving all) ∙ ap (option_and_then (λ (a : Driving). find (is_apart a) (own x all))) (first_own x any_driving all)
  where
    by_first : (o : Option Driving) → option_and_then (λ (a : Driving). first_driving x (is_apart a) all) o ≡ option_and_then (λ (a : Driving). find (is_apart a) (own x all)) o
    by_first None = refl
    by_first (Some a) = first_own x (is_apart a) all

-- ---- two drivers

abbrev pub two_of : List ℕ → List Driving → Option Fault
two_of name all =
    option_and_then (λ (a : Driving). option_map (λ (b : Driving). fault b.line (TwoDrivers name a.line)) (second_of all)) (find any_driving all)

pub two_own : (d : Design) (x : ℕ) → two_drivers d x ≡ two_of (signal_name d x) (own x (drivings d))
two_own d x =
    ap (both (second_driving x (drivings d))) (first_own x any_driving (drivings d))
    ∙ ap (λ (o : Option Driving). both o (find any_driving (own x (drivings d)))) (second_own x (drivings d))
  where
    both : Option Driving → Option Driving → Option Fault
    both second first = option_and_then (λ (a : Driving). option_map (λ (b : Driving). fault b.line (TwoDrivers (signal_name d x) a.line)) second) first

none_apart : (m : ℕ) (a : Driving) (all : List Driving) → a.driver ≡ m → HaveDriver m all → find (is_apart a) all ≡ None
none_apart m a [] e h = refl
none_apart m a (b ∷ bs) e h =
    ap (λ (t : Bool). cond (not t) (Some b) (find (is_apart a) bs)) (eq-eqb b.driver a.driver (h.0 ∙ sym e)) ∙ none_apart m a bs e h.1

-- where all have one driver
pub two_none : (name : List ℕ) (m : ℕ) (all : List Driving) → HaveDriver m all → two_of name all ≡ None
two_none name m [] h = refl
two_none name m (a ∷ as_) h = ap (option_map (λ (b : Driving). fault b.line (TwoDrivers name a.line))) (none_apart m a (a ∷ as_) h.0 h)

-- ---- outputs that statements of the description drive

abbrev pub storage_of : Bool → List ℕ → List Driving → Option Fault
storage_of is_given name all = cond is_given (option_map (λ (a : Driving). fault a.line (StorageDriven name)) (find is_described all)) None

pub storage_own : (d : Design) (x : ℕ) → storage_driven d x ≡ storage_of (is_output d x) (signal_name d x) (own x (drivings d))
storage_own d x = ap (λ (o : Option Driving). cond (is_output d x) (option_map (λ (a : Driving). fault a.line (StorageDriven (signal_name d x))) o) None) (first_own x is_described (drivings d))

none_described : (all : List Driving) → EachOf IsMade all → find is_described all ≡ None
none_described [] h = refl
none_described (a ∷ as_) h = ap (λ (k : ℕ). cond (not (nat_eq k 0)) (Some a) (find is_described as_)) h.0.1 ∙ none_described as_ h.1

-- where all are on no line
pub storage_none : (is_given : Bool) (name : List ℕ) (all : List Driving) → EachOf IsMade all → storage_of is_given name all ≡ None
storage_none true name all h = ap (option_map (λ (a : Driving). fault a.line (StorageDriven name))) (none_described all h)
storage_none false name all h = refl

pub made_driver : (all : List Driving) → EachOf IsMade all → HaveDriver 0 all
made_driver [] h = tt
made_driver (a ∷ as_) h = (h.0.0, made_driver as_ h.1)
