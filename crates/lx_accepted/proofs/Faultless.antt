-- A design with its ports lowered has the faults of its drivers and memories that the design has, and no others.
use Rattle.std.proofs.Common.{◌≡◌, ℕ, zero, suc, ◌+◌, ◌<◌, ◌≤◌, ◌-◌, Bool, true, false, ◌||◌, List, [], ◌∷◌, ◌++◌, Option, Some, None, length, map, refl, sym, ap, subst, ◌∙◌, arith, nat_lt, cond}
use Rattle.std.specs.Prelude.{option_map, slice_get, slice_index_or}
use Rattle.std.specs.List.{filter, find}
use Rattle.std.specs.Option.{is_some, option_or}
use Rattle.std.proofs.Math.Bool.{or-false}
use Rattle.std.proofs.lemmas.Bool.{ltb-false, ltb-true, or_parts}
use Rattle.lx_circuit.specs.Circuit.{Circuit, Made, is_named, made, nothing}
use Rattle.lx_circuit.proofs.Cases.{by_test}
use Rattle.lx_fhdl.specs.Designs.{circuit_of, signal_number}
use Rattle.lx_fhdl.specs.Keeping.{EachOf}
use Rattle.lx_fhdl.specs.declared.design.Design.{Design}
use Rattle.lx_fhdl.specs.declared.design.Memory.{Memory}
use Rattle.lx_fhdl.specs.declared.design.Port.{Port}
use Rattle.lx_reads.specs.Drivings.{Driving, drivings}
use Rattle.lx_memory.specs.Alone.{is_shown}
use Rattle.lx_memory.specs.Lowers as lowers
use Rattle.lx_memory.proofs.Changed.{index_before}
use Rattle.lx_memory.proofs.FromDesign.{signals_length}
use Rattle.lx_memory.proofs.Roles.{index_after}
use Rattle.lx_memory.proofs.Whole.{writer_put}
use Rattle.lx_check.specs.Checked.{IsSound}
use Rattle.lx_check.specs.Faults.{first_fault, first_of, is_output, is_reader, memory_clocks, memory_fault, name_of, reader_of, second_driving, signal_name, storage_driven, two_drivers, writes, writing, writings}
use Rattle.lx_check.proofs.Sound.{sound_has_none}
use Rattle.lx_text.specs.declared.faults.Fault.{Fault}
use Rattle.lx_accepted.specs.Accepted.{FaultsStay, IsAccepted, IsLoweredFrom}
use Rattle.lx_accepted.proofs.Each.{past_own, shown_own, silent_own}
use Rattle.lx_accepted.proofs.Grown.{IsMade, grown}
use Rattle.lx_accepted.proofs.Own.{made_driver, own, own_each, storage_none, storage_of, storage_own, two_none, two_of, two_own}
use Rattle.lx_accepted.proofs.Stayed.{HaveDriver}
use Rattle.lx_accepted.proofs.Tails.{lowered_tails}

-- ---- signals and ports

name_stays : (d p : Design) (x : ℕ) → IsLoweredFrom d p → x < length d.signals → signal_name p x ≡ signal_name d x
name_stays d p x h l = ap name_of (h.ports.stays.signals x l)

none_given : (more : List Made) (k : ℕ) → EachOf (λ (m : Made). m.given ≡ false) more → (slice_index_or more k nothing).given ≡ false
none_given [] k h = refl
none_given (m ∷ ms) zero h = h.0
none_given (m ∷ ms) (suc k) h = none_given ms k h.1

made_is : (d p : Design) (x : ℕ) → IsLoweredFrom d p → made (circuit_of p) x ≡ slice_index_or ((circuit_of d).signals ++ (lowered_tails (circuit_of d)).more) x nothing
made_is d p x h = ap (λ (c : Circuit). made c x) h.ports.circuit ∙ ap (λ (ms : List Made). slice_index_or ms x nothing) (lowered_tails (circuit_of d)).signals

-- a signal of the design is given where it was, and a register isn't
given_stays : (d p : Design) (x : ℕ) → IsLoweredFrom d p → x < length d.signals → (made (circuit_of p) x).given ≡ (made (circuit_of d) x).given
given_stays d p x h l = ap (λ (m : Made). m.given) (made_is d p x h ∙ index_before (circuit_of d).signals (lowered_tails (circuit_of d)).more x nothing (omega (arith, l, signals_length d)))

given_past : (d p : Design) (x : ℕ) → IsLoweredFrom d p → length d.signals ≤ x → (made (circuit_of p) x).given ≡ false
given_past d p x h l =
    let ms = (circuit_of d).signals in
    let t = lowered_tails (circuit_of d) in
    let k = x - length ms in
    let z : x ≡ length ms + k = omega (arith, l, signals_length d) in
    ap (λ (m : Made). m.given) (made_is d p x h ∙ (ap (λ (y : ℕ). slice_index_or (ms ++ t.more) y nothing) z ∙ index_after ms t.more k nothing)) ∙ none_given t.more k t.made

-- no port of a lowered design shows anything
no_reader : (x : ℕ) (qs : List Port) → find (is_reader x) (lowers.writers qs) ≡ None
no_reader x [] = refl
no_reader x (q ∷ qs) = ap (find (is_reader x)) (writer_put q qs) ∙ by_answer (is_some q.we) (no_reader x qs)
  where
    by_answer : (t : Bool) → find (is_reader x) (lowers.writers qs) ≡ None → find (is_reader x) (cond t (lowers.silent q ∷ lowers.writers qs) (lowers.writers qs)) ≡ None
    by_answer true e = e
    by_answer false e = e

reader_none : (d p : Design) (x : ℕ) → IsLoweredFrom d p → reader_of p x ≡ None
reader_none d p x h = ap (find (is_reader x)) h.ports.ports ∙ no_reader x d.ports

-- nor does one of the design where none is shown
not_shown : (x : ℕ) (qs : List Port) → is_shown x qs ≡ false → find (is_reader x) qs ≡ None
not_shown x [] e = refl
not_shown x (q ∷ qs) e =
    let both = or_parts (is_named x (option_map signal_number q.dat_r)) (is_shown x qs) e in
    ap (λ (t : Bool). cond t (Some q) (find (is_reader x) qs)) both.0 ∙ not_shown x qs both.1

output_is : (p : Design) (x : ℕ) → reader_of p x ≡ None → is_output p x ≡ (made (circuit_of p) x).given
output_is p x e = ap (λ (o : Option Port). (made (circuit_of p) x).given || is_some o) e ∙ or-false (made (circuit_of p) x).given

-- ---- drivers

two_stays : (d p : Design) (x : ℕ) → IsLoweredFrom d p → (x < length d.signals → two_drivers d x ≡ None) → two_drivers p x ≡ None
two_stays d p x h e =
    let g = grown d p h in
    two_own p x
    ∙ by_test (nat_lt x (length d.signals))
    (λ t.
    let l = ltb-true x (length d.signals) t in
    by_test (is_shown x d.ports)
    (λ s. two_none (signal_name p x) 0 (own x (drivings p)) (subst (λ (u : List Driving). HaveDriver 0 u) (sym (shown_own d p x h g l s)) (made_driver (own x g.shown) (own_each IsMade x g.shown g.made))))
    (λ s. ap (two_of (signal_name p x)) (silent_own d p x h g l s) ∙ ap (λ (name : List ℕ). two_of name (own x (drivings d))) (name_stays d p x h l) ∙ sym (two_own d x) ∙ e l))
    (λ t. let one = past_own d p x h g (ltb-false x (length d.signals) t) in two_none (signal_name p x) one.0 (own x (drivings p)) one.1)

storage_stays : (d p : Design) (x : ℕ) → IsLoweredFrom d p → (x < length d.signals → storage_driven d x ≡ None) → storage_driven p x ≡ None
storage_stays d p x h e =
    let g = grown d p h in
    let own_output = output_is p x (reader_none d p x h) in
    storage_own p x
    ∙ by_test (nat_lt x (length d.signals))
    (λ t.
    let l = ltb-true x (length d.signals) t in
    by_test (is_shown x d.ports)
    (λ s. ap (storage_of (is_output p x) (signal_name p x)) (shown_own d p x h g l s) ∙ storage_none (is_output p x) (signal_name p x) (own x g.shown) (own_each IsMade x g.shown g.made))
    (λ s.
    let same = own_output ∙ given_stays d p x h l ∙ sym (output_is d x (not_shown x d.ports s)) in
    ap (storage_of (is_output p x) (signal_name p x)) (silent_own d p x h g l s)
    ∙ ap (λ (b : Bool). storage_of b (signal_name p x) (own x (drivings d))) same
    ∙ ap (λ (name : List ℕ). storage_of (is_output d x) name (own x (drivings d))) (name_stays d p x h l)
    ∙ sym (storage_own d x) ∙ e l))
    (λ t. ap (λ (b : Bool). storage_of b (signal_name p x) (own x (drivings p))) (own_output ∙ given_past d p x h (ltb-false x (length d.signals) t)))

-- ---- memories

same_writings : (qs : List Port) → writings (lowers.writers qs) ≡ writings qs
same_writings [] = refl
same_writings (q ∷ qs) = ap writings (writer_put q qs) ∙ by_answer (is_some q.we) refl (same_writings qs)
  where
    by_answer : (t : Bool) → is_some q.we ≡ t → writings (lowers.writers qs) ≡ writings qs → writings (cond t (lowers.silent q ∷ lowers.writers qs) (lowers.writers qs)) ≡ writings (q ∷ qs)
    by_answer true s e =
        ap (λ (b : Bool). map writing (cond b (lowers.silent q ∷ filter writes (lowers.writers qs)) (filter writes (lowers.writers qs)))) s
        ∙ ap (λ (l : List Driving). writing q ∷ l) e
        ∙ ap (λ (b : Bool). map writing (cond b (q ∷ filter writes qs) (filter writes qs))) (sym s)
    by_answer false s e = e ∙ ap (λ (b : Bool). map writing (cond b (q ∷ filter writes qs) (filter writes qs))) (sym s)

clocks_stay : (d p : Design) (m : ℕ) → IsLoweredFrom d p → memory_clocks p m ≡ memory_clocks d m
clocks_stay d p m h =
    ap (λ (ws : List Driving). cond (is_some (second_driving m ws)) (memory_fault (slice_get p.memories m)) None) (ap writings h.ports.ports ∙ same_writings d.ports)
    ∙ ap (λ (ms : List Memory). cond (is_some (second_driving m (writings d.ports))) (memory_fault (slice_get ms m)) None) h.ports.memories

-- ---- the first fault

or_none : (a b : Option Fault) → option_or a b ≡ None → (a ≡ None) × (b ≡ None)
or_none None b e = (refl, e)
or_none (Some f) b e = absurd cc

none_before : (f : ℕ → Option Fault) (n : ℕ) → first_of f n ≡ None → (x : ℕ) → x < n → f x ≡ None
none_before f zero e x l = absurd (omega arith)
none_before f (suc n) e x l =
    let both = or_none (first_of f n) (f n) e in
    by_test (nat_lt x n)
    (λ t. none_before f n both.0 x (ltb-true x n t))
    (λ t. let z : n ≡ x = omega (arith, l, ltb-false x n t) in ap f (sym z) ∙ both.1)

none_all : (f : ℕ → Option Fault) (n : ℕ) → ((x : ℕ) → x < n → f x ≡ None) → first_of f n ≡ None
none_all f zero h = refl
none_all f (suc n) h = ap (λ (o : Option Fault). option_or o (f n)) (none_all f n (λ x l. h x (omega (arith, l)))) ∙ h n (omega arith)

none_stays : (d p : Design) → IsLoweredFrom d p → first_fault d ≡ None → first_fault p ≡ None
unfolding first_fault
none_stays d p h e =
    let n = length d.signals in
    let a = or_none (first_of (storage_driven d) n) (option_or (first_of (two_drivers d) n) (first_of (memory_clocks d) (length d.memories))) e in
    let b = or_none (first_of (two_drivers d) n) (first_of (memory_clocks d) (length d.memories)) a.1 in
    let many = ap (λ (ms : List Memory). length ms) h.ports.memories in
    let storage = none_all (storage_driven p) (length p.signals) (λ x l. storage_stays d p x h (λ m. none_before (storage_driven d) n a.0 x m)) in
    let two = none_all (two_drivers p) (length p.signals) (λ x l. two_stays d p x h (λ m. none_before (two_drivers d) n b.0 x m)) in
    let clocks = none_all (memory_clocks p) (length p.memories) (λ m l. clocks_stay d p m h ∙ none_before (memory_clocks d) (length d.memories) b.1 m (omega (arith, l, many))) in
    ap (λ (o : Option Fault). option_or o (option_or (first_of (two_drivers p) (length p.signals)) (first_of (memory_clocks p) (length p.memories)))) storage
    ∙ ap (λ (o : Option Fault). option_or o (first_of (memory_clocks p) (length p.memories))) two
    ∙ clocks

-- ---- the laws

pub faults_stay : (d p : Design) → IsLoweredFrom d p → FaultsStay d p
faults_stay d p h = record {
  two = λ x e. two_stays d p x h (λ l. e);
  storage = λ x e. storage_stays d p x h (λ l. e);
  clocks = λ m. clocks_stay d p m h;
  none = none_stays d p h;
}

sound_stays : (d p : Design) → IsLoweredFrom d p → IsSound d → IsSound p
sound_stays d p h s = record { faultless = none_stays d p h s.faultless; order = h.ports.lowers.order s.order }

pub accepted : (d p : Design) → IsLoweredFrom d p → IsSound d → IsAccepted p
accepted d p h s =
    let sound = sound_stays d p h s in
    record { sound = sound; faults = λ f e. sound_has_none p f sound e }
