-- Stated numbers without a fault can stand.
use Rattle.std.proofs.Common.{◌≡◌, ◌≢◌, ℕ, suc, zero, ◌+◌, ◌<◌, ◌≤◌, Bool, true, false, List, [], ◌∷◌, ◌++◌, length, map, Option, Some, None, ◌⊎◌, inl, inr, refl, arith, ap, sym, subst, ◌∙◌, ltb, eqb, cond}
use Rattle.std.specs.Prelude.{slice_get, flat_map}
use Rattle.std.specs.Str.{bytes_eq}
use Rattle.std.proofs.lemmas.Slice.Eq.{bytes_eq-Decides}
use Rattle.std.proofs.lemmas.Option.{slice_get_within, slice_get_cases}
use Rattle.std.proofs.lemmas.Bool.{cases_lt, cases_eq, cases_Bool, ltb-false, eq-eqb, false≢true}
use Rattle.std.proofs.lemmas.List.{length-map}
use Rattle.lx_text.specs.declared.faults.Fault.{Fault}
use Rattle.lx_fhdl.specs.declared.places.Fix.{Fix}
use Rattle.lx_fhdl.specs.declared.places.BankWish.{BankWish}
use Rattle.lx_alloc.specs.declared.numbers.Counted.{Counted}
use Rattle.lx_alloc.specs.declared.numbers.Counted.TheVariants.{Interrupts, Banks}
use Rattle.lx_alloc.specs.Judged.{each_pair}
use Rattle.lx_alloc.specs.Numbers.{number_faults, range_faults, both_faults, taken_faults, surplus_faults, exhausted_faults, event_faults, bank_faults, full_faults, irq_faults, all_bank_faults, number_of, CanStand, AreDistinct}
use Rattle.lx_alloc.proofs.Judging.{no_parts}
use Rattle.lx_alloc.proofs.Legal.{told_none}

map_get : {X Y : Type 0} (h : X → Y) (xs : List X) (i : ℕ) (y : Y) → slice_get (map h xs) i ≡ Some y → (x : X) × (slice_get xs i ≡ Some x) × (h x ≡ y)
map_get h [] i y e = cc
map_get h (x ∷ xs) zero y e = (x, refl, cc)
map_get h (x ∷ xs) (suc i) y e = map_get h xs i y e

flat_none : {X : Type 0} (f : X → List Fault) (xs : List X) (i : ℕ) (x : X) → flat_map f xs ≡ [] → slice_get xs i ≡ Some x → f x ≡ []
flat_none f [] i x none e = cc
flat_none f (y ∷ ys) zero x none e = let same : y ≡ x = cc in subst (λ z. f z ≡ []) same (no_parts (f y) _ none).0
flat_none f (y ∷ ys) (suc i) x none e = flat_none f ys i x (no_parts (f y) _ none).1 e

pub get_left : {X : Type 0} (xs : List X) (y : X) (i : ℕ) (x : X) → slice_get xs i ≡ Some x → slice_get (xs ++ y ∷ []) i ≡ Some x
get_left [] y i x e = cc
get_left (z ∷ zs) y zero x e = e
get_left (z ∷ zs) y (suc i) x e = get_left zs y i x e

pub get_last : {X : Type 0} (xs : List X) (y : X) → slice_get (xs ++ y ∷ []) (length xs) ≡ Some y
get_last [] y = refl
get_last (z ∷ zs) y = get_last zs y

pair_before : {X : Type 0} (f : X → X → List Fault) (before xs : List X) (i j : ℕ) (x y : X) → each_pair f before xs ≡ [] →
    slice_get before i ≡ Some x → slice_get xs j ≡ Some y → f y x ≡ []
pair_before f before [] i j x y none e g = cc
pair_before f before (z ∷ zs) i zero x y none e g =
    let same : z ≡ y = cc in
    subst (λ v. f v x ≡ []) same (flat_none (f z) before i x (no_parts (flat_map (f z) before) _ none).0 e)
pair_before f before (z ∷ zs) i (suc j) x y none e g =
    pair_before f (before ++ z ∷ []) zs i j x y (no_parts (flat_map (f z) before) _ none).1 (get_left before z i x e) g

pairs_none : {X : Type 0} (f : X → X → List Fault) (before xs : List X) (i j : ℕ) (x y : X) → each_pair f before xs ≡ [] → i < j →
    slice_get xs i ≡ Some x → slice_get xs j ≡ Some y → f y x ≡ []
pairs_none f before [] i j x y none l e g = cc
pairs_none f before (z ∷ zs) i zero x y none l e g = absurd (omega arith)
pairs_none f before (z ∷ zs) zero (suc j) x y none l e g =
    let same : z ≡ x = cc in
    pair_before f (before ++ z ∷ []) zs (length before) j x y (no_parts (flat_map (f z) before) _ none).1 (get_last before z ∙ ap Some same) g
pairs_none f before (z ∷ zs) (suc i) (suc j) x y none l e g =
    pairs_none f (before ++ z ∷ []) zs i j x y (no_parts (flat_map (f z) before) _ none).1 (omega arith) e g

few_of : (counted : Counted) (lines : List ℕ) → exhausted_faults counted lines ≡ [] → length lines ≤ 32
few_of counted lines none = elim (slice_get_cases lines 32).1 [
  | inl some ↦ let e = ap (surplus_faults counted (length lines)) some.2 in absurd (cc)
  | inr past ↦ past.0
]

small_of : (counted : Counted) (f : Fix) (n : ℕ) → range_faults counted f ≡ [] → f.number ≡ Some n → n ≤ 31
small_of counted f n none e =
    ltb-false 31 n (told_none _ _ _ (sym (ap (number_faults counted f) e) ∙ none))

unlike : (counted : Counted) (f g : Fix) (n : ℕ) → taken_faults counted f g ≡ [] → f.number ≡ Some n → g.number ≡ Some n → ⊥
unlike counted f g n none e h =
    let told_ : both_faults counted f g (Some n) (Some n) ≡ [] = sym (ap (λ z. both_faults counted f g z g.number) e ∙ ap (both_faults counted f g (Some n)) h) ∙ none in
    false≢true (sym (told_none _ _ _ told_) ∙ eq-eqb n n refl)

-- of two wishes that state one number there is but one
one_fix : (counted : Counted) (fixes : List Fix) (i j n : ℕ) (f g : Fix) → each_pair (taken_faults counted) [] fixes ≡ [] →
    slice_get fixes i ≡ Some f → slice_get fixes j ≡ Some g → f.number ≡ Some n → g.number ≡ Some n → i ≡ j
one_fix counted fixes i j n f g none a b e h = elim (cases_eq i j) [
  | inl same ↦ same
  | inr ne ↦ elim (cases_lt i j) [
    | inl less ↦ absurd (unlike counted g f n (pairs_none (taken_faults counted) [] fixes i j f g none less a b) h e)
    | inr more ↦
        let less : j < i = omega arith in
        absurd (unlike counted f g n (pairs_none (taken_faults counted) [] fixes j i g f none less b a) e h)
  ]
]

pub irqs_stand : (managers : List (List ℕ)) (irqs : List Fix) → irq_faults managers irqs ≡ [] → CanStand (map (λ irq. irq.number) irqs)
irqs_stand managers irqs none =
    let a = no_parts (flat_map (event_faults managers) irqs) _ none in
    let b = no_parts (flat_map (range_faults Interrupts) irqs) _ a.1 in
    let c = no_parts (each_pair (taken_faults Interrupts) [] irqs) _ b.1 in
    let few = few_of Interrupts (map (λ irq. irq.line) irqs) c.1 in
    record {
      few = omega (arith, few, length-map irqs (λ (irq : Fix). irq.line), length-map irqs (λ (irq : Fix). irq.number));
      small = λ i n e.
          let at = map_get (λ (irq : Fix). irq.number) irqs i (Some n) e in
          small_of Interrupts at.0 n (flat_none (range_faults Interrupts) irqs i at.0 b.0 at.1) at.2;
      once = λ i j n e f.
          let x = map_get (λ (irq : Fix). irq.number) irqs i (Some n) e in
          let y = map_get (λ (irq : Fix). irq.number) irqs j (Some n) f in
          one_fix Interrupts irqs i j n x.0 y.0 c.0 x.1 y.1 x.2 y.2;
    }

record IsFound (fixes : List Fix) (name : List ℕ) (n : ℕ) : Type 0 where
  at : ℕ
  fix : Fix
  stands : slice_get fixes at ≡ Some fix
  named : fix.name ≡ name
  stated : fix.number ≡ Some n

found : (fixes : List Fix) (name : List ℕ) (n : ℕ) → number_of fixes name ≡ Some n → IsFound fixes name n
found [] name n e = cc
found (f ∷ fs) name n e = elim (cases_Bool (bytes_eq f.name name)) [
  | inl same ↦
      let own : f.number ≡ Some n = sym (ap (λ z. cond z f.number (number_of fs name)) same) ∙ e in
      record { at = 0; fix = f; stands = refl; named = (bytes_eq-Decides f.name name).0 same; stated = own }
  | inr other ↦
      let rest = found fs name n (sym (ap (λ z. cond z f.number (number_of fs name)) other) ∙ e) in
      record { at = suc rest.at; fix = rest.fix; stands = rest.stands; named = rest.named; stated = rest.stated }
]

pub banks_stand : (fixes : List Fix) (banks : List BankWish) → AreDistinct banks → all_bank_faults fixes banks ≡ [] →
    CanStand (map (λ bank. number_of fixes bank.name) banks)
banks_stand fixes banks distinct none =
    let a = no_parts (flat_map (bank_faults banks) fixes) _ none in
    let b = no_parts (flat_map (range_faults Banks) fixes) _ a.1 in
    let c = no_parts (each_pair (taken_faults Banks) [] fixes) _ b.1 in
    let d = no_parts (flat_map full_faults banks) _ c.1 in
    let few = few_of Banks (map (λ bank. bank.line) banks) d.1 in
    record {
      few = omega (arith, few, length-map banks (λ (bank : BankWish). bank.line), length-map banks (λ (bank : BankWish). number_of fixes bank.name));
      small = λ i n e.
          let at = map_get (λ (bank : BankWish). number_of fixes bank.name) banks i (Some n) e in
          let fix = found fixes at.0.name n at.2 in
          small_of Banks fix.fix n (flat_none (range_faults Banks) fixes fix.at fix.fix b.0 fix.stands) fix.stated;
      once = λ i j n e f.
          let x = map_get (λ (bank : BankWish). number_of fixes bank.name) banks i (Some n) e in
          let y = map_get (λ (bank : BankWish). number_of fixes bank.name) banks j (Some n) f in
          let p = found fixes x.0.name n x.2 in
          let q = found fixes y.0.name n y.2 in
          let same = one_fix Banks fixes p.at q.at n p.fix q.fix c.0 p.stands q.stands p.stated q.stated in
          let fixes_same = ap (slice_get fixes) same in
          let one : p.fix ≡ q.fix = cc in
          distinct i j x.0 y.0 x.1 y.1 (sym p.named ∙ ap (λ z. z.name) one ∙ q.named);
    }
