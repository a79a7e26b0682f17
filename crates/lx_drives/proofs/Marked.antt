-- The signals that are marked as ports.
use Rattle.std.proofs.Common.{◌≡◌, ℕ, zero, suc, ◌+◌, ◌<◌, Bool, true, false, ◌||◌, List, [], ◌∷◌, ◌++◌, Option, Some, None, length, get_or, set, map, take, replicate, refl, sym, ◌∙◌, ap, subst, nat_eq, arith, eq-eqb}
use Rattle.std.specs.Prelude.{option_map, slice_get, IfSome}
use Rattle.std.proofs.Math.Bool.{or-false, or_assoc, or-true}
use Rattle.std.proofs.lemmas.Bool.{eqb-true, true≢false}
use Rattle.std.proofs.lemmas.List.{get_or-set_same, get_or-set_other, get_or_default, length-replicate, length-set, take_more}
use Rattle.lx_circuit.specs.Circuit.{is_among, is_named}
use Rattle.lx_fhdl.specs.Designs.{signal_number}
use Rattle.lx_fhdl.specs.Keeping.{Keeps}
use Rattle.lx_fhdl.specs.declared.exprs.SigId.{SigId}
use Rattle.lx_fhdl.specs.declared.design.Domain.{Domain}
use Rattle.lx_fhdl.specs.declared.design.Design.{Design}
use Rattle.lx_sheet.specs.Marks.{AreMarksOf, AreMarks, is_marked}
use Rattle.lx_drives.specs.Marks.{AreAmong, AreResetsToo, IsMarkedToo, some_reset}
use Rattle.lx_width.proofs.Ends.{item_there}
use Rattle.lx_drives.proofs.Owners.{port_is}
use Rattle.lx_sheet.proofs.Starts.{reset_there}
use Rattle.lx_fhdl.proofs.Resets.{each_of_at}

marked : (marks : List Bool) (y x : ℕ) → y < length marks → is_marked (set marks y true) x ≡ (is_marked marks x || nat_eq y x)
marked marks y x l = by_answer (nat_eq y x) refl
  where
    by_answer : (b : Bool) → nat_eq y x ≡ b → is_marked (set marks y true) x ≡ (is_marked marks x || b)
    by_answer true e = ap (is_marked (set marks y true)) (sym (eqb-true y x e)) ∙ get_or-set_same marks y true false l ∙ sym (or-true (is_marked marks x))
    by_answer false e = get_or-set_other marks y x true false (λ p. true≢false (sym (eq-eqb y x (sym p)) ∙ e)) ∙ sym (or-false (is_marked marks x))

mark_more : (d : Design) (test more : ℕ → Bool) (marks : List Bool) (y : ℕ) → y < length d.signals → AreMarksOf d test marks → ((x : ℕ) → (test x || nat_eq y x) ≡ more x) → AreMarksOf d more (set marks y true)
mark_more d test more marks y l h e = record {
  long = length-set marks y true ∙ h.long;
  each = λ x lt. marked marks y x (omega (arith, h.long)) ∙ ap (λ b. b || nat_eq y x) (h.each x lt) ∙ e x;
}

among_more : (x : ℕ) (ios : List SigId) (y : SigId) → (is_among x (map signal_number ios) || nat_eq y.0 x) ≡ is_among x (map signal_number (ios ++ y ∷ []))
among_more x [] y = sym (or-false (nat_eq y.0 x))
among_more x (z ∷ zs) y = or_assoc (nat_eq z.0 x) (is_among x (map signal_number zs)) (nat_eq y.0 x) ∙ ap (λ b. nat_eq z.0 x || b) (among_more x zs y)

none_marked : (n x : ℕ) → is_marked (replicate n false) x ≡ false
none_marked zero x = refl
none_marked (suc n) zero = refl
none_marked (suc n) (suc x) = none_marked n x

pub among_none : (d : Design) (marks : List Bool) → marks ≡ replicate (length d.signals) false → AreAmong d [] marks
among_none d marks e = record {
  long = ap length e ∙ length-replicate (length d.signals) false;
  each = λ x l. ap (λ (ms : List Bool). is_marked ms x) e ∙ none_marked (length d.signals) x;
}

pub io_there : (d : Design) (k : ℕ) (y : SigId) → Keeps d → slice_get d.ios k ≡ Some y → y.0 < length d.signals
io_there d k y keeps e = each_of_at (λ (x : SigId). x.0 < length d.signals) d.ios keeps.ios k y e

pub io_within : (d : Design) (k : ℕ) (ios : List SigId) (z : SigId) → Keeps d → ios ≡ d.ios → k < length ios → (get_or ios k z).0 < length d.signals
io_within d k ios z keeps same l = io_there d k (get_or ios k z) keeps (item_there ios d.ios k (get_or ios k z) same l (get_or_default ios k z (get_or ios k z) l))

pub among_next : (d : Design) (k : ℕ) (marks : List Bool) (ios : List SigId) (z : SigId) → Keeps d → ios ≡ d.ios → k < length ios → AreAmong d (take k ios) marks → AreAmong d (take (k + 1) ios) (set marks (get_or ios k z).0 true)
among_next d k marks ios z keeps same l h =
    let y = get_or ios k z in
    mark_more d (λ x. is_among x (map signal_number (take k ios))) (λ x. is_among x (map signal_number (take (k + 1) ios))) marks y.0 (io_within d k ios z keeps same l) h
    (λ x. among_more x (take k ios) y ∙ ap (λ (is : List SigId). is_among x (map signal_number is)) (sym (take_more ios k z l)))

reset_more : (x : ℕ) (as_ : List Domain) (a : Domain) → (some_reset x as_ || is_named x (option_map signal_number a.reset)) ≡ some_reset x (as_ ++ a ∷ [])
reset_more x [] a = sym (or-false (is_named x (option_map signal_number a.reset)))
reset_more x (b ∷ bs) a =
    or_assoc (is_named x (option_map signal_number b.reset)) (some_reset x bs) (is_named x (option_map signal_number a.reset))
    ∙ ap (λ c. is_named x (option_map signal_number b.reset) || c) (reset_more x bs a)

-- those of the domains so far
pub resets_none : (d : Design) (marks : List Bool) → AreAmong d d.ios marks → AreResetsToo d [] marks
resets_none d marks h = record { long = h.long; each = λ x l. h.each x l ∙ sym (or-false (is_among x (map signal_number d.ios))) }

one_more : (d : Design) (k : ℕ) (domains : List Domain) (a : Domain) (x : ℕ) → k < length domains → a ≡ get_or domains k a
    → ((is_among x (map signal_number d.ios) || some_reset x (take k domains)) || is_named x (option_map signal_number a.reset)) ≡ (is_among x (map signal_number d.ios) || some_reset x (take (k + 1) domains))
one_more d k domains a x l e =
    let last : take (k + 1) domains ≡ take k domains ++ a ∷ [] = take_more domains k a l ∙ ap (λ (b : Domain). take k domains ++ b ∷ []) (sym e) in
    or_assoc (is_among x (map signal_number d.ios)) (some_reset x (take k domains)) (is_named x (option_map signal_number a.reset))
    ∙ ap (λ b. is_among x (map signal_number d.ios) || b) (reset_more x (take k domains) a ∙ ap (some_reset x) (sym last))

pub mark_some : (marks : List Bool) (o : Option SigId) (r : SigId) → o ≡ Some r → IfSome o (λ x. x.0 < length marks) → IsMarkedToo marks (set marks r.0 true) (option_map signal_number o)
mark_some marks None r e h = absurd (cc)
mark_some marks (Some x) r e h =
    let same : x ≡ r = cc in
    let l : r.0 < length marks = rw (← same) h in
    record { long = length-set marks r.0 true; each = λ y lt. marked marks r.0 y l ∙ ap (λ (z : SigId). is_marked marks y || nat_eq z.0 y) (sym same) }

pub mark_none : (marks : List Bool) (o : Option SigId) → ((r : SigId) → o ≡ Some r → ⊥) → IsMarkedToo marks marks (option_map signal_number o)
mark_none marks None n = record { long = refl; each = λ y lt. sym (or-false (is_marked marks y)) }
mark_none marks (Some x) n = absurd (n x refl)

pub resets_next : (d : Design) (k : ℕ) (old new : List Bool) (domains : List Domain) (a : Domain) → k < length domains → a ≡ get_or domains k a → AreResetsToo d (take k domains) old → IsMarkedToo old new (option_map signal_number a.reset)
    → AreResetsToo d (take (k + 1) domains) new
resets_next d k old new domains a l e h m = record {
  long = m.long ∙ h.long;
  each = λ x lt. m.each x (omega (arith, h.long)) ∙ ap (λ b. b || is_named x (option_map signal_number a.reset)) (h.each x lt) ∙ one_more d k domains a x l e;
}

wider_some : (o : Option SigId) (n m : ℕ) → n ≡ m → IfSome o (λ r. r.0 < n) → IfSome o (λ r. r.0 < m)
wider_some o n m e h = subst (λ k. IfSome o (λ r. r.0 < k)) e h

pub domain_reset_there : (d : Design) (k n : ℕ) (domains : List Domain) (a : Domain) → Keeps d → domains ≡ d.domains → k < length domains → a ≡ get_or domains k a → n ≡ length d.signals → IfSome a.reset (λ r. r.0 < n)
domain_reset_there d k n domains a keeps same l e long = wider_some a.reset (length d.signals) n (sym long) (reset_there d k a keeps (item_there domains d.domains k a same l e))

pub marks_are : (d : Design) (marks : List Bool) → AreResetsToo d d.domains marks → AreMarks d marks
marks_are d marks h = record { long = h.long; each = λ x l. h.each x l ∙ port_is d x }
