-- The signals that are marked.
use Rattle.std.proofs.Common.{◌≡◌, ℕ, zero, suc, ◌+◌, ◌<◌, Bool, true, false, ◌||◌, List, [], ◌∷◌, ◌++◌, Option, Some, None, length, get_or, set, map, take, replicate, refl, sym, ◌∙◌, ap, subst, nat_eq, arith, eq-eqb}
use Rattle.std.specs.Prelude.{option_map}
use Rattle.std.proofs.Math.Bool.{or-false, or_assoc, or-true}
use Rattle.std.proofs.lemmas.Bool.{eqb-true, true≢false}
use Rattle.std.proofs.lemmas.List.{get_or-set_same, get_or-set_other, length-replicate, length-set, take_more, map-append}
use Rattle.std.proofs.lemmas.Grind.{flat_map-append}
use Rattle.lx_circuit.specs.Circuit.{is_among, is_named, is_some_reset}
use Rattle.lx_fhdl.specs.Designs.{circuit_of, domains_from, signal_number}
use Rattle.lx_fhdl.specs.declared.exprs.SigId.{SigId}
use Rattle.lx_fhdl.specs.declared.design.Domain.{Domain}
use Rattle.lx_fhdl.specs.declared.design.Design.{Design}
use Rattle.lx_emission.specs.Emission.{is_port}
use Rattle.lx_namer.specs.Marks.{AreMarked, AreMarkedToo, is_marked, ports_and_resets, reset_numbers, resets_of}

pub among_joined : (k : ℕ) (xs ys : List ℕ) → is_among k (xs ++ ys) ≡ (is_among k xs || is_among k ys)
among_joined k [] ys = refl
among_joined k (x ∷ xs) ys = ap (λ b. nat_eq x k || b) (among_joined k xs ys) ∙ sym (or_assoc (nat_eq x k) (is_among k xs) (is_among k ys))

none_set : (n k : ℕ) → is_marked (replicate n false) k ≡ false
none_set zero k = refl
none_set (suc n) zero = refl
none_set (suc n) (suc k) = none_set n k

pub none_marked : (n : ℕ) (marks : List Bool) → marks ≡ replicate n false → AreMarked n [] marks
none_marked n marks e = record {
  long = ap length e ∙ length-replicate n false;
  each = λ k l. ap (λ (ms : List Bool). is_marked ms k) e ∙ none_set n k;
}

marked : (marks : List Bool) (y k : ℕ) → y < length marks → is_marked (set marks y true) k ≡ (is_marked marks k || nat_eq y k)
marked marks y k l = by (nat_eq y k) refl
  where
    by : (b : Bool) → nat_eq y k ≡ b → is_marked (set marks y true) k ≡ (is_marked marks k || b)
    by true e = ap (is_marked (set marks y true)) (sym (eqb-true y k e)) ∙ get_or-set_same marks y true false l ∙ sym (or-true (is_marked marks k))
    by false e = get_or-set_other marks y k true false (λ p. true≢false (sym (eq-eqb y k (sym p)) ∙ e)) ∙ sym (or-false (is_marked marks k))

-- a mark for a signal that is there
pub mark_one : (marks : List Bool) (y : ℕ) → y < length marks → AreMarkedToo marks (set marks y true) (y ∷ [])
mark_one marks y l = record {
  long = length-set marks y true;
  each = λ k lt. marked marks y k l ∙ ap (λ b. is_marked marks k || b) (sym (or-false (nat_eq y k)));
}

-- none for one that isn't
pub mark_past : (marks : List Bool) (y : ℕ) → (y < length marks → ⊥) → AreMarkedToo marks marks (y ∷ [])
mark_past marks y past = record {
  long = refl;
  each = λ k lt. sym (ap (λ b. is_marked marks k || (b || false)) (other k lt (nat_eq y k) refl) ∙ or-false (is_marked marks k));
}
  where
    other : (k : ℕ) → k < length marks → (b : Bool) → nat_eq y k ≡ b → nat_eq y k ≡ false
    other k lt true e = let same = eqb-true y k e in absurd (past (omega (arith, same, lt)))
    other k lt false e = e

pub mark_none : (marks : List Bool) → AreMarkedToo marks marks []
mark_none marks = record { long = refl; each = λ k lt. sym (or-false (is_marked marks k)) }

marked_more : (n : ℕ) (xs ys : List ℕ) (old new : List Bool) → AreMarked n xs old → AreMarkedToo old new ys → AreMarked n (xs ++ ys) new
marked_more n xs ys old new h m = record {
  long = m.long ∙ h.long;
  each = λ k lt. m.each k (omega (arith, h.long)) ∙ ap (λ b. b || is_among k ys) (h.each k lt) ∙ sym (among_joined k xs ys);
}

marked_as : (n : ℕ) (xs ys : List ℕ) (marks : List Bool) → xs ≡ ys → AreMarked n xs marks → AreMarked n ys marks
marked_as n xs ys marks e h = subst (λ (zs : List ℕ). AreMarked n zs marks) e h

pub ports_next : (n k : ℕ) (old new : List Bool) (ios : List SigId) (z : SigId) → k < length ios → AreMarked n (map signal_number (take k ios)) old → AreMarkedToo old new ((get_or ios k z).0 ∷ []) → AreMarked n (map signal_number (take (k + 1) ios)) new
ports_next n k old new ios z l h m =
    let x = get_or ios k z in
    marked_as n (map signal_number (take k ios) ++ x.0 ∷ []) (map signal_number (take (k + 1) ios)) new
    (sym (ap (λ (xs : List SigId). map signal_number xs) (take_more ios k z l) ∙ map-append signal_number (take k ios) (x ∷ [])))
    (marked_more n (map signal_number (take k ios)) (x.0 ∷ []) old new h m)

pub resets_next : (n k : ℕ) (ports : List ℕ) (old new : List Bool) (domains : List Domain) (a : Domain) → k < length domains → a ≡ get_or domains k a → AreMarked n (ports ++ resets_of (take k domains)) old → AreMarkedToo old new (reset_numbers a.reset) → AreMarked n (ports ++ resets_of (take (k + 1) domains)) new
resets_next n k ports old new domains a l e h m =
    let last : take (k + 1) domains ≡ take k domains ++ a ∷ [] = take_more domains k a l ∙ ap (λ (b : Domain). take k domains ++ b ∷ []) (sym e) in
    let more = marked_more n (ports ++ resets_of (take k domains)) (reset_numbers a.reset) old new h m in
    marked_as n ((ports ++ resets_of (take k domains)) ++ reset_numbers a.reset) (ports ++ resets_of (take (k + 1) domains)) new
    (joined ports (resets_of (take k domains)) (reset_numbers a.reset) ∙ ap (λ (ys : List ℕ). ports ++ ys) (sym (ap resets_of last ∙ flat_map-append (λ (x : Domain). reset_numbers x.reset) (take k domains) (a ∷ []))))
    more
  where
    nil : (xs : List ℕ) → xs ++ [] ≡ xs
    nil [] = refl
    nil (x ∷ xs) = ap (λ ys. x ∷ ys) (nil xs)

    joined : (xs ys zs : List ℕ) → (xs ++ ys) ++ zs ≡ xs ++ (ys ++ (zs ++ []))
    joined [] ys zs = ap (λ t. ys ++ t) (sym (nil zs))
    joined (x ∷ xs) ys zs = ap (λ t. x ∷ t) (joined xs ys zs)

-- ---- ports and resets

reset_named : (x : ℕ) (o : Option SigId) → is_among x (reset_numbers o) ≡ is_named x (option_map signal_number o)
reset_named x None = refl
reset_named x (Some r) = or-false (nat_eq r.0 x)

pub reset_is : (d : Design) (x k : ℕ) (as_ : List Domain) → is_among x (resets_of as_) ≡ is_some_reset x (domains_from d k as_)
reset_is d x k [] = refl
reset_is d x k (a ∷ as_) =
    among_joined x (reset_numbers a.reset) (resets_of as_)
    ∙ ap (λ b. b || is_among x (resets_of as_)) (reset_named x a.reset)
    ∙ ap (λ b. is_named x (option_map signal_number a.reset) || b) (reset_is d x (k + 1) as_)

pub port_is : (d : Design) (x : ℕ) → is_among x (ports_and_resets d) ≡ is_port d x
unfolding is_port circuit_of
port_is d x = among_joined x (map signal_number d.ios) (resets_of d.domains) ∙ ap (λ b. is_among x (map signal_number d.ios) || b) (reset_is d x 0 d.domains)

-- a signal's mark
pub marked_port : (d : Design) (marks : List Bool) (x : ℕ) → AreMarked (length d.signals) (ports_and_resets d) marks → x < length d.signals → is_marked marks x ≡ is_port d x
marked_port d marks x h l = h.each x l ∙ port_is d x
