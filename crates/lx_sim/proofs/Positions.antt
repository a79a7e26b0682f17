-- Places of signals in an order, and expressions by their ranks.
use Rattle.std.proofs.Common.{◌≡◌, ◌≢◌, ℕ, ◌+◌, ◌^◌, ◌<◌, List, length, set, sym, ◌∙◌, ap, arith, inl, inr, get_or-set_same, get_or-set_other, length-set}
use Rattle.std.specs.Prelude.{Option, Some, slice_get}
use Rattle.std.proofs.lemmas.Bool.{cases_eq}
use Rattle.std.proofs.lemmas.Option.{slice_get_within}
use Rattle.lx_fhdl.specs.declared.design.Design.{Design}
use Rattle.lx_sim.specs.Orders.{ArePlaces, HavePlaces, HaveRoom, IsOrderFor, place_of}

pub no_places : (count : ℕ) (order : List ℕ) (places : List ℕ) → length places ≡ count → HavePlaces count order 0 places
no_places count order places e = record { long = e; last = λ i x l f. absurd (omega arith) }

same_item : {A : Type 0} (x y : A) (o : Option A) → o ≡ Some x → o ≡ Some y → x ≡ y
same_item x y o e f = cc

pub place_more : (count : ℕ) (order : List ℕ) (n y : ℕ) (places : List ℕ) → HavePlaces count order n places → slice_get order n ≡ Some y → y < count → HavePlaces count order (n + 1) (set places y n)
place_more count order n y places have found below = record {
  long = length-set places y n ∙ have.long;
  last = λ i x l f.
      elim (cases_eq x y) [
        | inl e ↦
            let here : place_of (set places y n) x ≡ n = ap (λ (k : ℕ). place_of (set places y n) k) e ∙ get_or-set_same places y n 0 (let q = have.long in omega arith) in
            (omega (arith, here), omega (arith, here), ap (slice_get order) here ∙ found ∙ ap Some (sym e))
        | inr e ↦
            let here : place_of (set places y n) x ≡ place_of places x = get_or-set_other places y x n 0 e in
            let other : i ≢ n = λ q. e (same_item x y (slice_get order n) (ap (slice_get order) (sym q) ∙ f) found) in
            let old = have.last i x (omega arith) f in
            (omega (arith, here, old.0), omega (arith, here, old.1), ap (slice_get order) here ∙ old.2)
      ];
}

-- there is a number behind each of them
pub room_for : (d : Design) (order places : List ℕ) → ArePlaces d order places → length order < 2 ^ 64 → HaveRoom places
room_for d order places placed l = record {
  each = λ x h.
      let w = placed.within x (let q = placed.long in omega arith) in
      omega (arith, w, l);
}

pub places_for : (d : Design) (order places : List ℕ) → IsOrderFor d order → HavePlaces (length d.signals) order (length order) places → ArePlaces d order places
places_for d order places for_ have = record {
  long = have.long;
  within = λ x l. let a = for_.all x l in (have.last a.0 x (slice_get_within order a.0 x a.1) a.1).1;
  there = λ x l. let a = for_.all x l in (have.last a.0 x (slice_get_within order a.0 x a.1) a.1).2;
  only = λ i x f. let here = have.last i x (slice_get_within order i x f) f in for_.once (place_of places x) i x here.2 f;
  after = λ x y l e.
      let a = for_.all x l in
      let here = have.last a.0 x (slice_get_within order a.0 x a.1) a.1 in
      let before = for_.after (place_of places x) x y here.2 e in
      let there = have.last before.0 y (slice_get_within order before.0 y before.2) before.2 in
      let same = for_.once (place_of places y) before.0 y there.2 before.2 in
      omega (arith, same, before.1);
}
