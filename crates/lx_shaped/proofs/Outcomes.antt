-- One judgement, and what is said of it.
use Rattle.std.proofs.Common.{◌≡◌, Bool, true, false, Option, Some, None, refl, ap}
use Rattle.std.specs.Prelude.{Ok, Err}
use Rattle.lx_circuit.specs.declared.WidthFault.{WidthFault}
use Rattle.lx_fhdl.specs.declared.design.Design.{Design}
use Rattle.lx_shaped.specs.Making.{judged, tried, unless}
use Rattle.lx_shaped.specs.declared.outcome.Outcome.{Outcome}
use Rattle.lx_shaped.specs.declared.outcome.Outcome.TheVariants.{Made, Faulty, Misplaced}

-- what a node has whose judgement is `Made x`
pub record IsMade {A : Type 0} (b : Bool) (f : Option WidthFault) (a x : A) : Type 0 where
  pub stands : b ≡ true
  pub sound : f ≡ None
  pub value : x ≡ a

pub judged_made : {A : Type 0} (b : Bool) (f : Option WidthFault) (a x : A) → judged b f a ≡ Made x → IsMade b f a x
judged_made true None a x e = record { stands = refl; sound = refl; value = cc }
judged_made true (Some g) a x e = absurd (cc)
judged_made false f a x e = absurd (cc)

-- two things that are judged alike, by the same test and fault
pub other_made : {B : Type 0} (b : Bool) (f : Option WidthFault) (m : B) (new old : Design) → b ≡ true → f ≡ None → tried (judged b f m) new old ≡ (Made m, new)
other_made true None m new old p e = refl
other_made true (Some g) m new old p e = absurd (cc)
other_made false f m new old p e = absurd (cc)

pub other_faulty : {A B : Type 0} (b : Bool) (f : Option WidthFault) (a : A) (m : B) (new old : Design) (g : WidthFault) → judged b f a ≡ Faulty g → tried (judged b f m) new old ≡ (Faulty g, old)
other_faulty true None a m new old g e = absurd (cc)
other_faulty {A} {B} true (Some h) a m new old g e =
    let p : h ≡ g = cc in
    let made : WidthFault → Outcome B × Design = λ k. (Faulty k, old) in
    ap made p
other_faulty false f a m new old g e = absurd (cc)

pub other_misplaced : {A B : Type 0} (b : Bool) (f : Option WidthFault) (a : A) (m : B) (new old : Design) → judged b f a ≡ Misplaced → tried (judged b f m) new old ≡ (Misplaced, old)
other_misplaced true None a m new old e = absurd (cc)
other_misplaced true (Some h) a m new old e = absurd (cc)
other_misplaced false f a m new old e = refl

pub not_there : {B : Type 0} (b : Bool) (f : Option WidthFault) (m : B) (new old : Design) → b ≡ false → tried (judged b f m) new old ≡ (Misplaced, old)
not_there true f m new old e = absurd (cc)
not_there false f m new old e = refl

pub there_faulty : {B : Type 0} (b : Bool) (f : Option WidthFault) (m : B) (new old : Design) (g : WidthFault) → b ≡ true → f ≡ Some g → tried (judged b f m) new old ≡ (Faulty g, old)
there_faulty {B} true f m new old g p e =
    let made : Option WidthFault → Outcome B × Design = λ k. tried (judged true k m) new old in
    ap made e
there_faulty false f m new old g p e = absurd (cc)

-- ---- a value unless there is a fault

pub unless_ok : {A : Type 0} (f : Option WidthFault) (a x : A) → unless f a ≡ Ok x → (f ≡ None) × (x ≡ a)
unless_ok None a x e = (refl, cc)
unless_ok (Some g) a x e = absurd (cc)

pub unless_err : {A : Type 0} (f : Option WidthFault) (a : A) (g : WidthFault) → unless f a ≡ Err g → f ≡ Some g
unless_err None a g e = absurd (cc)
unless_err (Some h) a g e = let p : h ≡ g = cc in ap (λ (k : WidthFault). Some k) p

pub judged_ok : {A : Type 0} (b : Bool) (f : Option WidthFault) (a x : A) → b ≡ true → unless f a ≡ Ok x → judged b f a ≡ Made x
judged_ok true None a x p e = let q : a ≡ x = cc in ap (λ (y : _). Made y) q
judged_ok true (Some g) a x p e = absurd (cc)
judged_ok false f a x p e = absurd (cc)

pub judged_err : {A : Type 0} (b : Bool) (f : Option WidthFault) (a : A) (g : WidthFault) → b ≡ true → unless f a ≡ Err g → judged b f a ≡ Faulty g
judged_err true None a g p e = absurd (cc)
judged_err {A} true (Some h) a g p e =
    let q : h ≡ g = cc in
    let made : WidthFault → Outcome A = λ k. Faulty k in
    ap made q
judged_err false f a g p e = absurd (cc)
