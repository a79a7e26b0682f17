-- What holds of the value of a reading, where there is one.
use Rattle.std.proofs.Common.{◌≡◌, Bool, true, false, cond, Option, Some, None, refl, subst}
use Rattle.std.proofs.lemmas.Option.{same_Some, none-some}
use Rattle.lx_vtext.specs.Reading.{◌>>=◌, if_some}

-- where there is a value, it is such
pub record Gives {A : Type 0} (o : Option A) (P : A → Type 0) : Type 0 where
  pub gives : (y : A) → o ≡ Some y → P y

pub gives_none : {A : Type 0} {P : A → Type 0} → Gives None P
gives_none = record { gives = λ y e. absurd (none-some y e) }

pub gives_some : {A : Type 0} {P : A → Type 0} (x : A) → P x → Gives (Some x) P
gives_some {P = P} x p = record { gives = λ y e. subst P (same_Some x y e) p }

pub and_then : {A B : Type 0} {Q : A → Type 0} {P : B → Type 0} {o : Option A} {f : A → Option B} → Gives o Q → ((x : A) → Q x → Gives (f x) P) → Gives (o >>= f) P
and_then {o = None} q k = gives_none
and_then {o = Some x} q k = k x (q.gives x refl)

pub if_given : {A B : Type 0} {Q : A → Type 0} {P : B → Type 0} {o : Option A} {f : A → Option B} {other : Option B} → Gives o Q → ((x : A) → Q x → Gives (f x) P) → Gives other P → Gives (if_some o f other) P
if_given {o = None} q k n = n
if_given {o = Some x} q k n = k x (q.gives x refl)

pub if_true : {A : Type 0} {P : A → Type 0} {b : Bool} {o : Option A} → (b ≡ true → Gives o P) → Gives (cond b o None) P
if_true {b = true} p = p refl
if_true {b = false} p = gives_none

-- the first way where the test holds, the second where it does not
pub if_true_or : {A : Type 0} {P : A → Type 0} {b : Bool} {o p : Option A} → (b ≡ true → Gives o P) → (b ≡ false → Gives p P) → Gives (cond b o p) P
if_true_or {b = true} q n = q refl
if_true_or {b = false} q n = n refl

pub weaken : {A : Type 0} {Q P : A → Type 0} {o : Option A} → Gives o Q → ((x : A) → Q x → P x) → Gives o P
weaken q f = record { gives = λ y e. f y (q.gives y e) }
