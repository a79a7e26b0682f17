-- Steps that follow one another.
use Rattle.std.proofs.Common.{◌≡◌, Result, Ok, Err, refl}
use Rattle.lx_state.specs.declared.machine.Machine.{Machine}
use Rattle.lx_state.specs.Step.{Outcome, Step, give, go_on}

pub go_on_give : {A : Type 0} (r : Outcome A) → go_on r give ≡ r
go_on_give (Ok x) = refl
go_on_give (Err f) = refl

pub go_on_go_on : {A B C : Type 0} (r : Outcome A) (f : A → Step B) (g : B → Step C) → go_on (go_on r f) g ≡ go_on r (λ x m. go_on (f x m) g)
go_on_go_on (Ok x) f g = refl
go_on_go_on (Err e) f g = refl

-- what follows does the same
pub go_on_same : {A B : Type 0} (r : Outcome A) (f g : A → Step B) → ((x : A) (m : Machine) → f x m ≡ g x m) → go_on r f ≡ go_on r g
go_on_same (Ok x) f g h = h x.0 x.1
go_on_same (Err e) f g h = refl
