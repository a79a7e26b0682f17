-- Operands of `or` and `and` one by one.
use Rattle.std.proofs.Common.{◌≡◌, ◌≢◌, ◌∙◌, ℕ, Bool, true, false, List, [], ◌∷◌, Result, Ok, Err, if◌then◌else◌, refl, ap}
use Rattle.lx_text.specs.declared.faults.Kind.TheVariants as kind
use Rattle.lx_arena.specs.declared.Id.{Id}
use Rattle.lx_pytree.specs.declared.tree.PyNodes.{PyNodes}
use Rattle.lx_syntax.specs.Ast.{Expr}
use Rattle.lx_syntax.specs.Forms.{items_at}
use Rattle.lx_state.specs.declared.machine.Machine.{Machine}
use Rattle.lx_state.specs.declared.values.Value.{Value}
use Rattle.lx_state.specs.Step.{Step, fault, give, go_on}
use Rattle.lx_run.specs.Calls.{Make}
use Rattle.lx_run.specs.Running.{eval, first_that, is_wanted, weighed}

pub none_first : (make : Make) (f : ℕ → Expr) (wanted : Bool) (line : ℕ) (m : Machine) → first_that make wanted line (items_at f []) m ≡ fault 0 kind.WrongKind m
unfolding first_that items_at
none_first make f wanted line m = refl

pub last_first : (make : Make) (f : ℕ → Expr) (wanted : Bool) (line : ℕ) (id : Id PyNodes) (m : Machine) → first_that make wanted line (items_at f (id ∷ [])) m ≡ eval make (f id.place) m
unfolding first_that items_at
last_first make f wanted line id m = refl

pub more_first : (make : Make) (f : ℕ → Expr) (wanted : Bool) (line : ℕ) (id : Id PyNodes) (rest : List (Id PyNodes)) (m : Machine) → rest ≢ [] → first_that make wanted line (items_at f (id ∷ rest)) m ≡ go_on (weighed line (eval make (f id.place)) m) (λ w. if is_wanted wanted w.1 then give w.0 else first_that make wanted line (items_at f rest))
unfolding first_that items_at
more_first make f wanted line id [] m some = absurd (some refl)
more_first make f wanted line id (other ∷ rest) m some = refl

-- an operand that is looked for
pub found_first : (make : Make) (f : ℕ → Expr) (wanted holds : Bool) (line : ℕ) (id : Id PyNodes) (rest : List (Id PyNodes)) (v : Value) (m n : Machine) → rest ≢ [] → weighed line (eval make (f id.place)) m ≡ Ok ((v, holds), n) → is_wanted wanted holds ≡ true → first_that make wanted line (items_at f (id ∷ rest)) m ≡ Ok (v, n)
found_first make f wanted holds line id rest v m n some ran so = more_first make f wanted line id rest m some ∙ rw (ran, so) refl

pub passed_first : (make : Make) (f : ℕ → Expr) (wanted holds : Bool) (line : ℕ) (id : Id PyNodes) (rest : List (Id PyNodes)) (v : Value) (m n : Machine) → rest ≢ [] → weighed line (eval make (f id.place)) m ≡ Ok ((v, holds), n) → is_wanted wanted holds ≡ false → first_that make wanted line (items_at f (id ∷ rest)) m ≡ first_that make wanted line (items_at f rest) n
passed_first make f wanted holds line id rest v m n some ran so = more_first make f wanted line id rest m some ∙ rw (ran, so) refl
