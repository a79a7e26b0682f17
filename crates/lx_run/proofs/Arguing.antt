-- Arguments one by one.
use Rattle.std.proofs.Common.{◌≡◌, ◌∙◌, ◌<◌, ◌+◌, ℕ, suc, List, [], ◌∷◌, length, drop, get_or, Ok, refl, ap, add-one, drop-cons}
use Rattle.lx_syntax.specs.declared.forms.Argument.{Argument}
use Rattle.lx_syntax.specs.declared.forms.Argument.TheVariants as argument
use Rattle.lx_syntax.specs.declared.forms.Program.{Program}
use Rattle.lx_syntax.specs.Forms.{arguments_at, expr_of}
use Rattle.lx_state.specs.declared.machine.Machine.{Machine}
use Rattle.lx_text.specs.declared.faults.Refusal.{Refusal}
use Rattle.lx_text.specs.declared.faults.Refusal.TheVariants as refusal
use Rattle.lx_state.specs.Step.{Stops, go_on}
use Rattle.lx_builtins.specs.declared.arguments.Arguments.{Arguments}
use Rattle.lx_run.specs.declared.run.Standing.{Standing}
use Rattle.lx_run.specs.declared.run.Standing.TheVariants as standing
use Rattle.lx_run.specs.Meant.{argument_run, makes}
use Rattle.lx_run.specs.Running.{arguments_run}
use Rattle.lx_run.proofs.Trailing.{placed_is}

pub argument_more : (p : Program) (levels : ℕ) (at : Standing) (line : ℕ) (so_far : Arguments) (x : Argument) (rest : List Argument) (m : Machine) → arguments_run (makes p levels) at line so_far (arguments_at p.src (expr_of p) (x ∷ rest)) m ≡ go_on (argument_run p levels at line so_far x m) (λ more. arguments_run (makes p levels) standing.Plain line more (arguments_at p.src (expr_of p) rest))
unfolding arguments_run arguments_at
argument_more p levels at line so_far (argument.Placed id) rest m = placed_is (makes p levels) at line so_far (expr_of p id.place) (arguments_at p.src (expr_of p) rest) m
argument_more p levels at line so_far (argument.Starred id) rest m = refl
argument_more p levels at line so_far (argument.Keyed x id) rest m = refl

-- a turn of the loop over arguments
pub argument_next : (p : Program) (levels : ℕ) (at : Standing) (line : ℕ) (so_far more : Arguments) (xs : List Argument) (k : ℕ) (x : Argument) (m n : Machine) → k < length xs → argument_run p levels at line so_far (get_or xs k x) m ≡ Ok (more, n) → arguments_run (makes p levels) at line so_far (arguments_at p.src (expr_of p) (drop k xs)) m ≡ arguments_run (makes p levels) standing.Plain line more (arguments_at p.src (expr_of p) (drop (k + 1) xs)) n
argument_next p levels at line so_far more xs k x m n l ran =
    let next : drop k xs ≡ get_or xs k x ∷ drop (suc k) xs = drop-cons xs k x l in
    ap (λ rest. arguments_run (makes p levels) at line so_far (arguments_at p.src (expr_of p) rest) m) next ∙ argument_more p levels at line so_far (get_or xs k x) (drop (suc k) xs) m ∙ ap (λ r. go_on r (λ more. arguments_run (makes p levels) standing.Plain line more (arguments_at p.src (expr_of p) (drop (suc k) xs)))) ran ∙ rw add-one refl

-- one that fails
pub argument_stops : (r : Refusal) (p : Program) (levels : ℕ) (at : Standing) (line : ℕ) (so_far : Arguments) (xs : List Argument) (k : ℕ) (x : Argument) (m : Machine) → k < length xs → Stops r (argument_run p levels at line so_far (get_or xs k x) m) → Stops r (arguments_run (makes p levels) at line so_far (arguments_at p.src (expr_of p) (drop k xs)) m)
argument_stops refusal.NoMemory p levels at line so_far xs k x m l stop = tt
argument_stops (refusal.Fault f) p levels at line so_far xs k x m l stop =
    let next : drop k xs ≡ get_or xs k x ∷ drop (suc k) xs = drop-cons xs k x l in
    ap (λ rest. arguments_run (makes p levels) at line so_far (arguments_at p.src (expr_of p) rest) m) next ∙ argument_more p levels at line so_far (get_or xs k x) (drop (suc k) xs) m ∙ ap (λ r. go_on r (λ more. arguments_run (makes p levels) standing.Plain line more (arguments_at p.src (expr_of p) (drop (suc k) xs)))) stop
