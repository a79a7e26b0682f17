-- Classes that are called.
use Rattle.std.proofs.Common.{◌≡◌, ◌≢◌, ◌∙◌, ◌-◌, ◌<◌, ◌+◌, ◌*◌, ℕ, zero, suc, List, [], ◌∷◌, length, map, Option, Some, None, option_map, slice_get, sub-one, Ok, Err, refl, sym, ap, arith}
use Rattle.lx_text.specs.declared.faults.LimitKind.TheVariants as limit
use Rattle.lx_text.specs.declared.faults.Kind.TheVariants as kind
use Rattle.lx_syntax.specs.declared.forms.ClassForm.{ClassForm}
use Rattle.lx_syntax.specs.declared.forms.Program.{Program}
use Rattle.lx_syntax.specs.Ast.{Class}
use Rattle.lx_syntax.specs.Forms.{class_of, classes_of}
use Rattle.lx_state.specs.declared.machine.Machine.{Machine}
use Rattle.lx_text.specs.declared.faults.Refusal.{Refusal}
use Rattle.lx_text.specs.declared.faults.Refusal.TheVariants as refusal
use Rattle.lx_state.specs.declared.values.Value.{Value}
use Rattle.lx_state.specs.Step.{IsFault, Stops, fault, go_on}
use Rattle.lx_builtins.specs.declared.arguments.Arguments.{Arguments}
use Rattle.lx_builtins.specs.Arguments.{bound_to}
use Rattle.lx_run.specs.Calls.{Make}
use Rattle.lx_run.specs.Classes.{Run, class_called, make_within, module_run, param_of}
use Rattle.lx_run.specs.Meant.{makes}

pub make_none : (classes : List Class) → make_within classes 0 ≡ class_called classes (λ line at c values. fault line (kind.Limit limit.Depth))
unfolding make_within
make_none classes = refl

pub make_more : (classes : List Class) (levels : ℕ) → levels ≢ 0 → make_within classes levels ≡ class_called classes (module_run (make_within classes (levels - 1)))
unfolding make_within
make_more classes zero some = absurd (some refl)
make_more classes (suc levels) some = rw sub-one refl

-- the class at a place
pub class_there : (p : Program) (k : ℕ) → slice_get (classes_of p) k ≡ option_map (class_of p) (slice_get p.classes k)
class_there p k = there p.classes k
  where
    there : (cs : List ClassForm) (k : ℕ) → slice_get (map (class_of p) cs) k ≡ option_map (class_of p) (slice_get cs k)
    there [] k = refl
    there (c ∷ cs) zero = refl
    there (c ∷ cs) (suc k) = there cs k

-- what is run when the arguments of a call are bound
abbrev pub run_of : Program → ℕ → Run
run_of p zero line at c values = fault line (kind.Limit limit.Depth)
run_of p (suc levels) line at c values = module_run (makes p levels) line at c values

pub run_more : (p : Program) (levels : ℕ) → levels ≢ 0 → run_of p levels ≡ module_run (makes p (levels - 1))
run_more p zero some = absurd (some refl)
run_more p (suc levels) some = rw sub-one refl

-- a class that isn't there
pub made_nothing : (p : Program) (levels line at : ℕ) (args : Arguments) (m : Machine) → slice_get p.classes at ≡ None → makes p levels line at args m ≡ fault line kind.WrongKind m
unfolding make_within class_called
made_nothing p zero line at args m is = rw (class_there p at, is) refl
made_nothing p (suc levels) line at args m is = rw (class_there p at, is) refl

-- one that is
pub made_bound : (p : Program) (levels line at : ℕ) (args : Arguments) (c : ClassForm) (m : Machine) → slice_get p.classes at ≡ Some c → makes p levels line at args m ≡ go_on (bound_to line (map param_of (class_of p c).params) args m) (run_of p levels line at (class_of p c))
unfolding make_within class_called
made_bound p zero line at args c m is = rw (class_there p at, is) refl
made_bound p (suc levels) line at args c m is = rw (class_there p at, is) refl

-- arguments that do not fit
pub made_stops : (r : Refusal) (p : Program) (levels line at : ℕ) (args : Arguments) (c : ClassForm) (m : Machine) → slice_get p.classes at ≡ Some c → Stops r (bound_to line (map param_of (class_of p c).params) args m) → Stops r (makes p levels line at args m)
made_stops refusal.NoMemory p levels line at args c m is stop = tt
made_stops (refusal.Fault f) p levels line at args c m is stop = made_bound p levels line at args c m is ∙ ap (λ r. go_on r (run_of p levels line at (class_of p c))) stop

-- one level too many
pub made_limit : (r : Refusal) (p : Program) (levels line at : ℕ) (args : Arguments) (c : ClassForm) (values : List (Option Value)) (m n : Machine) → levels ≡ 0 → slice_get p.classes at ≡ Some c → bound_to line (map param_of (class_of p c).params) args m ≡ Ok (values, n) → IsFault r line (kind.Limit limit.Depth) → Stops r (makes p levels line at args m)
made_limit refusal.NoMemory p levels line at args c values m n none is ran h = tt
made_limit (refusal.Fault f) p levels line at args c values m n none is ran h =
    ap (λ (l : ℕ). makes p l line at args m) none ∙ made_bound p 0 line at args c m is ∙ ap (λ r. go_on r (run_of p 0 line at (class_of p c))) ran ∙ ap (λ e. Err e) (sym h)

pub made_further : (p : Program) (levels line at : ℕ) (args : Arguments) (c : ClassForm) (values : List (Option Value)) (m n : Machine) → levels ≢ 0 → slice_get p.classes at ≡ Some c → bound_to line (map param_of (class_of p c).params) args m ≡ Ok (values, n) → makes p levels line at args m ≡ module_run (makes p (levels - 1)) line at (class_of p c) values n
made_further p levels line at args c values m n some is ran =
    made_bound p levels line at args c m is ∙ ap (λ r. go_on r (run_of p levels line at (class_of p c))) ran ∙ ap (λ (run : Run). run line at (class_of p c) values n) (run_more p levels some)
