-- Going through classes, and through their parameters, one by one.
use Rattle.std.proofs.Common.{◌≡◌, ◌∙◌, ◌++◌, append_assoc, ℕ, zero, suc, ◌+◌, ◌<◌, ◌≤◌, nat_eq, Bool, true, false, List, [], ◌∷◌, length, map, drop, Option, Some, None, slice_get, get_or, Ok, Err, refl, sym, ap, arith, add-one, drop-cons, eq-eqb}
use Rattle.std.proofs.Math.Dec.{eqb-suc-suc, eqb-zero-suc}
use Rattle.std.proofs.lemmas.Option.{get_or_from_slice_get, slice_get_within}
use Rattle.std.proofs.lemmas.List.{drop_all, length-map}
use Rattle.lx_value.specs.declared.arguments.Param.{Param}
use Rattle.lx_syntax.specs.declared.forms.ClassForm.{ClassForm}
use Rattle.lx_syntax.specs.declared.forms.Parameter.{Parameter}
use Rattle.lx_syntax.specs.declared.forms.Program.{Program}
use Rattle.lx_text.specs.declared.faults.Refusal.{Refusal}
use Rattle.lx_text.specs.declared.faults.Refusal.TheVariants as refusal
use Rattle.lx_syntax.specs.Ast as ast
use Rattle.lx_syntax.specs.Ast.{Class, Expr}
use Rattle.lx_syntax.specs.Forms.{bound_at, class_of, classes_of, param_at}
use Rattle.lx_state.specs.declared.machine.Machine.{Machine}
use Rattle.lx_state.specs.declared.values.Value.{Value}
use Rattle.lx_state.specs.Step.{Outcome, Stops, give, go_on}
use Rattle.lx_run.specs.Calls.{Make}
use Rattle.lx_run.specs.Classes.{all_have_defaults, class_run, classes_run, default_run, defaults_run, is_end, is_none, param_of}
use Rattle.lx_run.proofs.Steps.{go_on_go_on, go_on_same}

from_place : {A : Type 0} (xs : List A) (k : ℕ) (d : A) → k < length xs → drop k xs ≡ get_or xs k d ∷ drop (k + 1) xs
from_place xs k d h = drop-cons xs k d h ∙ ap (λ (j : ℕ). get_or xs k d ∷ drop j xs) (sym (add-one k))

-- ---- parameters

pub without_default : (src : List ℕ) (f : ℕ → Expr) (ps : List Parameter) (k : ℕ) (d : Parameter) → k < length ps → is_none (bound_at f (get_or ps k d).default) ≡ true → all_have_defaults (map (param_at src f) (drop k ps)) ≡ false
without_default src f ps k d h e = rw (from_place ps k d h, e) refl

pub with_default : (src : List ℕ) (f : ℕ → Expr) (ps : List Parameter) (k : ℕ) (d : Parameter) → k < length ps → is_none (bound_at f (get_or ps k d).default) ≡ false → all_have_defaults (map (param_at src f) (drop k ps)) ≡ all_have_defaults (map (param_at src f) (drop (k + 1) ps))
with_default src f ps k d h e = rw (from_place ps k d h, e) refl

-- what the next parameter takes stands behind what those so far take
pub params_next : (src : List ℕ) (f : ℕ → Expr) (ps : List Parameter) (k : ℕ) (d : Parameter) (made : List Param) → k < length ps → (made ++ param_of (param_at src f (get_or ps k d)) ∷ []) ++ map param_of (map (param_at src f) (drop (k + 1) ps)) ≡ made ++ map param_of (map (param_at src f) (drop k ps))
params_next src f ps k d made h =
    let rest : List Param = map param_of (map (param_at src f) (drop (k + 1) ps)) in
    append_assoc made (param_of (param_at src f (get_or ps k d)) ∷ []) rest ∙ ap (λ (qs : List Parameter). made ++ map param_of (map (param_at src f) qs)) (sym (from_place ps k d h))

-- ---- classes

-- nothing stands behind the last place alone
end_is : (f : ClassForm → Class) (cs : List ClassForm) (k : ℕ) → k < length cs → is_end (map f (drop (suc k) cs)) ≡ nat_eq (suc k) (length cs)
end_is f [] k h = absurd (omega arith)
end_is f (c ∷ []) zero h = sym (eq-eqb 1 (length (c ∷ [])) refl)
end_is f (c ∷ d ∷ cs) zero h = sym (eqb-suc-suc zero (suc (length cs)) ∙ eqb-zero-suc (length cs))
end_is f (c ∷ cs) (suc k) h = end_is f cs k (omega arith) ∙ sym (eqb-suc-suc (suc k) (length cs))

pub classes_more : (make : Make) (f : ClassForm → Class) (cs : List ClassForm) (k : ℕ) (c : ClassForm) (m : Machine) → slice_get cs k ≡ Some c → classes_run make (map f (drop k cs)) m ≡ go_on (class_run make (nat_eq (k + 1) (length cs)) (f c) m) (λ _. classes_run make (map f (drop (k + 1) cs)))
unfolding classes_run
classes_more make f cs k c m is =
    let l : k < length cs = slice_get_within cs k c is in
    let next : drop k cs ≡ c ∷ drop (k + 1) cs = from_place cs k c l ∙ ap (λ d. d ∷ drop (k + 1) cs) (get_or_from_slice_get cs k c c is) in
    rw (next, add-one, end_is f cs k l) refl

pub classes_done : (make : Make) (f : ClassForm → Class) (cs : List ClassForm) (k : ℕ) (m : Machine) → length cs ≤ k → classes_run make (map f (drop k cs)) m ≡ give tt m
unfolding classes_run
classes_done make f cs k m h = rw drop_all refl

pub count_is : (p : Program) → length (classes_of p) ≡ length p.classes
count_is p = length-map p.classes (class_of p)

-- a turn of the loop over classes
pub classes_next : (make : Make) (f : ClassForm → Class) (cs : List ClassForm) (k : ℕ) (c : ClassForm) (last : Bool) (u : Unit {0}) (m n : Machine) → slice_get cs k ≡ Some c → last ≡ nat_eq (k + 1) (length cs) → class_run make last (f c) m ≡ Ok (u, n) → classes_run make (map f (drop k cs)) m ≡ classes_run make (map f (drop (k + 1) cs)) n
classes_next make f cs k c last u m n is ends ran =
    classes_more make f cs k c m is ∙ ap (λ r. go_on r (λ _. classes_run make (map f (drop (k + 1) cs)))) (ap (λ (b : Bool). class_run make b (f c) m) (sym ends) ∙ ran)

-- one that fails
pub classes_stop : (r : Refusal) (make : Make) (f : ClassForm → Class) (cs : List ClassForm) (k : ℕ) (c : ClassForm) (last : Bool) (m : Machine) → slice_get cs k ≡ Some c → last ≡ nat_eq (k + 1) (length cs) → Stops r (class_run make last (f c) m) → Stops r (classes_run make (map f (drop k cs)) m)
classes_stop refusal.NoMemory make f cs k c last m is ends stop = tt
classes_stop (refusal.Fault e) make f cs k c last m is ends stop =
    classes_more make f cs k c m is ∙ ap (λ r. go_on r (λ _. classes_run make (map f (drop (k + 1) cs)))) (ap (λ (b : Bool). class_run make b (f c) m) (sym ends) ∙ stop)

-- ---- defaults

defaults_more : (make : Make) (g : Parameter → ast.Param) (ps : List Parameter) (k : ℕ) (d : Parameter) (m : Machine) → k < length ps → defaults_run make (map g (drop k ps)) m ≡ go_on (default_run make (g (get_or ps k d)).default m) (λ v n. go_on (defaults_run make (map g (drop (k + 1) ps)) n) (λ vs. give (v ∷ vs)))
unfolding defaults_run
defaults_more make g ps k d m l = rw (from_place ps k d l) refl

-- a turn of the loop over parameters
pub defaults_next : (make : Make) (g : Parameter → ast.Param) (ps : List Parameter) (k : ℕ) (d : Parameter) (made : List (Option Value)) (v : Option Value) (m n : Machine) → k < length ps → default_run make (g (get_or ps k d)).default m ≡ Ok (v, n) → go_on (defaults_run make (map g (drop k ps)) m) (λ vs. give (made ++ vs)) ≡ go_on (defaults_run make (map g (drop (k + 1) ps)) n) (λ vs. give ((made ++ v ∷ []) ++ vs))
defaults_next make g ps k d made v m n l ran =
    let rest : Outcome (List (Option Value)) = defaults_run make (map g (drop (k + 1) ps)) n in
    ap (λ r. go_on r (λ vs. give (made ++ vs))) (defaults_more make g ps k d m l ∙ ap (λ r. go_on r (λ v n. go_on (defaults_run make (map g (drop (k + 1) ps)) n) (λ vs. give (v ∷ vs)))) ran)
    ∙ go_on_go_on rest (λ vs. give (v ∷ vs)) (λ vs. give (made ++ vs))
    ∙ go_on_same rest (λ vs. give (made ++ v ∷ vs)) (λ vs. give ((made ++ v ∷ []) ++ vs)) (λ vs j. ap (λ (xs : List (Option Value)). give xs j) (sym (append_assoc made (v ∷ []) vs)))

-- one that fails
pub defaults_stop : (r : Refusal) (make : Make) (g : Parameter → ast.Param) (ps : List Parameter) (k : ℕ) (d : Parameter) (made : List (Option Value)) (m : Machine) → k < length ps → Stops r (default_run make (g (get_or ps k d)).default m) → Stops r (go_on (defaults_run make (map g (drop k ps)) m) (λ vs. give (made ++ vs)))
defaults_stop refusal.NoMemory make g ps k d made m l stop = tt
defaults_stop (refusal.Fault e) make g ps k d made m l stop =
    ap (λ r. go_on r (λ vs. give (made ++ vs))) (defaults_more make g ps k d m l ∙ ap (λ r. go_on r (λ v n. go_on (defaults_run make (map g (drop (k + 1) ps)) n) (λ vs. give (v ∷ vs)))) stop)
