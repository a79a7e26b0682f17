-- What is told of the FSMs of a description.
use Rattle.std.proofs.Common.{◌≡◌, refl, sym, ap, ◌∙◌, subst, Bool, true, ℕ, ◌<◌, ◌≤◌, List, [], ◌∷◌, take, Option, Some, None, Result, Ok, Err, length, zero, suc, arith}
use Rattle.std.specs.Prelude.{flat_map, get_or}
use Rattle.std.specs.List.{list_all}
use Rattle.std.proofs.lemmas.Bool.{and_parts}
use Rattle.lx_text.specs.declared.faults.Fault.{Fault}
use Rattle.lx_text.specs.declared.faults.Refusal.{Refusal}
use Rattle.lx_text.specs.declared.faults.Refusal.TheVariants as refusal
use Rattle.lx_alloc.proofs.Judging.{flat_exit_at}
use Rattle.lx_alloc.specs.Judged.{Refused, first}
use Rattle.lx_description.specs.Below.{all_fsm_below}
use Rattle.lx_description.specs.declared.description.Description.{Description}
use Rattle.lx_description.specs.declared.fsms.FsmDecl.{FsmDecl}
use Rattle.lx_description.specs.declared.fsms.StateDecl.{StateDecl}
use Rattle.lx_describe.specs.Answers.{IsRefusedBy}
use Rattle.lx_fsm.proofs.Naming.{all_seen}
use Rattle.lx_fsm.specs.Decls.{fsm_of}
use Rattle.lx_fsm.specs.Machine.{faults}
use Rattle.lx_fsm.specs.Lowers.{HasBodies}
use Rattle.lx_elab.specs.Elaboration.{checked}
use Rattle.lx_elab.specs.Fsms.{fsm_faults, has_bodies, unless}

-- no fault, and the first one
pub none_found : (d : Description) → fsm_faults d ≡ [] → checked d ≡ Ok d
none_found d e = ap (λ (fs : List Fault). unless d (first fs)) e

pub found : (r : Refusal) (d : Description) → Refused (fsm_faults d) r → IsRefusedBy r (checked d)
found (refusal.Fault f) d told = ap (λ (o : Option Fault). unless d o) told
found refusal.NoMemory d told = tt

-- ---- the statements of one FSM among others

states_are : (n : ℕ) (ss : List StateDecl) → list_all (λ (s : StateDecl). all_fsm_below n s.body) ss ≡ true → HasBodies n ss
states_are n [] e = tt
states_are n (s ∷ ss) e =
    let p = and_parts (all_fsm_below n s.body) (list_all (λ (t : StateDecl). all_fsm_below n t.body) ss) e in
    (p.0, states_are n ss p.1)

all_at : (n : ℕ) (fs : List FsmDecl) (i : ℕ) (d : FsmDecl) → list_all (has_bodies n) fs ≡ true → i < length fs → has_bodies n (get_or fs i d) ≡ true
all_at n [] i d e l = absurd (omega (arith, l))
all_at n (f ∷ fs) zero d e l = (and_parts (has_bodies n f) (list_all (has_bodies n) fs) e).0
all_at n (f ∷ fs) (suc i) d e l = all_at n fs i d (and_parts (has_bodies n f) (list_all (has_bodies n) fs) e).1 (omega (arith, l))

pub bodies_at : (n : ℕ) (fs : List FsmDecl) (i : ℕ) (f : FsmDecl) → list_all (has_bodies n) fs ≡ true → i < length fs → f ≡ get_or fs i f → HasBodies n f.states
bodies_at n fs i f e l is = states_are n f.states (ap (has_bodies n) is ∙ all_at n fs i f e l)

-- ---- one FSM after another

abbrev pub own_faults : Description → FsmDecl → List Fault
own_faults d f = faults (fsm_of d.design d.fsm_stmts f) f.line

pub seen_all : (d : Description) (fs : List FsmDecl) (k : ℕ) → fs ≡ d.fsms → length fs ≤ k → flat_map (own_faults d) (take k fs) ≡ [] → fsm_faults d ≡ []
seen_all d fs k e l h = subst (λ (q : List FsmDecl). flat_map (own_faults d) q ≡ []) e (all_seen (own_faults d) fs k l h)

pub seen_exit : (d : Description) (fs : List FsmDecl) (k : ℕ) (f : FsmDecl) (x : Refusal) → fs ≡ d.fsms → k < length fs → f ≡ get_or fs k f → flat_map (own_faults d) (take k fs) ≡ [] → Refused (own_faults d f) x → Refused (fsm_faults d) x
seen_exit d fs k f x e l is h n = subst (λ (q : List FsmDecl). Refused (flat_map (own_faults d) q) x) e (flat_exit_at (own_faults d) fs k f x l is h n)
