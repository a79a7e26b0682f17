-- Texts with the same classes, and descriptions whose designs are tested.
use Rattle.std.proofs.Common.{◌≡◌, refl, Bool, true, false, ◌&&◌, List, Result, Ok, Err, ap, subst, sym, ◌∙◌}
use Rattle.std.proofs.lemmas.Bool.{and_parts}
use Rattle.lx_text.specs.declared.faults.Fault.{Fault}
use Rattle.lx_text.specs.declared.faults.Kind.TheVariants as kind
use Rattle.lx_text.specs.declared.faults.Refusal.{Refusal}
use Rattle.lx_text.specs.declared.faults.Refusal.TheVariants as refusal
use Rattle.lx_syntax.specs.Ast as ast
use Rattle.lx_state.specs.Step.{IsFault}
use Rattle.lx_state.specs.declared.machine.Machine.{Machine}
use Rattle.lx_description.specs.declared.description.Description.{Description}
use Rattle.lx_describe.specs.Answers.{Answers, IsRefusedBy}
use Rattle.lx_describe.specs.Start.{start}
use Rattle.lx_fhdl.specs.Keeping.{Keeps}
use Rattle.lx_fhdl.specs.Kept.{is_kept}
use Rattle.lx_fhdl.proofs.Kept.{is_kept-is}
use Rattle.lx_elab.specs.Elaboration.{after, built, described_under, elaborated, untested}
use Rattle.lx_elab.specs.Fsms.{bodies_there}

-- what answers for some classes answers for the same ones
pub same_classes : (r : Result Description Refusal) (cs ds : List ast.Class) → cs ≡ ds → Answers r (elaborated cs) → Answers r (elaborated ds)
same_classes r cs ds e answers = let P : List ast.Class → Type 0 = λ xs. Answers r (elaborated xs) in subst P e answers

-- what is described under the machine in which nothing was made
pub started : (r : Result Description Refusal) (cs : List ast.Class) (m : Machine) → m ≡ start → Answers r (described_under m cs) → Answers r (untested cs)
started r cs m e answers = let P : Machine → Type 0 = λ n. Answers r (described_under n cs) in subst P e answers

-- the fault before is that of what comes after
pub after_stopped : (f : Description → Result Description Fault) (r : Refusal) (outcome : Result Description Fault) → IsRefusedBy r outcome → IsRefusedBy r (after f outcome)
after_stopped f (refusal.Fault e) outcome is = ap (after f) is
after_stopped f refusal.NoMemory outcome is = tt

pub after_next : (f : Description → Result Description Fault) (r : Result Description Refusal) (outcome : Result Description Fault) (d : Description) → outcome ≡ Ok d → Answers r (f d) → Answers r (after f outcome)
after_next f r outcome d is answers = rw is answers

-- ---- tests

pub first_fails : (a b : Bool) → a ≡ false → false ≡ (a && b)
first_fails a b e = rw e refl

pub first_passes : (a b : Bool) → a ≡ true → b ≡ (a && b)
first_passes a b e = rw e refl

-- a design that passes the test keeps what designs keep, and the other test passes too
pub design_holds : (d : Description) (b : Bool) → b ≡ (is_kept d.design && bodies_there d) → b ≡ true → Keeps d.design
design_holds d b is passes = is_kept-is d.design (and_parts (is_kept d.design) (bodies_there d) (sym is ∙ passes)).0

pub design_passes : (d : Description) (b : Bool) → b ≡ (is_kept d.design && bodies_there d) → b ≡ true → is_kept d.design ≡ true
design_passes d b is passes = (and_parts (is_kept d.design) (bodies_there d) (sym is ∙ passes)).0

pub bodies_hold : (d : Description) (b : Bool) → b ≡ (is_kept d.design && bodies_there d) → b ≡ true → bodies_there d ≡ true
bodies_hold d b is passes = (and_parts (is_kept d.design) (bodies_there d) (sym is ∙ passes)).1

-- a description that passes a test is answered as it is, another is not built
pub passed : (t b : Bool) (d : Description) → b ≡ t → b ≡ true → built t d ≡ Ok d
passed t b d is e = ap (λ (u : Bool). built u d) (sym is ∙ e)

pub refused : (r : Refusal) (t b : Bool) (d : Description) → b ≡ t → b ≡ false → IsFault r 0 kind.NotYetBuilt → IsRefusedBy r (built t d)
refused (refusal.Fault f) t b d is e fault =
    let P : Fault → Type 0 = λ g. built t d ≡ Err g in
    subst P (sym fault) (ap (λ (u : Bool). built u d) (sym is ∙ e))
refused refusal.NoMemory t b d is e fault = tt
