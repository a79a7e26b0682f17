use Rattle.std.proofs.Common.{◌≡◌, ◌∙◌, ◌+◌, ℕ, nat_eq, sym, ap, subst, rules}
use Rattle.lx_syntax.specs.Forms.{class_of, classes_of}
use Rattle.lx_state.specs.Step.{Outcome, Stops}
use Rattle.lx_run.specs.Classes.{classes_run}
use Rattle.lx_run.specs.Meant.{makes}
use Rattle.lx_run.proofs.Going.{classes_next, classes_stop}
use Rattle.lx_run.proofs.classes.classes_run.Goals as goal

pub returns-in_err-class_run : goal.returns-in_err-class_run
returns-in_err-class_run c =
    let stop = classes_stop c.in_err-class_run.field-0.0 (makes c.args.syntax.now c.args.depth.classes) (class_of c.args.syntax.now) c.args.syntax.now.classes c.loop-place.place c.class_in-class.result.now _ c.loop-place.machine c.class_in-class.ensures.class (ap (λ (n : ℕ). nat_eq (c.loop-place.place + 1) n) c.class_count-count.ensures) c.in_err-class_run.ensures in
    let whole : Stops c.in_err-class_run.field-0.0 (classes_run (makes c.args.syntax.now c.args.depth.classes) (classes_of c.args.syntax.now) c.args.machine.now) = subst (λ o. Stops c.in_err-class_run.field-0.0 o) c.loop-place.invariant stop in
    search (rules, whole)

pub loop-place-preserved : goal.loop-place-preserved
loop-place-preserved c =
    sym (classes_next (makes c.args.syntax.now c.args.depth.classes) (class_of c.args.syntax.now) c.args.syntax.now.classes c.loop-place.place c.class_in-class.result.now _ c.in_ok-class_run.field-0 c.loop-place.machine c.class_run.new.machine c.class_in-class.ensures.class (ap (λ (n : ℕ). nat_eq (c.loop-place.place + 1) n) c.class_count-count.ensures) c.in_ok-class_run.ensures) ∙ c.loop-place.invariant
