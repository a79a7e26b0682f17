use Rattle.std.proofs.Common.{List, ap, subst, sym, rules, FitsSigned}
use Rattle.std.specs.Int.{w128}
use Rattle.std.proofs.lemmas.Int.{to_z-of_z}
use Rattle.lx_fhdl.specs.declared.design.Signal.{Signal}
use Rattle.lx_fhdl.specs.Drafts.{IsDraft}
use Rattle.lx_fsm.proofs.Reopened.{reset_draft, reset_put}
use Rattle.lx_fsm.proofs.growing.Growing.set_reset.Goals as goal

pub invariant_of-self : goal.invariant_of-self
invariant_of-self c =
    let fits : FitsSigned w128 c.args.reset = search rules in
    subst (λ (ss : List Signal). IsDraft (record c.self.inside.design { signals = ss }))
    (sym (reset_put _ _ _ _ _ _ _ _ (to_z-of_z w128 c.args.reset fits) c.replace-signal.ensures.before c.replace-signal.ensures.after c.replace.ensures.after))
    (reset_draft c.self.inside.design c.args.reset c.args.x.0 (rw (← c.self.view_is) at c.requires.fits) c.self.invariant)

pub returns : goal.returns
returns c =
    let fits : FitsSigned w128 c.args.reset = search rules in
    rw (← c.self.view_is)
    (ap (λ (ss : List Signal). record c.self.inside.design { signals = ss })
    (reset_put _ _ _ _ _ _ _ _ (to_z-of_z w128 c.args.reset fits) c.replace-signal.ensures.before c.replace-signal.ensures.after c.replace.ensures.after))
