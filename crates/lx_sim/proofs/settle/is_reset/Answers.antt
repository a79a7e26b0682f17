use Rattle.std.proofs.Common.{◌∙◌, sym, ap, arith}
use Rattle.lx_emission.proofs.Blocks.{reset_within}
use Rattle.lx_sim.specs.Evaluating.{domain_reset, is_reset_by}
use Rattle.lx_sim.proofs.settle.is_reset.Goals as goal

pub is_set-requires : goal.is_set-requires
is_set-requires c = let l = reset_within _ c.requires.plan.keeps _ _ (ap domain_reset c.at.ensures ∙ c.in-Some.is) in omega (arith, l, c.requires.long)

pub returns-in-Some : goal.returns-in-Some
returns-in-Some c = c.is_set.ensures ∙ sym (ap (is_reset_by c.args.vals.now) (ap domain_reset c.at.ensures ∙ c.in-Some.is))

pub returns-in-None : goal.returns-in-None
returns-in-None c = sym (ap (is_reset_by c.args.vals.now) (ap domain_reset c.at.ensures ∙ c.in-None.is))
