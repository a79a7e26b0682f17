use Rattle.std.proofs.Common.{◌∙◌, ◌+◌, ℕ, List, [], length, sym, ap, subst, rules, arith}
use Rattle.std.proofs.lemmas.Option.{get_or_from_slice_get}
use Rattle.std.proofs.lemmas.Int.{to_z-of_z}
use mir.Syntax.{w128}
use mir.Val.{SFits}
use Rattle.lx_sim.specs.Evaluating.{IsCombValue}
use Rattle.lx_sim.proofs.Buckets.{bucket_rising, bucket_there}
use Rattle.lx_sim.proofs.Settling.{place_settles}
use Rattle.lx_sim.proofs.settle.settle_place.Goals as goal

pub at-requires : goal.at-requires
at-requires g c = let long = c.requires.plan.buckets.stand.long in omega (arith, long)

pub eval_all-requires-clause-rising : goal.eval_all-requires-clause-rising
eval_all-requires-clause-rising g c = rw c.as_slice.ensures (bucket_rising _ _ _ c.requires.plan c.at.ensures)

pub eval_all-requires-clause-there : goal.eval_all-requires-clause-there
eval_all-requires-clause-there g c = rw c.as_slice.ensures (bucket_there _ _ _ c.requires.plan c.at.ensures)

pub comb_value-requires-clause-there : goal.comb_value-requires-clause-there
comb_value-requires-clause-there g c = c.requires.plan.below _ _ c.at-x.ensures

pub returns-clause-values : goal.returns-clause-values
returns-clause-values g c =
    let fits : SFits w128 c.comb_value.result = search rules in
    place_settles _ _ _ _ _ _ _ _ _ c.requires.plan c.at-x.ensures c.at.ensures (rw c.as_slice.ensures at c.eval_all.ensures.values)
    (subst (IsCombValue c.args.plan.now.design c.at-x.result.now c.args.vals.now c.eval_all.new.known) (sym (to_z-of_z w128 c.comb_value.result fits)) c.comb_value.ensures)

pub returns-clause-cost : goal.returns-clause-cost
returns-clause-cost g c = c.eval_all.ensures.cost ∙ ap (λ (b : List ℕ). c.args.steps.now + length b) (c.as_slice.ensures ∙ sym (get_or_from_slice_get c.args.plan.now.buckets c.args.place c.at.result.now [] c.at.ensures))
