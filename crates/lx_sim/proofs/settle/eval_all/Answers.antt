use Rattle.std.proofs.Common.{◌+◌, get_or, set, sym, subst, rules, arith}
use Rattle.std.specs.Prelude.{ℤ}
use Rattle.std.proofs.lemmas.Int.{to_z-of_z}
use Rattle.std.proofs.lemmas.Option.{slice_get-get_or}
use mir.Syntax.{w128}
use mir.Val.{SFits}
use Rattle.lx_sim.proofs.Evaluation.{EvaluatesTo, evaluated_all, evaluated_more, evaluated_none}
use Rattle.lx_sim.proofs.settle.eval_all.Goals as goal

pub loop-place-init : goal.loop-place-init
loop-place-init g c = record { values = evaluated_none _ _ _ _ _ c.requires.fit; few = omega arith; cost = omega arith }

pub eval-requires-clause-there : goal.eval-requires-clause-there
eval-requires-clause-there g c = c.requires.there c.loop-place.place-index _ (slice_get-get_or _ _ _ c.loop-place-test.true)

pub loop-place-preserved : goal.loop-place-preserved
loop-place-preserved g c =
    let found = slice_get-get_or _ _ _ c.loop-place-test.true in
    let fits : SFits w128 c.eval.result = search rules in
    record {
      values =
          subst (λ (z : ℤ). EvaluatesTo c.args.plan.now c.args.places.now (c.loop-place.place-index + 1) c.args.vals.now c.args.words.now c.args.known.now (set c.loop-place.known (get_or c.args.places.now c.loop-place.place-index 0) z)) (sym (to_z-of_z w128 c.eval.result fits))
          (evaluated_more _ _ _ _ _ _ _ _ _ c.requires.plan c.requires.rising c.loop-place.invariant.values found (c.requires.there c.loop-place.place-index _ found) c.eval.ensures.value c.eval.ensures.fits);
      few = omega arith;
      cost = omega (arith, c.eval.ensures.cost, c.loop-place.invariant.cost);
    }

pub returns-clause-values : goal.returns-clause-values
returns-clause-values g c = evaluated_all _ _ _ _ _ _ _ c.loop-place-test.false c.loop-place.invariant.values

pub returns-clause-cost : goal.returns-clause-cost
returns-clause-cost g c = omega (arith, c.loop-place.invariant.cost, c.loop-place.invariant.few)
