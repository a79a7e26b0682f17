use Rattle.std.proofs.Common.{◌∙◌, sym, ap, subst, rules, arith}
use Rattle.std.specs.Prelude.{ℤ, Some}
use Rattle.std.proofs.lemmas.Int.{to_z-of_z}
use mir.Syntax.{w128}
use mir.Val.{SFits}
use Rattle.lx_num.specs.Ints.{Fits, unsigned, wrapped}
use Rattle.lx_circuit.specs.Values.{count_of}
use Rattle.lx_fhdl.specs.Nodes.{shape_at}
use Rattle.lx_sim.specs.Words.{word_at}
use Rattle.lx_sim.proofs.Evaluation.{children_fit, fetch_fits, fetch_is, fetch_there, index_there, plain_is, plan_shaped}
use Rattle.lx_sim.proofs.settle.eval.Goals as goal

pub known_at-requires : goal.known_at-requires
known_at-requires g c = index_there _ _ _ _ _ _ _ c.requires.plan c.requires.fit (c.get.ensures.item ∙ ap Some c.in-Fetch.is)

pub fetched-requires-clause-there : goal.fetched-requires-clause-there
fetched-requires-clause-there g c = let all = (fetch_there _ _ _ _ _ c.requires.plan (c.get.ensures.item ∙ ap Some c.in-Fetch.is)).0 in omega (arith, all, c.requires.words.memories)

pub fetched-requires-clause-some : goal.fetched-requires-clause-some
fetched-requires-clause-some g c = (fetch_there _ _ _ _ _ c.requires.plan (c.get.ensures.item ∙ ap Some c.in-Fetch.is)).1

pub fetched-requires-clause-most : goal.fetched-requires-clause-most
fetched-requires-clause-most g c = let most = (fetch_there _ _ _ _ _ c.requires.plan (c.get.ensures.item ∙ ap Some c.in-Fetch.is)).2 in omega (arith, most)

pub eval_node-requires-clause-place : goal.eval_node-requires-clause-place
eval_node-requires-clause-place g c = omega (arith, c.requires.plan.exprs.long)

pub eval_node-requires-clause-shaped : goal.eval_node-requires-clause-shaped
eval_node-requires-clause-shaped g c = rw c.as_slice.ensures (plan_shaped _ _ _ c.requires.plan c.requires.fit)

pub eval_node-requires-clause-long : goal.eval_node-requires-clause-long
eval_node-requires-clause-long g c = omega (arith, c.requires.plan.exprs.long, c.requires.fit.exprs)

pub eval_node-requires-clause-children : goal.eval_node-requires-clause-children
eval_node-requires-clause-children g c = λ x e. rw c.as_slice.ensures (children_fit _ _ _ _ _ c.requires.plan c.requires.fit e)

pub returns-in-Fetch-clause-value : goal.returns-in-Fetch-clause-value
returns-in-Fetch-clause-value g c =
    let at_fits : SFits w128 c.known_at.result = search rules in
    let fits : SFits w128 c.fetched.result = search rules in
    let word = ap (λ (z : ℤ). wrapped (unsigned c.in-Fetch.width) (word_at c.args.words.now c.in-Fetch.memory (count_of z))) (to_z-of_z w128 c.known_at.result at_fits) in
    λ x e. to_z-of_z w128 c.fetched.result fits ∙ fetch_is c.args.plan.now c.args.vals.now c.args.words.now c.args.known.now c.args.place c.in-Fetch.memory c.in-Fetch.width c.in-Fetch.at c.known_at.result c.fetched.result (c.get.ensures.item ∙ ap Some c.in-Fetch.is) c.known_at.ensures (c.fetched.ensures ∙ word) x e

pub returns-in-Fetch-clause-fits : goal.returns-in-Fetch-clause-fits
returns-in-Fetch-clause-fits g c =
    let fits : SFits w128 c.fetched.result = search rules in
    subst (λ (z : ℤ). Fits (shape_at c.args.plan.now.shapes c.args.place) z) (sym (to_z-of_z w128 c.fetched.result fits)) (fetch_fits _ _ _ _ _ _ _ c.requires.plan (c.get.ensures.item ∙ ap Some c.in-Fetch.is) c.fetched.ensures)

pub returns-in_default-clause-value : goal.returns-in_default-clause-value
returns-in_default-clause-value g c =
    let fits : SFits w128 c.eval_node.result = search rules in
    λ x e. to_z-of_z w128 c.eval_node.result fits ∙ plain_is _ _ _ _ _ _ c.eval_node.result c.requires.plan c.get.ensures.item c.in_default.not-Fetch (rw c.as_slice.ensures at c.eval_node.ensures.value) x e

pub returns-in_default-clause-fits : goal.returns-in_default-clause-fits
returns-in_default-clause-fits g c =
    let fits : SFits w128 c.eval_node.result = search rules in
    subst (λ (z : ℤ). Fits (shape_at c.args.plan.now.shapes c.args.place) z) (sym (to_z-of_z w128 c.eval_node.result fits)) (rw c.as_slice.ensures at c.eval_node.ensures.fits)
