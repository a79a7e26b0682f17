use Rattle.std.proofs.Common.{set, ap, rules, ◌∙◌, ◌≡◌}
use Rattle.std.specs.Prelude.{ℤ, pos, List, slice_index_or}
use Rattle.std.proofs.lemmas.Int.{to_z-of_z}
use mir.Syntax.{w128}
use mir.Val.{SFits, of_z, to_z}
use Rattle.lx_circuit.specs.Values.{count_of}
use Rattle.lx_sim.specs.Writing.{within}
use Rattle.lx_sim.proofs.Writing.{word_put}
use Rattle.lx_sim.proofs.words.put_word.Goals as goal

pub returns-in-Some : goal.returns-in-Some
returns-in-Some c =
    let fits : SFits w128 c.item.result = search rules in
    let new_fits : SFits w128 c.put_over-new.result = search rules in
    let put : to_z w128 (of_z w128 c.put_over-new.result) ≡ c.put_over-new.result = to_z-of_z w128 c.put_over-new.result new_fits in
    let same : to_z w128 (of_z w128 c.item.result) ≡ c.item.result = to_z-of_z w128 c.item.result fits in
    word_put _ _ _ _ _ _ (c.in-Some.ensures ∙ ap (λ n. within n (count_of c.args.put.at)) c.len.ensures) (c.item.ensures ∙ ap (λ (xs : List ℤ). slice_index_or xs c.in-Some.k (pos 0)) c.as_slice.ensures) (λ p e. c.put_over-new.ensures p (same ∙ e))
    (c.replace.ensures.after ∙ ap (λ (z : ℤ). set c.args.words.now c.in-Some.k z) put)
