use Rattle.std.proofs.Common.{refl, rules, sym, ◌∙◌, ap}
use Rattle.std.proofs.lemmas.Int.{to_z-of_z}
use mir.Syntax.{w128}
use mir.Val.{SFits}
use Rattle.lx_circuit.specs.Memories.{Memory}
use Rattle.lx_sheet.proofs.Remembered.{memory_is}
use Rattle.lx_sim.proofs.Writing.{is_put}
use Rattle.lx_sim.proofs.words.put_of.Goals as goal

pub returns-in-Some-we : goal.returns-in-Some-we
returns-in-Some-we c =
    let at_fits : SFits w128 c.item.result = search rules in
    let we_fits : SFits w128 c.item-in-Some-we.result = search rules in
    let from_fits : SFits w128 c.item-in-Some-we-2.result = search rules in
    is_put _ _ _ _ _ _ _ c.requires.port (sym c.is_port_rising.ensures ∙ c.if-not-is_port_rising.false) c.in-Some.is c.in-Some-we.is (to_z-of_z w128 c.item.result at_fits ∙ c.item.ensures)
    (to_z-of_z w128 c.item-in-Some-we.result we_fits ∙ c.item-in-Some-we.ensures) (to_z-of_z w128 c.item-in-Some-we-2.result from_fits ∙ c.item-in-Some-we-2.ensures) refl (sym (ap (λ (m : Memory). m.width) (memory_is _ _ _ c.at.ensures)))
