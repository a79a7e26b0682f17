use Rattle.std.specs.Prelude.{FitsSigned}
use Rattle.std.specs.Int.{w128}
use Rattle.std.proofs.Common.{◌∙◌, rules}
use Rattle.std.proofs.lemmas.Int.{to_z-of_z}
use Rattle.lx_sheet.proofs.Starts.{reset_is, literal_same}
use Rattle.lx_sheet.proofs.resets.reset_literal.Goals as goal

pub returns-clause-text : goal.returns-clause-text
returns-clause-text c =
    let f : FitsSigned w128 c.at-signal.result.now.reset = search rules in
    rw (← c.sheet.view_is) (rw (to_z-of_z w128 c.at-signal.result.now.reset f) at c.constant.ensures ∙ reset_is _ _ _ c.at-signal.ensures)

pub returns-clause-value : goal.returns-clause-value
returns-clause-value c =
    let f : FitsSigned w128 c.at-signal.result.now.reset = search rules in
    rw (← c.sheet.view_is) (literal_same _ _ _ (rw (to_z-of_z w128 c.at-signal.result.now.reset f) at c.constant.ensures ∙ reset_is c.sheet.inside.design.now _ _ c.at-signal.ensures))
