use Rattle.std.proofs.Common.{List, ◌∙◌, sym, subst, rules, arith}
use Rattle.std.specs.Prelude.{pos, slice_index_or}
use Rattle.std.proofs.lemmas.Int.{to_z-of_z}
use mir.Syntax.{w128}
use mir.Val.{SFits}
use Rattle.lx_emission.proofs.Parts.{drive_within}
use Rattle.lx_fhdl.specs.Below.{StmtId}
use Rattle.lx_sim.specs.Evaluating.{IsNextValue, IsRisen}
use Rattle.lx_sim.proofs.Drives.{driven, driven_as, is_sync}
use Rattle.lx_sim.proofs.Owned.{sync_is_own, sync_is_there}
use Rattle.lx_sim.proofs.Rising.{idle_next, other_next, risen_next}
use Rattle.lx_sim.proofs.settle.next_value.Goals as goal

pub is_rising-requires : goal.is_rising-requires
is_rising-requires c = let within = drive_within _ _ _ _ (driven_as _ _ _ _ c.requires.plan c.at.ensures c.in-Sync.is) in omega (arith, within, c.requires.plan.keeps.domains_most)

pub risen-requires-clause-domain : goal.risen-requires-clause-domain
risen-requires-clause-domain c = drive_within _ _ _ _ (driven_as _ _ _ _ c.requires.plan c.at.ensures c.in-Sync.is)

pub risen-requires-clause-block : goal.risen-requires-clause-block
risen-requires-clause-block c = rw c.as_slice.ensures (sync_is_own _ _ _ _ _ c.requires.plan.keeps c.requires.plan.lowered c.requires.fit.exprs (driven_as _ _ _ _ c.requires.plan c.at.ensures c.in-Sync.is))

pub risen-requires-clause-below : goal.risen-requires-clause-below
risen-requires-clause-below c = rw c.as_slice.ensures (sync_is_there _ _ _ _ c.requires.plan.keeps (driven_as _ _ _ _ c.requires.plan c.at.ensures c.in-Sync.is))

pub returns-then-is_rising : goal.returns-then-is_rising
returns-then-is_rising c =
    let d = c.args.plan.now.design in
    let z = c.risen.result in
    let fits : SFits w128 z = search rules in
    subst (IsNextValue d c.args.x c.args.rises c.args.vals.now c.args.known.now) (sym (to_z-of_z w128 z fits))
    (risen_next d c.args.x c.in-Sync.domain c.args.rises c.args.vals.now c.args.known.now c.in-Sync.body z c.requires.plan.keeps c.requires.plan.lowered c.requires.there (driven_as _ _ _ _ c.requires.plan c.at.ensures c.in-Sync.is) (sym c.is_rising.ensures ∙ c.if-is_rising.true)
    (subst (λ (ids : List StmtId). IsRisen d c.args.x c.in-Sync.domain c.args.vals.now c.args.known.now ids z) c.as_slice.ensures c.risen.ensures))

pub returns-else-is_rising : goal.returns-else-is_rising
returns-else-is_rising c =
    let z = slice_index_or c.args.vals.now c.args.x (pos 0) in
    let fits : SFits w128 z = search rules in
    idle_next _ _ _ _ _ _ _ _ c.requires.there (c.requires.fit.signals_fit c.args.x c.requires.there) (driven_as _ _ _ _ c.requires.plan c.at.ensures c.in-Sync.is) (sym c.is_rising.ensures ∙ c.if-is_rising.false) (to_z-of_z w128 z fits)

pub returns-in_default : goal.returns-in_default
returns-in_default c =
    let z = slice_index_or c.args.vals.now c.args.x (pos 0) in
    let fits : SFits w128 z = search rules in
    other_next _ _ _ _ _ _ _ c.requires.there (c.requires.fit.signals_fit c.args.x c.requires.there) (driven _ _ _ c.requires.plan c.at.ensures) (λ k ids e. c.in_default.not-Sync k ids (is_sync _ k ids e)) (to_z-of_z w128 z fits)
