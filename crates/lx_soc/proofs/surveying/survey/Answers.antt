use Rattle.std.proofs.Common.{◌∙◌, refl, ap, subst, sym}
use Rattle.std.proofs.lemmas.Result.{err_from_is_err_and}
use Rattle.lx_alloc.specs.Answer.{IsPlacement}
use Rattle.lx_alloc.specs.Numbers.{AreDistinct}
use Rattle.lx_csr.specs.Collected.{banks}
use Rattle.lx_csr.specs.Mapped.{IsHoused, map_of}
use Rattle.lx_soc.specs.Surveyed.{wishes}
use Rattle.lx_soc.proofs.Kept.{is_housed, place_fails, placed_for, same_wishes, sized, system_keeps}
use Rattle.lx_soc.proofs.surveying.survey.Goals as goal

pub placed-requires-clause-sizes : goal.placed-requires-clause-sizes
placed-requires-clause-sizes c = rw c.kept_parts-design.ensures (sized c.args.d c.requires)

pub placed-requires-clause-names : goal.placed-requires-clause-names
placed-requires-clause-names c = subst (λ ws. AreDistinct ws) (sym c.in_ok-banks.ensures.0) c.in_ok-registers.ensures.banks

pub returns-in_err-placement : goal.returns-in_err-placement
returns-in_err-placement c =
    let p = err_from_is_err_and c.from_residual-in_err-placement.result c.from_residual-in_err-placement.ensures.1 in
    let same =
    same_wishes c.args.d c.kept_parts-design.result.2 _ _ _ (ap (λ r. r.2) c.kept_parts-design.ensures) c.in_ok-registers.ensures.answer.1
    c.in_ok-banks.ensures.0 c.in_ok-banks.ensures.1 in
    rw (p.1, p.2) (place_fails c.args.d _ c.in_err-placement.field-0.0 c.in_ok-registers.ensures.answer.0 same c.in_err-placement.ensures)

pub system_of-requires-clause-housed : goal.system_of-requires-clause-housed
system_of-requires-clause-housed c =
    let placed =
    placed_for c.args.d c.kept_parts-design.result.2 _ _ _ _ (ap (λ r. r.2) c.kept_parts-design.ensures) c.in_ok-registers.ensures.answer.1
    c.in_ok-banks.ensures.0 c.in_ok-banks.ensures.1 c.in_ok-placement.ensures in
    subst (λ bs. IsHoused bs c.in_ok-placement.placement) (sym c.in_ok-registers.ensures.answer.1) (is_housed c.args.d _ c.requires placed)

pub system_of-requires-clause-told : goal.system_of-requires-clause-told
system_of-requires-clause-told c =
    let placed =
    placed_for c.args.d c.kept_parts-design.result.2 _ _ _ _ (ap (λ r. r.2) c.kept_parts-design.ensures) c.in_ok-registers.ensures.answer.1
    c.in_ok-banks.ensures.0 c.in_ok-banks.ensures.1 c.in_ok-placement.ensures in
    system_keeps c.args.d c.in_ok-registers.registers _ _ _ c.requires placed c.in_ok-registers.ensures.answer.1 refl c.in_ok-told.ensures.0

pub returns : goal.returns
returns c =
    let s = c.in_ok-system_of.ensures in
    let placed =
    placed_for c.args.d c.kept_parts-design.result.2 _ _ _ _ (ap (λ r. r.2) c.kept_parts-design.ensures) c.in_ok-registers.ensures.answer.1
    c.in_ok-banks.ensures.0 c.in_ok-banks.ensures.1 c.in_ok-placement.ensures in (
      s.design ∙ ap (λ r. r.0) c.kept_parts-design.ensures,
      record {
        sound = c.in_ok-registers.ensures.answer.0;
        placement = subst (λ q. IsPlacement (wishes c.args.d) q) (sym s.placement) placed;
        map = s.map ∙ ap (λ bs. map_of bs c.in_ok-placement.placement) c.in_ok-registers.ensures.answer.1 ∙ ap (map_of (banks c.args.d)) (sym s.placement);
        constants = s.constants ∙ c.in_ok-told.ensures.0;
        rams = s.rams ∙ c.in_ok-told.ensures.1;
        top = s.top ∙ ap (λ r. r.1) c.kept_parts-design.ensures;
      },
    )
