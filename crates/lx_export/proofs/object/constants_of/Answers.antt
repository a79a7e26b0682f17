use Rattle.std.proofs.Common.{◌≡◌, ◌∙◌, true, ap, map, subst, sym}
use Rattle.serde_json.specs.View.{members_view}
use Rattle.lx_soc.specs.Told.{are_constants}
use Rattle.lx_export.specs.Rows.{by_number, interrupt_constant}
use Rattle.lx_export.proofs.Interrupts.{constants_joined, interrupts_known}
use Rattle.lx_export.proofs.object.constants_of.Goals as goal

pub put_constants-requires : goal.put_constants-requires
put_constants-requires c =
    subst (λ cs. are_constants cs ≡ true)
    (sym (c.as_slice-2.ensures ∙ (c.in_ok-interrupts.ensures ∙ ap (λ xs. map interrupt_constant (by_number xs)) c.as_slice.ensures)))
    (interrupts_known c.args.s.now.placement.irqs c.args.s.now.interrupts)

pub put_constants-requires-2 : goal.put_constants-requires-2
put_constants-requires-2 c = subst (λ cs. are_constants cs ≡ true) (sym c.as_slice-3.ensures) c.args.s.now.numbers

pub returns : goal.returns
returns c =
    c.from.ensures ∙ constants_joined c.args.s.now.placement c.args.s.now.constants c.as_slice-2.result.now c.as_slice-3.result.now _ _ _
    (c.as_slice-2.ensures ∙ (c.in_ok-interrupts.ensures ∙ ap (λ xs. map interrupt_constant (by_number xs)) c.as_slice.ensures))
    c.as_slice-3.ensures (ap members_view c.new-object.ensures.empty) c.in_ok-put_constants.ensures c.in_ok-put_constants-2.ensures
