use Rattle.std.proofs.Common.{Some, sym, ap, ◌∙◌}
use Rattle.lx_emission.specs.Naming.{clock_of}
use Rattle.lx_sheet.specs.Plans.{plan}
use Rattle.lx_blocks.proofs.Blocked.{always_empty, always_push}
use Rattle.lx_blocks.proofs.Writing.{clocked_block, domain_there, no_block}
use Rattle.lx_blocks.proofs.writes.put_memory.Goals as goal

pub returns-in_default : goal.returns-in_default
returns-in_default c =
    rw (← c.sheet.view_is)
    (always_empty _ _ _ c.requires (no_block (plan c.sheet.inside.design.now c.sheet.inside.names.now) _ _ _ c.as_slice.ensures c.writing_domain.ensures c.in_default.not-Some))

pub at-requires : goal.at-requires
at-requires c = domain_there c.sheet.inside.design.now c.args.k c.in-Some.domain c.as_slice.result.now (rw c.as_slice.ensures c.sheet.invariant.fit.keeps.ports) (sym c.writing_domain.ensures ∙ c.in-Some.is)

pub returns : goal.returns
returns c =
    let clock = c.in_ok-clock_name.ensures ∙ ap clock_of (sym c.at.ensures) in
    let block = clocked_block (plan c.sheet.inside.design.now c.sheet.inside.names.now) _ _ _ c.as_slice.ensures (sym c.writing_domain.ensures ∙ c.in-Some.is) in
    rw (← c.sheet.view_is)
    (always_push _ _ _ _ _ _ _ _ _ c.requires (rw (← c.sheet.view_is) at c.in_ok-body.ensures) (ap Some clock) block c.push.ensures.ok)
