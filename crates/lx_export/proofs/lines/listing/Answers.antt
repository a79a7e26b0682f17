use Rattle.std.proofs.Common.{◌≡◌, ◌∙◌, true, ap, subst, sym}
use Rattle.lx_csr.specs.Mapped.{base_of}
use Rattle.lx_soc.specs.Told.{are_regions}
use Rattle.lx_export.specs.Rows.{by_number, by_origin}
use Rattle.lx_export.proofs.Files.{listing_joined}
use Rattle.lx_export.proofs.lines.listing.Goals as goal

pub base_of-requires : goal.base_of-requires
base_of-requires c = subst (λ rs. are_regions rs ≡ true) (sym c.as_slice-4.ensures) c.args.s.now.regions

pub returns : goal.returns
returns c =
    listing_joined c.args.s.now.map c.args.s.now.placement
    c.base_of.result c.as_slice-2.result.now c.as_slice-5.result.now c.registers.result.now c.as_slice-7.result.now
    c.new-out.result c.put_regions.new.out c.put_banks.new.out c.put_registers.new.out c.put_interrupts.new.out
    (c.base_of.ensures.base ∙ ap base_of c.as_slice-4.ensures)
    (c.as_slice-2.ensures.value ∙ (c.in_ok-regions.ensures ∙ ap by_origin c.as_slice.ensures))
    (c.as_slice-5.ensures ∙ (c.in_ok-banks.ensures ∙ ap by_number c.as_slice-3.ensures))
    c.registers.ensures.registers
    (c.as_slice-7.ensures ∙ (c.in_ok-interrupts.ensures ∙ ap by_number c.as_slice-6.ensures))
    c.new-out.ensures c.in_ok-put_regions.ensures c.in_ok-put_banks.ensures c.in_ok-put_registers.ensures c.in_ok-put_interrupts.ensures
