use Rattle.lx_alloc.proofs.Judging.{none_both}
use Rattle.lx_alloc.proofs.Stand.{irqs_stand, banks_stand}
use Rattle.lx_alloc.proofs.placing.placed.Goals as goal

pub number_irqs-requires : goal.number_irqs-requires
number_irqs-requires c =
    rw c.as_slice-7.ensures (irqs_stand c.args.w.now.managers c.args.w.now.irqs (rw (c.as_slice-3.ensures, c.as_slice-4.ensures) at c.in_ok-check_irqs.ensures))

pub number_banks-requires : goal.number_banks-requires
number_banks-requires c =
    rw (c.as_slice-8.ensures, c.as_slice-9.ensures)
    (banks_stand c.args.w.now.fixes c.args.w.now.banks c.requires.names (rw (c.as_slice-5.ensures, c.as_slice-6.ensures) at c.in_ok-check_all_banks.ensures))

pub returns : goal.returns
returns c = record {
  fixed = rw c.as_slice.ensures at c.in_ok-check_fixed.ensures;
  regions = rw c.as_slice-2.ensures at c.in_ok-regions.ensures;
  numbers = none_both _ _ (rw (c.as_slice-3.ensures, c.as_slice-4.ensures) at c.in_ok-check_irqs.ensures)
      (rw (c.as_slice-5.ensures, c.as_slice-6.ensures) at c.in_ok-check_all_banks.ensures);
  irqs = rw c.as_slice-7.ensures at c.in_ok-irqs.ensures;
  banks = rw (c.as_slice-8.ensures, c.as_slice-9.ensures) at c.in_ok-banks.ensures;
}
