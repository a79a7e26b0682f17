use Rattle.std.proofs.Common.{◌≡◌, ◌∙◌, ap, subst, sym}
use Rattle.std.specs.Prelude.{OnOk}
use Rattle.lx_csr.specs.Gathered.{with_bank}
use Rattle.lx_csr.proofs.Peripherals.{module_gathered}
use Rattle.lx_csr.proofs.collecting.gather_part.Goals as goal

pub returns-in_ok-walk-in-Some : goal.returns-in_ok-walk-in-Some
returns-in_ok-walk-in-Some c =
    subst (λ g. OnOk c.end_bank-in-Some.result (c.end_bank-in-Some.new.gathered ≡ g))
    (ap (λ g. with_bank g c.in-Some.module.now.name) c.in_ok-walk-in-Some.ensures
    ∙ module_gathered c.args.modules.now c.args.gathered.now _ c.in-Some.module.now c.args.part.now c.in-Module.is (sym c.in-Some.ensures) c.if-module.true)
    c.end_bank-in-Some.ensures
