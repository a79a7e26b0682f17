use Rattle.std.proofs.Common.{◌∙◌, subst, sym}
use Rattle.lx_csr.specs.Collected.{peripherals}
use Rattle.lx_csr.specs.Places.{AreBanks}
use Rattle.lx_csr.proofs.Apart.{sound_banks, sound_names}
use Rattle.lx_csr.proofs.Rising.{banks_keep}
use Rattle.lx_csr.proofs.Steps.{no_system}
use Rattle.lx_csr.proofs.collecting.collect.Goals as goal

pub returns-then-not-d-clause-answer : goal.returns-then-not-d-clause-answer
returns-then-not-d-clause-answer c =
    let p = no_system c.args.d.now c.if-not-d.true in
    (p.0, c.of.ensures ∙ (c.new.ensures ∙ p.1))

pub of-requires-2 : goal.of-requires-2
of-requires-2 c = subst (λ bs. AreBanks bs) (sym c.in_ok-collected.ensures.1) (banks_keep 0 (peripherals c.args.d.now))

pub returns-clause-banks : goal.returns-clause-banks
returns-clause-banks c = sound_banks c.args.d.now c.of-2.result c.if-not-d.false c.in_ok-collected.ensures.0 (c.of-2.ensures ∙ c.in_ok-collected.ensures.1)

pub returns-clause-names : goal.returns-clause-names
returns-clause-names c = sound_names c.args.d.now c.of-2.result c.if-not-d.false c.in_ok-collected.ensures.0 (c.of-2.ensures ∙ c.in_ok-collected.ensures.1)
