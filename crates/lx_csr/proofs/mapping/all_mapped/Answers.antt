use Rattle.std.proofs.Common.{◌∙◌, ◌++◌, List, sym}
use Rattle.std.proofs.Math.Path.{ap₂}
use Rattle.lx_csr.specs.Mapped.{numbered}
use Rattle.lx_csr.specs.declared.registers.Register.{Register}
use Rattle.lx_csr.proofs.Steps.{numbers_more}
use Rattle.lx_csr.proofs.mapping.all_mapped.Goals as goal

pub loop-number-preserved : goal.loop-number-preserved
loop-number-preserved c =
    c.in_ok-push_mapped.ensures ∙ (ap₂ (λ (xs : List Register) ys. xs ++ ys) c.loop-number.invariant (sym (c.bank_at-registers.ensures.bank c.args.base))
    ∙ sym (numbers_more (numbered c.args.base c.args.given.now c.args.banks.now) c.loop-number.number))
