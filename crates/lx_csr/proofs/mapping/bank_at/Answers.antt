use Rattle.std.proofs.Common.{◌∙◌, ◌+◌, ◌*◌, map, ap, sym, arith}
use Rattle.std.proofs.lemmas.Bool.{eq-eqb}
use Rattle.lx_csr.specs.Mapped.{mapped}
use Rattle.lx_csr.proofs.Lists.{read_is}
use Rattle.lx_csr.proofs.Steps.{ne_false, numbered_here, numbered_next}
use Rattle.lx_csr.proofs.mapping.bank_at.Goals as goal

pub returns-then-place-number-clause-bank : goal.returns-then-place-number-clause-bank
returns-then-place-number-clause-bank c = λ base.
    c.loop-i.invariant base ∙ (numbered_here base c.args.number c.args.given.now c.args.banks.now c.loop-i.i c.index-given-i.result
    (read_is c.args.given.now c.loop-i.i c.index-given-i.result (omega arith) c.index-given-i.is) (eq-eqb _ _ c.if-place-number.true)
    ∙ ap (map (mapped (base + 2048 * c.args.number) c.args.number)) (sym c.registers_at.ensures.bank))

pub loop-i-preserved : goal.loop-i-preserved
loop-i-preserved c = λ base.
    c.loop-i.invariant base ∙ numbered_next base c.args.number c.args.given.now c.args.banks.now c.loop-i.i c.index-given-i.result
    (read_is c.args.given.now c.loop-i.i c.index-given-i.result (omega arith) c.index-given-i.is) (ne_false _ _ c.if-place-number.false)
