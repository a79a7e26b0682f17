use Rattle.std.proofs.Common.{◌≡◌, inl, inr, subst, arith}
use Rattle.std.proofs.lemmas.Bool.{cases_lt}
use Rattle.lx_alloc.specs.Numbers.{IsUsed}
use Rattle.lx_alloc.proofs.least.lowest_free.Goals as goal

pub loop-number-preserved : goal.loop-number-preserved
loop-number-preserved c p l = elim (cases_lt p c.loop-number.number) [
  | inl before ↦ c.loop-number.invariant p before
  | inr last ↦
      let same : c.loop-number.number ≡ p = omega arith in
      subst (λ z. IsUsed c.args.wished.now c.args.numbers.now z) same (c.is_used.ensures.0 c.if-not-is_used.false)
]

pub unreachable-requires : goal.unreachable-requires
unreachable-requires c = c.requires (λ n l. c.loop-number.invariant n (omega arith))
