use Rattle.std.proofs.Common.{◌≡◌, length, arith, sym, subst, refl}
use Rattle.std.proofs.lemmas.Bool.{false≢true}
use Rattle.lx_alloc.proofs.Names.{DistinctBelow, distinct_more, distinct_not, distinct_all}
use Rattle.lx_alloc.proofs.numbers.are_distinct.Goals as goal

pub loop-i-preserved : goal.loop-i-preserved
loop-i-preserved c =
    distinct_more c.args.banks.now c.loop-i.i c.index-banks-i.result (omega arith) c.index-banks-i.is c.loop-i.invariant (sym c.if-is_bank.ensures)

pub returns-then-is_bank : goal.returns-then-is_bank
returns-then-is_bank c = (
  (λ e. absurd (false≢true e)),
  (λ distinct. absurd (distinct_not c.args.banks.now c.loop-i.i c.index-banks-i.result (omega arith) c.index-banks-i.is (sym c.if-is_bank.ensures) distinct)),
)

pub returns : goal.returns
returns c =
    let all : c.loop-i.i ≡ length c.args.banks.now = omega arith in
    ((λ e. distinct_all c.args.banks.now (subst (λ i. DistinctBelow c.args.banks.now i) all c.loop-i.invariant)), (λ distinct. refl))
