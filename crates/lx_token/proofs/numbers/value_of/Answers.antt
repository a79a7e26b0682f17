use Rattle.std.proofs.Common.{sym}
use Rattle.lx_token.specs.Numbers.{greatest_number}
use Rattle.lx_token.proofs.Values.{past_greatest}
use Rattle.lx_token.proofs.numbers.value_of.Goals as goal

pub returns-then-value-digit : goal.returns-then-value-digit
returns-then-value-digit c =
    (rw c.loop-byte.invariant.0 (past_greatest c.args.base c.loop-byte.value greatest_number c.loop-byte.byte-index c.args.digits.now c.requires c.loop-byte-test.true c.if-byte-ne95.true (rw (sym c.digit_value-digit.ensures) c.if-value-digit.true)))
