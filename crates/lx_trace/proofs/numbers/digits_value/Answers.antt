use Rattle.std.proofs.Common.{arith}
use Rattle.lx_trace.proofs.Digits.{digit_more}
use Rattle.lx_trace.proofs.numbers.digits_value.Goals as goal

pub loop-byte-preserved : goal.loop-byte-preserved
loop-byte-preserved c = record {
  most = grind (arith, c.with_digit-value.ensures);
  same = digit_more c.args.base _ c.loop-byte.byte-index c.loop-byte.value c.with_digit-value.result c.args.bytes.now c.requires.some (omega arith) (rw (c.digit.ensures.is) at c.with_digit-value.ensures) c.loop-byte.invariant.same;
}
