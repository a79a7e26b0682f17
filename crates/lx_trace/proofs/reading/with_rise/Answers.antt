use Rattle.lx_trace.proofs.Bits.{room_for}
use Rattle.lx_trace.proofs.reading.with_rise.Goals as goal

pub overflow_add-result : goal.overflow_add-result
overflow_add-result c = record { fits = room_for c.args.rises c.in_ok-bit.field-0 c.args.domain c.ranges.rises.fits c.in_ok-bit.was c.requires c.if-rises-bit-eq1.false }
