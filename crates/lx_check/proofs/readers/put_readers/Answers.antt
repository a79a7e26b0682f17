use Rattle.std.proofs.Common.{arith}
use Rattle.lx_check.proofs.Faulting.{readers_done, readers_more}
use Rattle.lx_check.proofs.readers.put_readers.Goals as goal

pub loop-port-preserved : goal.loop-port-preserved
loop-port-preserved c = (c.loop-port.invariant.0, readers_more c.args.design.now _ c.loop-port.port-index _ _ _ c.requires.keeps c.loop-port.invariant.0 c.loop-port-test.true c.put_reader.ensures c.loop-port.invariant.1)

pub returns : goal.returns
returns c = readers_done c.args.design.now _ c.loop-port.port-index _ c.loop-port.invariant.0 (omega arith) c.loop-port.invariant.1
