use Rattle.std.proofs.Common.{length}
use Rattle.lx_namer.specs.Names.{signal_wishes, taken_first}
use Rattle.lx_namer.proofs.Given.{memory_next}
use Rattle.lx_namer.proofs.names.name_memories.Goals as goal

pub loop-m-preserved : goal.loop-m-preserved
loop-m-preserved c =
    memory_next c.args.design.now (taken_first c.args.design.now) (signal_wishes c.args.design.now (length c.args.design.now.signals)) c.loop-m.m _ _ c.loop-m.invariant c.in_ok-name_memory.ensures
