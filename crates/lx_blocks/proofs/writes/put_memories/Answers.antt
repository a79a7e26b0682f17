use Rattle.std.proofs.Common.{◌<◌, ◌≤◌, length, arith}
use Rattle.lx_blocks.specs.Writes.{memory_always_in}
use Rattle.lx_blocks.proofs.Blocked.{always_end, always_next, always_none}
use Rattle.lx_blocks.proofs.writes.put_memories.Goals as goal

pub loop-k-init : goal.loop-k-init
loop-k-init c = always_none _ _ c.requires

pub loop-k-preserved : goal.loop-k-preserved
loop-k-preserved c =
    let within : c.loop-k.k < length c.args.sheet.now.design.memories = rw (← c.sheet.view_is) (omega arith) in
    always_next (memory_always_in c.args.sheet.now) _ _ _ _ _ _ _ _ within c.loop-k.invariant c.in_ok-put_memory.ensures

pub returns : goal.returns
returns c =
    let past : length c.args.sheet.now.design.memories ≤ c.loop-k.k = rw (← c.sheet.view_is) (omega arith) in
    always_end (memory_always_in c.args.sheet.now) _ _ _ _ _ _ past c.loop-k.invariant
