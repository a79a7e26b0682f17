use Rattle.lx_blocks.proofs.Blocked.{always_more}
use Rattle.lx_blocks.proofs.always.always.Goals as goal

pub put_memories-requires : goal.put_memories-requires
put_memories-requires c = c.in_ok-put_signals.ensures.placed

pub returns : goal.returns
returns c = rw (← c.new-blocks.ensures) (always_more _ _ _ _ _ _ _ _ c.in_ok-put_signals.ensures c.in_ok-put_memories.ensures)
