use Rattle.std.proofs.Common.{arith}
use Rattle.lx_width.proofs.Ends.{item_there}
use Rattle.lx_drives.proofs.Counted.{numbers_none, numbers_more}
use Rattle.lx_drives.proofs.numbers.numbers.Goals as goal

pub loop-node-init : goal.loop-node-init
loop-node-init c = (c.as_slice-node-items.ensures, rw c.new-numbers.ensures (numbers_none _))

pub loop-node-preserved : goal.loop-node-preserved
loop-node-preserved c =
    let there = item_there _ _ _ _ c.loop-node.invariant.0 (omega arith) c.node-item.is in
    let more = numbers_more _ _ _ _ _ c.loop-node.invariant.1 there in
    (c.loop-node.invariant.0, rw (c.in_ok-push.ensures.ok, c.number_after-next.ensures) more)
