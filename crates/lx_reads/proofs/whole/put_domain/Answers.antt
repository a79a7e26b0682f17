use Rattle.std.proofs.Common.{arith}
use Rattle.lx_fhdl.specs.Keeping.{PartStands}
use Rattle.lx_fhdl.proofs.Resets.{each_of_at}
use Rattle.lx_reads.proofs.Items.{got_at}
use Rattle.lx_reads.proofs.Wholes.{parts_done, parts_more}
use Rattle.lx_reads.proofs.whole.put_domain.Goals as goal

pub put_part-requires-clause-part : goal.put_part-requires-clause-part
put_part-requires-clause-part c =
    each_of_at (PartStands c.args.design.now) c.args.design.now.sync c.requires.net.keeps.sync _ _ (got_at _ _ _ c.part-item.result c.as_slice-part-items.ensures c.loop-part-test.true c.part-item.is)

pub loop-part-preserved : goal.loop-part-preserved
loop-part-preserved c = parts_more _ _ _ _ c.part-item.result _ _ _ _ c.loop-part-test.true c.part-item.is c.loop-part.invariant c.in_ok-put_part.ensures

pub returns : goal.returns
returns c = rw c.as_slice-part-items.ensures at (parts_done _ _ c.as_slice-part-items.result.now c.loop-part.part-index _ _ _ (omega arith) c.loop-part.invariant)
