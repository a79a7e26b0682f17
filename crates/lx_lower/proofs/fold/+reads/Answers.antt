use Rattle.std.proofs.Common.{arith}
use Rattle.lx_flat.proofs.Flats.{if_lower, if_stands}
use Rattle.lx_flat.proofs.Items.{body_at, cond_at}
use Rattle.lx_lower.proofs.fold.+reads.Goals as goal

pub reads_none-invariant_of-own : goal.reads_none-invariant_of-own
reads_none-invariant_of-own t c =
    let stands = if_stands _ _ _ _ _ _ c.stmt.ensures.stands c.in-If.is in
    let lower = if_lower _ _ _ _ _ c.stmt.ensures.below c.in-If.is in
    record { lower = rw c.as_slice-branches.ensures (record { within = omega (arith, c.args.stmt.there); conds = λ k z l. cond_at _ _ k z stands l; below = lower.0 }) }

pub branches_read_none-invariant_of-cond : goal.branches_read_none-invariant_of-cond
branches_read_none-invariant_of-cond t c = record { there = rw c.branch-item.is (c.args.branches.lower.conds c.loop-branch.branch-index c.branch-item.result c.loop-branch-test.true) }

pub branches_read_none-invariant_of-block_reads_none : goal.branches_read_none-invariant_of-block_reads_none
branches_read_none-invariant_of-block_reads_none t c =
    let body = body_at _ _ c.loop-branch.branch-index _ c.args.branches.lower.below c.loop-branch-test.true in
    record { lower = record { within = c.args.branches.lower.within; below = rw (c.as_slice-ids.ensures, c.branch-item.is) body } }
