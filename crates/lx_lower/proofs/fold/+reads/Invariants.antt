use Rattle.std.proofs.Common.{◌≡◌, ◌+◌, ◌*◌, drop}
use Rattle.lx_fhdl.specs.Designs.{block, stmt, term}
use Rattle.lx_fhdl.specs.Stmts.{branches_at}
use Rattle.lx_lowering.specs.Constants.{block_reads_none, branches_read_none}
use Rattle.lx_flat.specs.Ready.{LowerStmts}
use Rattle.lx_lower.proofs.fold.+reads.Given as goal

abbrev pub decreases-reads_none : goal.decreases-reads_none
decreases-reads_none l = 3 * l.stmt.id.place + 2

abbrev pub decreases-branches_read_none : goal.decreases-branches_read_none
decreases-branches_read_none l = 3 * l.branches.bound + 1

abbrev pub decreases-block_reads_none : goal.decreases-block_reads_none
decreases-block_reads_none l = 3 * l.stmts.bound

abbrev pub invariant-branches_read_none-loop-branch : goal.invariant-branches_read_none-loop-branch
invariant-branches_read_none-loop-branch l = branches_read_none (branches_at (term l.branches.known.now) (stmt l.branches.known.now) (drop l.branch-index l.branches.branches.now)) ≡ branches_read_none (branches_at (term l.branches.known.now) (stmt l.branches.known.now) l.branches.branches.now)

abbrev pub invariant-block_reads_none-loop-id : goal.invariant-block_reads_none-loop-id
invariant-block_reads_none-loop-id l = record {
  rest : block_reads_none (block l.stmts.known.now (drop l.id-index l.stmts.ids.now)) ≡ block_reads_none (block l.stmts.known.now l.stmts.ids.now);
  lower : LowerStmts l.stmts.known.now l.stmts.bound (drop l.id-index l.stmts.ids.now);
}
