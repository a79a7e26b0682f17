use Rattle.std.proofs.Common.{◌+◌, ◌*◌, true, [], drop, take}
use Rattle.lx_fhdl.specs.Designs as designs
use Rattle.lx_fhdl.specs.Designs.{block, shapes, stmt, term}
use Rattle.lx_fhdl.specs.Stmts.{branches_at}
use Rattle.lx_lowering.specs.Flat.{flat_block, flat_chain}
use Rattle.lx_flat.specs.Keys.{arms_block, seen_keys}
use Rattle.lx_plain.specs.Owned.{PutSome}
use Rattle.lx_plain.specs.Lines.{both_lines}
use Rattle.lx_plain.specs.Plain.{IsBit}
use Rattle.lx_flat.specs.Puts.{arms_inside, branches_inside, lines_for, lines_inside, lowered_at}
use Rattle.lx_flat.proofs.flat.+flat.Given as goal

abbrev pub decreases-put_flat : goal.decreases-put_flat
decreases-put_flat l = 5 * l.stmt.id.place + 4

abbrev pub decreases-put_flat_block : goal.decreases-put_flat_block
decreases-put_flat_block l = 5 * l.stmts.bound

abbrev pub decreases-put_block_when : goal.decreases-put_block_when
decreases-put_block_when l = 5 * l.stmts.bound + 1

abbrev pub decreases-put_if : goal.decreases-put_if
decreases-put_if l = 5 * l.node.bound + 3

abbrev pub decreases-put_lone : goal.decreases-put_lone
decreases-put_lone l = 5 * l.node.bound + 1

abbrev pub decreases-put_chain : goal.decreases-put_chain
decreases-put_chain l = 5 * l.node.bound + 2

abbrev pub decreases-put_case : goal.decreases-put_case
decreases-put_case l = 5 * l.node.bound + 3

abbrev pub decreases-put_arms : goal.decreases-put_arms
decreases-put_arms l = 5 * l.node.bound + 2

abbrev pub decreases-put_otherwise : goal.decreases-put_otherwise
decreases-put_otherwise l = 5 * l.node.bound + 2

abbrev pub invariant-put_flat_block-loop-id : goal.invariant-put_flat_block-loop-id
invariant-put_flat_block-loop-id l =
    PutSome l.initial.draft l.draft l.initial.out l.out
    (flat_block (shapes l.stmts.source.now.design) (block l.stmts.source.now.design l.stmts.ids.now))
    (flat_block (shapes l.stmts.source.now.design) (block l.stmts.source.now.design (drop l.id-index l.stmts.ids.now)))
    (lines_for l.stmts.source.now.design l.stmts.ids.now)
    (lines_for l.stmts.source.now.design (drop l.id-index l.stmts.ids.now))

abbrev pub invariant-put_chain-loop-branch : goal.invariant-put_chain-loop-branch
invariant-put_chain-loop-branch l =
    PutSome l.initial.draft l.draft l.initial.out l.out
    (flat_chain (shapes l.node.source.now.design) (term l.initial.draft l.initial.none.place) (branches_at (designs.term l.node.source.now.design) (stmt l.node.source.now.design) l.node.branches.now) (flat_block (shapes l.node.source.now.design) (block l.node.source.now.design l.node.rest.now)))
    (flat_chain (shapes l.node.source.now.design) (term l.draft l.none.place) (branches_at (designs.term l.node.source.now.design) (stmt l.node.source.now.design) (drop l.branch-index l.node.branches.now)) (flat_block (shapes l.node.source.now.design) (block l.node.source.now.design l.node.rest.now)))
    (both_lines (branches_inside l.node.source.now.design true l.node.line l.node.branches.now) (lines_inside l.node.source.now.design true l.node.line l.node.rest.now))
    (both_lines (branches_inside l.node.source.now.design true l.node.line (drop l.branch-index l.node.branches.now)) (lines_inside l.node.source.now.design true l.node.line l.node.rest.now))
    × IsBit l.draft l.none.place

abbrev pub invariant-put_arms-loop-number : goal.invariant-put_arms-loop-number
invariant-put_arms-loop-number l =
    PutSome l.initial.draft l.draft l.initial.out l.out
    (arms_block (shapes l.node.source.now.design) (stmt l.node.source.now.design) (lowered_at l.node.source.now.design l.node.on.place) [] l.node.arms.now)
    (arms_block (shapes l.node.source.now.design) (stmt l.node.source.now.design) (lowered_at l.node.source.now.design l.node.on.place) (seen_keys (take l.number l.node.arms.now)) (drop l.number l.node.arms.now))
    (arms_inside l.node.source.now.design true l.node.line l.node.arms.now)
    (arms_inside l.node.source.now.design true l.node.line (drop l.number l.node.arms.now))
