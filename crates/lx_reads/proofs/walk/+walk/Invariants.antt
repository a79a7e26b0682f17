use Rattle.std.proofs.Common.{◌+◌, ◌*◌, ◌≡◌, drop}
use Rattle.lx_reads.specs.Net.{Goes, IsAround, above}
use Rattle.lx_reads.specs.Walks.{arms_todo, block_todo, chain_todo}
use Rattle.lx_reads.proofs.walk.+walk.Given as goal

abbrev pub decreases-put_stmt : goal.decreases-put_stmt
decreases-put_stmt l = 3 * l.id.place + 2

abbrev pub decreases-put_block : goal.decreases-put_block
decreases-put_block l = 3 * l.bound

abbrev pub decreases-put_if : goal.decreases-put_if
decreases-put_if l = 3 * l.bound + 1

abbrev pub decreases-put_arms : goal.decreases-put_arms
decreases-put_arms l = 3 * l.bound + 1

abbrev pub invariant-put_block-loop-id : goal.invariant-put_block-loop-id
invariant-put_block-loop-id l =
    Goes l.design l.initial.net l.net
    (block_todo l.design l.under.driver (above l.design l.initial.net l.under.around) l.ids)
    (block_todo l.design l.under.driver (above l.design l.initial.net l.under.around) (drop l.id-index l.ids))

abbrev pub invariant-put_if-loop-branch : goal.invariant-put_if-loop-branch
invariant-put_if-loop-branch l =
    Goes l.design l.initial.net l.net
    (chain_todo l.design l.fn.under.driver (above l.design l.initial.net l.fn.under.around) l.branches l.rest)
    (chain_todo l.design l.fn.under.driver (above l.design l.net l.inside.around) (drop l.branch-index l.branches) l.rest)
    × (IsAround l.design l.net l.inside.around × (l.inside.driver ≡ l.fn.under.driver))

abbrev pub invariant-put_arms-loop-arm : goal.invariant-put_arms-loop-arm
invariant-put_arms-loop-arm l =
    Goes l.design l.initial.net l.net
    (arms_todo l.design l.under.driver (above l.design l.initial.net l.under.around) l.arms l.rest)
    (arms_todo l.design l.under.driver (above l.design l.initial.net l.under.around) (drop l.arm-index l.arms) l.rest)
