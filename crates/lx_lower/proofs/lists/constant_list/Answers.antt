use Rattle.std.specs.Int.{w128}
use Rattle.std.proofs.lemmas.Int.{to_z-of_z}
use Rattle.std.proofs.lemmas.Result.{IfOk-weaker}
use Rattle.lx_lower.proofs.Listing.{constant_put, whole_there}
use Rattle.lx_lower.proofs.lists.constant_list.Goals as goal

pub push_target-requires : goal.push_target-requires
push_target-requires c = whole_there _ _ _ _ c.in_ok-value.ensures.grows c.requires c.signal_shape-shape.ensures.is c.signal_shape-shape.ensures.small

pub returns : goal.returns
returns c =
    let value = rw (to_z-of_z w128 c.args.number c.ranges.number) at c.in_ok-value.ensures in
    IfOk-weaker c.of_one.result _ _ (λ list e. constant_put _ _ _ _ _ _ _ _ _ _ _ c.args.line c.signal_shape-shape.ensures.is value c.in_ok-target.ensures c.in_ok-stmt.ensures e) c.of_one.ensures
