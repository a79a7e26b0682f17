use Rattle.std.proofs.Common.{◌∙◌, ap, arith, rules, FitsSigned, Bool}
use Rattle.std.specs.Int.{w128}
use Rattle.std.specs.Ordering.{int_eq}
use Rattle.std.specs.Prelude.{◌&&◌, not}
use Rattle.std.proofs.lemmas.Int.{to_z-of_z}
use Rattle.lx_num.specs.Ints.{wrapped}
use Rattle.lx_flat.proofs.Arms.{fresh_all, fresh_more, fresh_none, seen_more, seen_none}
use Rattle.lx_flat.proofs.keys.fresh_keys.Goals as goal

pub loop-arm-init : goal.loop-arm-init
loop-arm-init c = (rw c.new-fresh.ensures (fresh_none _ _), seen_none c.args.arms.now _ c.new-seen.ensures.empty)

pub loop-arm-preserved : goal.loop-arm-preserved
loop-arm-preserved c =
    let key = c.arm-item.result.key in
    let fits : FitsSigned w128 key = search rules in
    let set = rw (to_z-of_z w128 key fits) at c.in_ok-first.ensures in
    let own = (rw (to_z-of_z w128 key fits) at c.is_fresh-own.ensures)
    ∙ ap (λ (b : Bool). int_eq (wrapped c.args.shape key) key && b) (set.added ∙ ap not (c.loop-arm.invariant.1 key)) in (
      rw c.in_ok-push.ensures.ok (fresh_more _ _ _ _ _ _ c.loop-arm.invariant.0 c.loop-arm-test.true c.arm-item.is own),
      seen_more _ _ _ _ _ c.loop-arm-test.true c.arm-item.is c.loop-arm.invariant.1 set.updates.0,
    )

pub returns : goal.returns
returns c = fresh_all _ _ _ _ (omega arith) (omega arith) c.loop-arm.invariant.0
