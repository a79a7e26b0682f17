use Rattle.std.proofs.Common.{◌∙◌, ◌<◌, length, sym, arith}
use Rattle.lx_check.specs.Faults.{two_drivers}
use Rattle.lx_check.proofs.Faulting.{first_all, first_none, first_some, mark_item, two_is}
use Rattle.lx_check.proofs.faults.first_drivers.Goals as goal

pub returns-then-is_some : goal.returns-then-is_some
returns-then-is_some c =
    let l : c.loop-x.x < length c.args.design.now.signals = omega (arith, c.loop-x-test.true, c.len-x-end.ensures) in
    let is = c.in_ok-fault.ensures ∙ two_is c.args.design.now c.loop-x.x _ (mark_item _ _ _ c.args.marks.now _ c.requires l) in
    first_some (two_drivers c.args.design.now) c.loop-x.x _ _ c.loop-x.invariant is (sym c.is_some.ensures ∙ c.if-is_some.true) l

pub loop-x-preserved : goal.loop-x-preserved
loop-x-preserved c =
    let l : c.loop-x.x < length c.args.design.now.signals = omega (arith, c.loop-x-test.true, c.len-x-end.ensures) in
    let is = c.in_ok-fault.ensures ∙ two_is c.args.design.now c.loop-x.x _ (mark_item _ _ _ c.args.marks.now _ c.requires l) in
    first_none (two_drivers c.args.design.now) c.loop-x.x _ c.loop-x.invariant is (sym c.is_some.ensures ∙ c.if-is_some.false)

pub returns : goal.returns
returns c = sym (first_all (two_drivers c.args.design.now) c.loop-x.x (length c.args.design.now.signals) c.loop-x.invariant (omega (arith, c.len-x-end.ensures)))
