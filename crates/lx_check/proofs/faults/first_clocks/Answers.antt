use Rattle.std.proofs.Common.{◌∙◌, ◌<◌, length, sym, arith}
use Rattle.lx_check.specs.Faults.{memory_clocks, writings}
use Rattle.lx_check.specs.Marks.{AreMarks}
use Rattle.lx_check.proofs.Faulting.{first_all, first_none, first_some, mark_item, memory_is}
use Rattle.lx_check.proofs.faults.first_clocks.Goals as goal

pub returns-then-is_some : goal.returns-then-is_some
returns-then-is_some c =
    let l : c.loop-m.m < length c.args.design.now.memories = omega (arith, c.loop-m-test.true, c.len-m-end.ensures) in
    let marks : AreMarks (length c.args.design.now.memories) (writings c.args.design.now.ports) c.as_slice-marks.result.now = rw c.as_slice-marks.ensures.value c.in_ok-marks.ensures in
    let is = c.in_ok-fault.ensures ∙ memory_is c.args.design.now c.loop-m.m _ (mark_item _ _ _ c.as_slice-marks.result.now _ marks l) in
    first_some (memory_clocks c.args.design.now) c.loop-m.m _ _ c.loop-m.invariant is (sym c.is_some.ensures ∙ c.if-is_some.true) l

pub loop-m-preserved : goal.loop-m-preserved
loop-m-preserved c =
    let l : c.loop-m.m < length c.args.design.now.memories = omega (arith, c.loop-m-test.true, c.len-m-end.ensures) in
    let marks : AreMarks (length c.args.design.now.memories) (writings c.args.design.now.ports) c.as_slice-marks.result.now = rw c.as_slice-marks.ensures.value c.in_ok-marks.ensures in
    let is = c.in_ok-fault.ensures ∙ memory_is c.args.design.now c.loop-m.m _ (mark_item _ _ _ c.as_slice-marks.result.now _ marks l) in
    first_none (memory_clocks c.args.design.now) c.loop-m.m _ c.loop-m.invariant is (sym c.is_some.ensures ∙ c.if-is_some.false)

pub returns : goal.returns
returns c = sym (first_all (memory_clocks c.args.design.now) c.loop-m.m (length c.args.design.now.memories) c.loop-m.invariant (omega (arith, c.len-m-end.ensures)))
