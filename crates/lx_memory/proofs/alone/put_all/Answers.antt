use Rattle.lx_memory.proofs.Apart.{mark_next, port_shown}
use Rattle.lx_memory.proofs.alone.put_all.Goals as goal

pub loop-port-preserved : goal.loop-port-preserved
loop-port-preserved c =
    let h = c.loop-port.invariant.1 in (
      c.loop-port.invariant.0,
      rw c.and_not-apart.ensures
          (mark_next _ _ c.loop-port.port-index _ c.loop-port.marks _ c.loop-port.apart _ c.loop-port-test.true (port_shown c.args.design.now _ c.loop-port.port-index _ _ c.requires.keeps c.loop-port.invariant.0 h.shown.long c.loop-port-test.true)
          c.put_shown-was.ensures.was c.put_shown-was.ensures.now h),
    )
