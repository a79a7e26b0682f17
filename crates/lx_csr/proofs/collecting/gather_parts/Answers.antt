use Rattle.std.proofs.Common.{◌∙◌, ap, subst, sym, arith}
use Rattle.lx_csr.specs.Collected.{part_peripheral}
use Rattle.lx_csr.specs.Gathered.{HaveRoom, with_peripherals}
use Rattle.lx_csr.proofs.Peripherals.{gathered_step, room_at}
use Rattle.lx_csr.proofs.collecting.gather_parts.Goals as goal

pub gather_part-requires-clause-room : goal.gather_part-requires-clause-room
gather_part-requires-clause-room c =
    subst (λ g. HaveRoom g (part_peripheral c.args.modules.now c.part-item.result)) (sym c.loop-part.invariant)
    (room_at c.args.modules.now c.args.parts.now c.loop-part.part-index c.part-item.result (omega arith) c.part-item.is c.requires.room)

pub loop-part-preserved : goal.loop-part-preserved
loop-part-preserved c =
    c.in_ok-gather_part.ensures ∙ (ap (λ g. with_peripherals g (part_peripheral c.args.modules.now c.part-item.result)) c.loop-part.invariant
    ∙ gathered_step c.args.modules.now c.args.parts.now c.loop-part.part-index c.part-item.result (omega arith) c.part-item.is)
