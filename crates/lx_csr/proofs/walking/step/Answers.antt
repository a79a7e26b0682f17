use Rattle.std.proofs.Common.{◌∙◌, arith}
use Rattle.lx_csr.proofs.Frames.{room_next, went_by, went_past}
use Rattle.lx_csr.proofs.walking.step.Goals as goal

pub add_part-requires-clause-room : goal.add_part-requires-clause-room
add_part-requires-clause-room c = room_next c.args.modules.now c.requires.nested c.args.gathered.now c.args.stack.now c.args.frame c.at-module.result.now c.at-part.result.now c.as_bytes.result.now
    c.as_bytes.ensures c.requires.room c.at-module.ensures c.at-part.ensures

pub returns-in_ok-push_below : goal.returns-in_ok-push_below
returns-in_ok-push_below c = went_by c.args.modules.now c.requires.nested c.args.gathered.now c.add_part.new.gathered c.args.stack.now c.args.frame c.at-module.result.now c.at-part.result.now
    c.push.new.self c.push_below.new.stack c.as_bytes.result.now c.as_bytes-then-frame-len.result.now c.as_bytes.ensures (c.as_bytes-then-frame-len.ensures ∙ c.in_ok-owner.ensures)
    c.requires.frames c.requires.room c.at-module.ensures c.at-part.ensures c.in_ok-add_part.ensures c.in_ok-push.ensures.ok c.in_ok-push_below.ensures

pub returns-else-frame-len : goal.returns-else-frame-len
returns-else-frame-len c = went_past c.args.modules.now c.args.gathered.now c.args.stack.now c.args.frame c.at-module.result.now c.requires.frames c.requires.room c.at-module.ensures
    (omega (arith, c.if-frame-len.false, c.len.ensures))
