use Rattle.lx_emit.proofs.Emitted.{have_text, parts_emit}
use Rattle.lx_emit.proofs.whole.emit_design.Goals as goal

pub new-requires : goal.new-requires
new-requires c = have_text c.args.design.now c.args.names.now c.in_ok-parts.parts c.requires (rw c.in_ok-sheet.ensures at c.in_ok-parts.ensures)

pub returns : goal.returns
returns c =
    let parts = rw c.in_ok-sheet.ensures at c.in_ok-parts.ensures in
    rw c.new.ensures (record { tree = parts.tree; emits = parts_emit c.args.design.now c.args.names.now c.in_ok-parts.parts c.requires parts })
