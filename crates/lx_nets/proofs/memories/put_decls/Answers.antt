use Rattle.std.proofs.Common.{◌<◌, ◌≤◌, length, arith}
use Rattle.lx_emission.specs.Emission.{memory_decls}
use Rattle.lx_nets.specs.Memories.{memory_decl_in}
use Rattle.lx_sheet.proofs.Lines.{lines_end, lines_next}
use Rattle.lx_nets.proofs.memories.put_decls.Goals as goal

pub loop-k-preserved : goal.loop-k-preserved
loop-k-preserved c =
    let within : c.loop-k.k < length c.args.sheet.now.design.memories = rw (← c.sheet.view_is) (omega arith) in
    lines_next (memory_decl_in c.args.sheet.now) _ _ _ _ _ within c.loop-k.invariant (rw (c.new.ensures.sheet, c.new.ensures.place) at c.in_ok-put_decl.ensures)

pub returns : goal.returns
unfolding memory_decls
returns c =
    let past : length c.args.sheet.now.design.memories ≤ c.loop-k.k = rw (← c.sheet.view_is) (omega arith) in
    lines_end (memory_decl_in c.args.sheet.now) _ _ _ _ past c.loop-k.invariant
