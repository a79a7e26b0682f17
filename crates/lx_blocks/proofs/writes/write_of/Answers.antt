use Rattle.lx_blocks.proofs.Writing.{writers_there, written_by}
use Rattle.lx_blocks.proofs.writes.write_of.Goals as goal

pub new-memory-requires : goal.new-memory-requires
new-memory-requires c = c.requires.memory

pub new-requires : goal.new-requires
new-requires c = c.requires.adr.there

pub new-requires-2 : goal.new-requires-2
new-requires-2 c = (writers_there _ _ _ _ _ _ _ c.in-Some.is c.in-Some-we.is c.requires.writer).0

pub new-requires-3 : goal.new-requires-3
new-requires-3 c = (writers_there _ _ _ _ _ _ _ c.in-Some.is c.in-Some-we.is c.requires.writer).1

pub returns : goal.returns
returns c =
    written_by c.new-memory.result.sheet.now c.new.result.sheet.now c.new-2.result.sheet.now c.new-3.result.sheet.now c.args.sheet.now c.new-memory.result.place c.new.result.id c.new-2.result.id c.new-3.result.id c.args.port.now c.memory.result.now _ _
    c.new-memory.ensures.sheet c.new-memory.ensures.place c.new.ensures.sheet c.new.ensures.id c.new-2.ensures.sheet c.new-2.ensures.id c.new-3.ensures.sheet c.new-3.ensures.id c.memory.ensures.item c.in-Some.is c.in-Some-we.is
