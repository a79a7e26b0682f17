-- What a port writes to its memory.
use Rattle.std.specs.Prelude.{◌≡◌, ℕ, false, ◌*◌, List, [], Option, Some, None, flat_map}
use Rattle.lx_vtext.specs.Tree.{Name, VExpr, Net, Literal, Binary, VStmt, Assign, When, NoElse, VBlock, VAlways}
use Rattle.lx_fhdl.specs.Designs.{memory_at, port_of, shapes}
use Rattle.lx_fhdl.specs.declared.design.Port.{Port}
use Rattle.lx_emission.specs.Emission.{places_from}
use Rattle.lx_emission.specs.Memories.{WriteNames, block_of, field_text, guarded, memory_always, memory_body, part_text, parts_text, port_text, word_target, writes_text}
use Rattle.lx_sheet.specs.Plans.{Plan, memory_in, net_in}
use Rattle.lx_blocks.specs.declared.write.Write.{Write}
use Rattle.lx_vtext.specs.declared.operators.BinOp.TheVariants as op

-- the names of a memory and of the signals that write it
abbrev pub names_in : Write → WriteNames
names_in w = record {
  memory = memory_in w.memory.sheet.now w.memory.place;
  adr = net_in w.adr.sheet.now w.adr.id.0;
  dat_w = net_in w.dat_w.sheet.now w.dat_w.id.0;
  we = net_in w.we.sheet.now w.we.id.0;
}

-- the bits of its address, and the depth of its memory
abbrev pub bits_in : Write → ℕ
bits_in w = (shapes w.adr.sheet.now.design w.adr.id.0).bits

abbrev pub depth_in : Write → ℕ
depth_in w = (memory_at w.memory.sheet.now.design w.memory.place).depth

-- the assignment of part i
abbrev pub word_in : Write → ℕ → VStmt
word_in w i =
    let n = names_in w in
    Assign (word_target n.memory (Net n.adr) w.width (w.part * i) w.part) false (field_text n.dat_w w.width (w.part * i) w.part)

-- that where its bit of we is set
abbrev pub part_in : Write → ℕ → VStmt
part_in w i = part_text (names_in w) w.width w.part i

-- all parts
abbrev pub parts_in : Write → List VStmt
parts_in w = parts_text (names_in w) w.width w.part

-- an address below the depth
abbrev pub bound_text : Name → (bits depth : ℕ) → VExpr
bound_text n bits depth = Binary (Net n) op.Less (Literal bits false depth)

-- all parts, where the address is below the depth
abbrev pub bounded_in : Write → ℕ → VStmt
bounded_in w depth = When (bound_text (names_in w).adr (bits_in w) depth) (block_of (parts_in w)) NoElse

-- the same where an address may lie at or past the depth, and else all parts
abbrev pub write_in : Write → List VStmt
write_in w = guarded (names_in w).adr (bits_in w) (depth_in w) (parts_in w)

-- what a port writes, and what it writes to memory k
abbrev pub writes_in : Plan → Port → List VStmt
writes_in p q = writes_text p.design p.names (port_of q) (port_of q).writer

abbrev pub port_in : Plan → ℕ → Port → List VStmt
port_in p k q = port_text p.design p.names k (port_of q)

-- a write is what a port writes
abbrev pub IsWriteOf : Plan → Port → Option Write → Type 0
IsWriteOf p q None = writes_in p q ≡ []
IsWriteOf p q (Some w) = write_in w ≡ writes_in p q

abbrev pub memory_body_in : Plan → ℕ → VBlock
memory_body_in p k = memory_body p.design p.names k

abbrev pub memory_always_in : Plan → ℕ → List VAlways
memory_always_in p k = memory_always p.design p.names k

abbrev pub all_writes_in : Plan → List VAlways
all_writes_in p = flat_map (memory_always_in p) (places_from 0 p.design.memories)
