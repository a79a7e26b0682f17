-- The text of memories: their declarations, their first words, and what their ports write.
use Rattle.std.specs.Prelude.{ℕ, Bool, false, List, [], ◌∷◌, Option, Some, None, ◌+◌, ◌-◌, ◌*◌, ◌/◌, ◌^◌, nat_eq, nat_le, ◌&&◌, is_some, map, flat_map, if◌then◌else◌}
use Rattle.std.specs.List.{range_with_len}
use Rattle.lx_circuit.specs.Memories.{Memory, Writer, Port}
use Rattle.lx_circuit.specs.Circuit.{first_word}
use Rattle.lx_vtext.specs.declared.operators.BinOp.TheVariants as op
use Rattle.lx_vtext.specs.Tree.{Name, VExpr, Literal, Net, PartSelect, Binary, VTarget, WholeWord, PartWord, VStmt, Assign, When, NoElse, VBlock, EndBlock, InBlock, VMemory, VSet, VAlways}
use Rattle.lx_fhdl.specs.Designs.{circuit_of, memory_at, shapes}
use Rattle.lx_fhdl.specs.declared.design.Design.{Design}
use Rattle.lx_emission.specs.Naming.{net, clock, memory_name}
use Rattle.lx_emission.specs.Texts.{covers}

-- ---- declarations and first words

abbrev pub memory_decl : Name → Memory → VMemory
memory_decl n x = record { bits = x.width; name = n; depth = x.depth }

-- the line of word k: its content, or 0
abbrev pub set_line : Name → Memory → ℕ → VSet
set_line n x k = record { name = n; index = k; value = record { bits = x.width; signed = false; value = first_word x k } }

-- the initial block: a line for every word
unfoldable pub first_words : Name → Memory → List VSet
first_words n x = map (set_line n x) (range_with_len 0 x.depth)

-- ---- what a port writes

-- bits low to low + len - 1 of a net, or of a word, of so many bits; a select never covers its name
abbrev pub field_text : Name → ℕ → ℕ → ℕ → VExpr
field_text n bits low len = if covers bits low len then Net n else PartSelect n (low + len - 1) low

abbrev pub word_target : Name → VExpr → ℕ → ℕ → ℕ → VTarget
word_target n index bits low len = if covers bits low len then WholeWord n index else PartWord n index (low + len - 1) low

-- the names of a memory and of a port's adr, dat_w and we
pub record WriteNames : Type 0 where
  pub memory : Name
  pub adr : Name
  pub dat_w : Name
  pub we : Name

-- if (we[i:i]) memory[adr][hi:lo] <= dat_w[hi:lo];
abbrev pub part_text : WriteNames → (width part i : ℕ) → VStmt
part_text n width part i =
    When (field_text n.we (width / part) i 1)
    (InBlock (Assign (word_target n.memory (Net n.adr) width (part * i) part) false (field_text n.dat_w width (part * i) part)) EndBlock)
    NoElse

abbrev pub block_of : List VStmt → VBlock
block_of [] = EndBlock
block_of (s ∷ ss) = InBlock s (block_of ss)

-- if (adr < depth), where an address of so many bits may lie at or past the depth
abbrev pub guarded : Name → (bits depth : ℕ) → List VStmt → List VStmt
guarded adr bits depth ss =
    if nat_le (2 ^ bits) depth then ss
    else When (Binary (Net adr) op.Less (Literal bits false depth)) (block_of ss) NoElse ∷ []

-- the parts of a word in their order, each where its bit of we is set
abbrev pub parts_text : WriteNames → (width part : ℕ) → List VStmt
parts_text n width part = map (part_text n width part) (range_with_len 0 (width / part))

abbrev pub write_names : Design → List Name → Port → Writer → WriteNames
write_names d names q w = record { memory = memory_name d names q.memory; adr = net names q.adr; dat_w = net names w.from; we = net names w.we }

-- what a port writes to its memory
abbrev pub writes_text : Design → List Name → Port → Option Writer → List VStmt
writes_text d names q None = []
writes_text d names q (Some w) =
    let m = memory_at d q.memory in
    guarded (net names q.adr) (shapes d q.adr).bits m.depth (parts_text (write_names d names q w) m.width w.part)

-- what it writes to memory k
unfoldable pub port_text : Design → List Name → ℕ → Port → List VStmt
port_text d names k q = if nat_eq q.memory k then writes_text d names q q.writer else []

-- the writes of all ports, in their order: the later one wins
unfoldable pub memory_body : Design → List Name → ℕ → VBlock
memory_body d names k = block_of (flat_map (port_text d names k) (circuit_of d).ports)

-- ---- the clocked block

abbrev pub writes_memory : ℕ → Port → Bool
writes_memory k q = nat_eq q.memory k && is_some q.writer

-- the domain of the first port that writes memory k
abbrev pub writing_domain : ℕ → List Port → Option ℕ
writing_domain k [] = None
writing_domain k (q ∷ qs) = if writes_memory k q then q.domain else writing_domain k qs

abbrev pub clocked : Design → VBlock → Option ℕ → List VAlways
clocked d body None = []
clocked d body (Some x) = record { clock = Some (clock d x); body = body } ∷ []

-- one block for a memory that has writers, at the rise of their domain's clock
unfoldable pub memory_always : Design → List Name → ℕ → List VAlways
memory_always d names k = clocked d (memory_body d names k) (writing_domain k (circuit_of d).ports)
