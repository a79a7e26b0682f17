-- Memories: what `Memory(..)` makes, and what its method `get_port` makes.
use Rattle.std.specs.Prelude.{ℕ, ℤ, zero, suc, pos, Bool, true, false, ◌+◌, ◌/◌, ◌^◌, nat_le, nat_lt, if◌then◌else◌, List, [], ◌∷◌, ◌++◌, length, map, codes, slice_get, Option, Some, None}
use Rattle.lx_text.specs.declared.faults.LimitKind.TheVariants as limit
use Rattle.lx_text.specs.declared.faults.Kind.TheVariants as kind
use Rattle.lx_text.specs.Limits.{limit_number}
use Rattle.lx_num.specs.Ints.{modulo, unsigned}
use Rattle.lx_fhdl.specs.declared.design.Memory.{Memory}
use Rattle.lx_fhdl.specs.declared.design.PortMode.{PortMode}
use Rattle.lx_fhdl.specs.declared.design.PortMode.TheVariants as mode
use Rattle.lx_fhdl.specs.declared.design.Signal.{Signal}
use Rattle.lx_fhdl.specs.declared.exprs.Expr.TheVariants as expr
use Rattle.lx_description.specs.declared.slaves.SlaveDecl.{SlaveDecl}
use Rattle.lx_description.specs.declared.slaves.SlaveKind.{SlaveKind}
use Rattle.lx_description.specs.declared.slaves.SlaveKind.TheVariants as slave
use Rattle.lx_state.specs.declared.machine.Machine.{Machine}
use Rattle.lx_state.specs.declared.machine.PortState.{PortState}
use Rattle.lx_state.specs.declared.machine.What.TheVariants as what
use Rattle.lx_state.specs.declared.values.Value.{Value}
use Rattle.lx_state.specs.declared.values.Value.TheVariants as value
use Rattle.lx_state.specs.Naming.{object_made}
use Rattle.lx_state.specs.Step.{Step, give, fault, or_fault, reads, ◌>>=◌}
use Rattle.lx_state.specs.Work.{one_more}
use Rattle.lx_objects.specs.Domains.{mention}
use Rattle.lx_objects.specs.Exprs.{put_expr}
use Rattle.lx_objects.specs.Signals.{new_signal}
use Rattle.lx_objects.specs.declared.memories.Extent.{Extent}
use Rattle.lx_objects.specs.declared.memories.PortCall.{PortCall}
use Rattle.lx_objects.specs.declared.memories.WritePins.{WritePins}
use Rattle.lx_objects.specs.declared.registers.Pin.{Pin}

-- ---- `Memory(..)`

-- a content is taken modulo 2 to the bits of a word
abbrev pub word_of : ℕ → ℤ → ℕ
word_of width z = modulo z (2 ^ width)

-- it has no path before it is described
abbrev pub new_memory : ℕ → ℕ → ℕ → List ℤ → Memory
new_memory line width depth contents = record { path = []; width = width; depth = depth; init = map (word_of width) contents; line = line }

-- a memory that answers on the bus
abbrev pub is_store : SlaveKind → Bool
is_store (slave.User xs) = false
is_store _ = true

unfoldable pub stores : List SlaveDecl → ℕ
stores [] = 0
stores (s ∷ ss) = if is_store s.kind then stores ss + 1 else stores ss

-- those on the bus are memories too
abbrev pub memory_count : Machine → ℕ
memory_count m = length m.memories + stores m.system.slaves

-- the words of all memories together
unfoldable pub spend_words : ℕ → ℕ → Step (Unit {0})
spend_words line count m = if nat_lt (limit_number limit.MemoryWords) (m.words + count)
    then fault line (kind.Limit limit.MemoryWords) m
    else give tt (record m { words = m.words + count })

unfoldable pub keep_memory : ℕ → Memory → Step (Unit {0})
keep_memory object x m = give tt (record m { memories = m.memories ++ x ∷ []; memory_objects = m.memory_objects ++ object ∷ [] })

-- a memory of so many bits a word and so many words, with the contents of the first ones
unfoldable pub memory_made : ℕ → ℕ → ℕ → List ℤ → Step Value
memory_made line width depth contents = do
  k ← reads (λ m. length m.memories)
  count ← reads memory_count
  _ ← one_more line limit.Memories count
  _ ← spend_words line depth
  object ← object_made (what.Memory k) line None
  _ ← keep_memory object (new_memory line width depth contents)
  give (value.Object object)

-- the bits and the number of a memory's words
abbrev pub some_extent : Option Memory → Option Extent
some_extent None = None
some_extent (Some x) = Some (record { width = x.width; depth = x.depth })

unfoldable pub extent_of : ℕ → ℕ → Step Extent
extent_of line k m = or_fault (some_extent (slice_get m.memories k)) line kind.WrongKind m

-- ---- the signals of a port

-- the least of so many numbers of bits, from b on, that hold n addresses
unfoldable pub address_bits_from : ℕ → ℕ → ℕ → ℕ
address_bits_from n zero b = b
address_bits_from n (suc more) b = if nat_le n (2 ^ b) then b else address_bits_from n more (b + 1)

-- the fewest bits, at least 1, that hold the addresses of n words; a memory has at most 65,536
abbrev pub address_bits : ℕ → ℕ
address_bits n = address_bits_from n 16 1

abbrev pub port_signal : ℕ → ℕ → Signal
port_signal line bits = record { path = []; shape = unsigned bits; reset = pos 0; reset_less = false; by_bus = false; line = line }

-- a signal that is a part of the port, and the expression that reads it
unfoldable pub pin_made : ℕ → ℕ → ℕ → List ℕ → Step Pin
pin_made line object bits part = do
  signal ← new_signal line (port_signal line bits) object (Some part)
  read ← put_expr line (expr.Sig signal)
  give (record { signal = signal; read = read })

-- what it writes, and one bit for each part of a word
unfoldable pub write_pins_made : ℕ → ℕ → ℕ → ℕ → Step (Option WritePins)
write_pins_made line object width part = do
  dat_w ← pin_made line object width (codes "dat_w")
  we ← pin_made line object (width / part) (codes "we")
  give (Some (record { dat_w = dat_w; we = we }))

abbrev pub write_pins : ℕ → ℕ → ℕ → PortCall → Step (Option WritePins)
write_pins line object width call m = if call.writes then write_pins_made line object width call.part m else give None m

-- ---- its domain

-- it works in none where it reads at once and can't write
abbrev pub works_in_domain : Bool → PortMode → Bool
works_in_domain writes mode.Async = writes
works_in_domain writes _ = true

unfoldable pub mention_some : ℕ → List ℕ → Step (Option ℕ)
mention_some line name = do
  domain ← mention line name
  give (Some domain)

abbrev pub port_domain : ℕ → PortCall → List ℕ → Step (Option ℕ)
port_domain line call name m = if works_in_domain call.writes call.mode then mention_some line name m else give None m

-- ---- `get_port`

-- a port that can't write, and one that can
abbrev pub new_port : PortCall → Option ℕ → Pin → Pin → Option WritePins → PortState
new_port call domain adr dat_r None = record {
  port = record { memory = call.memory; domain = domain; adr = adr.signal; dat_r = Some dat_r.signal; dat_w = None; we = None; part = call.part; mode = call.mode };
  adr = adr.read;
  dat_r = dat_r.read;
  writing = None;
}
new_port call domain adr dat_r (Some w) = record {
  port = record { memory = call.memory; domain = domain; adr = adr.signal; dat_r = Some dat_r.signal; dat_w = Some w.dat_w.signal; we = Some w.we.signal; part = call.part; mode = call.mode };
  adr = adr.read;
  dat_r = dat_r.read;
  writing = Some (record { dat_w = w.dat_w.read; we = w.we.read });
}

unfoldable pub keep_port : PortState → Step (Unit {0})
keep_port x m = give tt (record m { ports = m.ports ++ x ∷ [] })

-- its signals are made in this order, and then its domain is mentioned
unfoldable pub port_with_pins : ℕ → ℕ → Extent → PortCall → List ℕ → Step PortState
port_with_pins line object extent call name = do
  adr ← pin_made line object (address_bits extent.depth) (codes "adr")
  dat_r ← pin_made line object extent.width (codes "dat_r")
  writing ← write_pins line object extent.width call
  domain ← port_domain line call name
  give (new_port call domain adr dat_r writing)

-- a port of the memory, in the domain of this name if in any
unfoldable pub port_made : ℕ → PortCall → List ℕ → Step Value
port_made line call name = do
  extent ← extent_of line call.memory
  j ← reads (λ m. length m.ports)
  object ← object_made (what.Port j) line None
  port ← port_with_pins line object extent call name
  _ ← keep_port port
  give (value.Object object)
