-- Memories and their ports, worked by hand.
use Rattle.std.specs.Prelude.{◌≡◌, ℕ, zero, suc, ℤ, pos, negsuc, Bool, true, false, List, [], ◌∷◌, map, codes, Some, None, Ok, Err}
use Rattle.lx_text.specs.declared.faults.LimitKind.TheVariants as limit
use Rattle.lx_text.specs.declared.faults.Kind.TheVariants as kind
use Rattle.lx_num.specs.Ints.{unsigned}
use Rattle.lx_fhdl.specs.Instance.{the_expr, the_signal}
use Rattle.lx_fhdl.specs.declared.design.Memory.{Memory}
use Rattle.lx_fhdl.specs.declared.design.PortMode.{PortMode}
use Rattle.lx_fhdl.specs.declared.design.PortMode.TheVariants as mode
use Rattle.lx_fhdl.specs.declared.design.Signal.{Signal}
use Rattle.lx_state.specs.declared.machine.Machine.{Machine}
use Rattle.lx_state.specs.declared.machine.Object.{Object}
use Rattle.lx_state.specs.declared.machine.PortState.{PortState}
use Rattle.lx_state.specs.declared.machine.What.{What}
use Rattle.lx_state.specs.declared.machine.What.TheVariants as what
use Rattle.lx_state.specs.declared.values.Value.{Value}
use Rattle.lx_state.specs.Step.{Outcome, ◌>>=◌}
use Rattle.lx_state.specs.Worked.{seen, start}
use Rattle.lx_objects.specs.Memories.{address_bits, memory_made, port_made}
use Rattle.lx_objects.specs.Worked.{a_part, bind_many, clocked, domain_names, owners}
use Rattle.lx_objects.specs.declared.memories.PortCall.{PortCall}

-- ---- memories

-- `Memory(8, 4, init=[1, 258, -1])` where so many words are there
abbrev pub stored : ℕ → Outcome Value
stored words = memory_made 9 8 4 (pos 1 ∷ pos 258 ∷ negsuc 0 ∷ []) (record start { words = words })

abbrev pub memories : Machine → List Memory
memories m = m.memories

abbrev pub words_made : Machine → ℕ
words_made m = m.words

abbrev pub memory_objects : Machine → List ℕ
memory_objects m = m.memory_objects

abbrev pub kinds : Machine → List What
kinds m = map (λ (o : Object). o.what) m.objects

-- a memory without contents, of words of 8 bits
abbrev pub a_memory : ℕ → Memory
a_memory depth = record { path = []; width = 8; depth = depth; init = []; line = 1 }

abbrev pub many_memories : ℕ → List Memory
many_memories zero = []
many_memories (suc k) = a_memory 1 ∷ many_memories k

-- where so many memories and words are there
abbrev pub full : ℕ → ℕ → Machine
full count words = record start { memories = many_memories count; words = words }

-- ---- ports

-- a call for a port of the one memory, in parts of 4 bits
abbrev pub asked : Bool → PortMode → PortCall
asked writes mode_ = record { memory = 0; writes = writes; mode = mode_; part = 4 }

-- a port in the domain `pix`, of a memory of words of 8 bits
abbrev pub port_of : ℕ → PortCall → Outcome Value
port_of depth call = port_made 9 call (codes "pix") (record start { memories = a_memory depth ∷ [] })

abbrev pub ports : Machine → List PortState
ports m = m.ports

abbrev pub signals : Machine → List Signal
signals m = m.shaped.signals

abbrev pub a_signal : ℕ → Signal
a_signal bits = record { path = []; shape = unsigned bits; reset = pos 0; reset_less = false; by_bus = false; line = 9 }

-- Of memories.
pub record AreStored : Type 0 where
  -- each content is taken modulo 2 to the bits of a word, in its place
  pub memory : seen memories (stored 0) ≡ Ok (record { path = []; width = 8; depth = 4; init = 1 ∷ 2 ∷ 255 ∷ []; line = 9 } ∷ [])
  pub all_bits : seen memories (memory_made 9 64 1 (negsuc 0 ∷ []) start) ≡ Ok (record { path = []; width = 64; depth = 1; init = 18446744073709551615 ∷ []; line = 9 } ∷ [])
  pub object : seen kinds (stored 0) ≡ Ok (what.Memory 0 ∷ [])
  pub place : seen memory_objects ((memory_made 9 8 4 [] >>= λ _. memory_made 9 8 4 []) start) ≡ Ok (0 ∷ 1 ∷ [])
  -- all words count, also those without contents
  pub words : seen words_made (stored 6) ≡ Ok 10
  pub last_words : seen words_made (stored 131068) ≡ Ok 131072
  pub too_many_words : seen words_made (stored 131069) ≡ Err (record { line = 9; kind = kind.Limit limit.MemoryWords })
  pub last_memory : seen words_made (memory_made 9 8 4 [] (full 1023 0)) ≡ Ok 4
  pub too_many_memories : seen words_made (memory_made 9 8 4 [] (full 1024 131072)) ≡ Err (record { line = 9; kind = kind.Limit limit.Memories })

-- Of ports.
pub record HavePorts : Type 0 where
  -- an address below the depth, and at least one bit
  pub one_word : address_bits 1 ≡ 1
  pub two_words : address_bits 2 ≡ 1
  pub three_words : address_bits 3 ≡ 2
  pub four_words : address_bits 4 ≡ 2
  pub five_words : address_bits 5 ≡ 3
  pub most_words : address_bits 65536 ≡ 16
  -- the signals of a port are its parts, in this order
  pub own_signals : seen signals (port_of 5 (asked true mode.WriteFirst)) ≡ Ok (a_signal 3 ∷ a_signal 8 ∷ a_signal 8 ∷ a_signal 2 ∷ [])
  pub parts : seen owners (port_of 5 (asked true mode.WriteFirst)) ≡ Ok (a_part (codes "adr") ∷ a_part (codes "dat_r") ∷ a_part (codes "dat_w") ∷ a_part (codes "we") ∷ [])
  pub read_signals : seen signals (port_of 4 (asked false mode.NoChange)) ≡ Ok (a_signal 2 ∷ a_signal 8 ∷ [])
  pub object : seen kinds (port_of 5 (asked true mode.WriteFirst)) ≡ Ok (what.Port 0 ∷ [])
  pub writer : seen ports (port_of 5 (asked true mode.ReadFirst)) ≡ Ok (record {
    port = record { memory = 0; domain = Some 0; adr = the_signal 0; dat_r = Some (the_signal 1); dat_w = Some (the_signal 2); we = Some (the_signal 3); part = 4; mode = mode.ReadFirst };
    adr = the_expr 0;
    dat_r = the_expr 1;
    writing = Some (record { dat_w = the_expr 2; we = the_expr 3 });
  } ∷ [])
  -- a port that reads at once and can't write works in no domain, and mentions none
  pub reader : seen ports (port_of 5 (asked false mode.Async)) ≡ Ok (record {
    port = record { memory = 0; domain = None; adr = the_signal 0; dat_r = Some (the_signal 1); dat_w = None; we = None; part = 4; mode = mode.Async };
    adr = the_expr 0;
    dat_r = the_expr 1;
    writing = None;
  } ∷ [])
  pub mentions_none : seen domain_names (port_of 5 (asked false mode.Async)) ≡ Ok []
  pub reader_mentions : seen domain_names (port_of 5 (asked false mode.WriteFirst)) ≡ Ok (codes "pix" ∷ [])
  pub writer_mentions : seen domain_names (port_of 5 (asked true mode.Async)) ≡ Ok (codes "pix" ∷ [])
  pub too_many_domains : seen domain_names ((bind_many 15 >>= λ _. port_made 9 (asked true mode.Async) (codes "pix")) (record clocked { memories = a_memory 5 ∷ [] })) ≡ Err (record { line = 9; kind = kind.Limit limit.Domains })
