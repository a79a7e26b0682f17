-- Systems, worked by hand.
use Rattle.std.specs.Prelude.{◌≡◌, ℕ, zero, suc, pos, negsuc, Bool, true, false, List, [], ◌∷◌, map, codes, Option, Some, None, Ok, Err}
use Rattle.lx_text.specs.declared.faults.LimitKind.TheVariants as limit
use Rattle.lx_text.specs.declared.faults.Kind.TheVariants as kind
use Rattle.lx_num.specs.Ints.{unsigned}
use Rattle.lx_fhdl.specs.Instance.{the_signal}
use Rattle.lx_fhdl.specs.declared.design.Signal.{Signal}
use Rattle.lx_fhdl.specs.declared.places.RegionWish.{RegionWish}
use Rattle.lx_description.specs.declared.slaves.SlaveDecl.{SlaveDecl}
use Rattle.lx_description.specs.declared.slaves.SlaveKind.{SlaveKind}
use Rattle.lx_description.specs.declared.slaves.SlaveKind.TheVariants as slave
use Rattle.lx_state.specs.declared.machine.InterfaceState.{InterfaceState}
use Rattle.lx_state.specs.declared.machine.Machine.{Machine}
use Rattle.lx_state.specs.declared.machine.Object.{Object}
use Rattle.lx_state.specs.declared.machine.RegionState.{RegionState}
use Rattle.lx_state.specs.declared.values.Value.{Value}
use Rattle.lx_state.specs.Step.{Outcome, Step, ◌>>=◌}
use Rattle.lx_state.specs.Worked.{seen, start}
use Rattle.lx_objects.specs.Systems.{add_region, interface_made, set_base, slave_added, store_made, system_begun, words_of}
use Rattle.lx_objects.specs.Worked.{a_part, declared, domains, nodes, owners}
use Rattle.lx_objects.specs.WorkedMemories.{full, signals, words_made}

-- ---- how a system begins

abbrev pub a_port : ℕ → Signal
a_port bits = record { path = []; shape = unsigned bits; reset = pos 0; reset_less = false; by_bus = false; line = 0 }

abbrev pub given_names : Machine → List (Option (List ℕ))
given_names m = map (λ (o : Object). o.given) m.objects

-- the address of the registers, and the line that states it
abbrev pub base : Machine → ℕ × ℕ
base m = (m.system.base, m.system.line)

-- ---- regions

abbrev pub a_region : Option ℕ → ℕ → RegionState
a_region origin size = record { origin = origin; size = size; cached = true }

abbrev pub a_wish : Option ℕ → ℕ → RegionWish
a_wish origin size = record { name = codes "r"; origin = origin; size = size; cached = true; line = 9 }

abbrev pub a_slave : SlaveKind → SlaveDecl
a_slave answers = record { name = codes "r"; kind = answers; line = 9 }

abbrev pub wishes : Machine → List RegionWish
wishes m = m.system.regions

abbrev pub slaves : Machine → List SlaveDecl
slaves m = m.system.slaves

-- `add_ram("r", 16, 6, contents=[1, 2^32 + 2, -1])`, or `add_rom`, where so many words of memories are there
abbrev pub stored : Bool → ℕ → Outcome Value
stored writes words = store_made 9 writes (codes "r") (Some 16) 6 (pos 1 ∷ pos 4294967298 ∷ negsuc 0 ∷ []) (record start { words = words })

abbrev pub many_wishes : ℕ → List RegionWish
many_wishes zero = []
many_wishes (suc k) = a_wish None 4 ∷ many_wishes k

-- where so many regions were added
abbrev pub crowded : ℕ → Machine
crowded count = record start { system = record start.system { regions = many_wishes count } }

-- where so many memories are there, and two on the bus
abbrev pub with_stores : ℕ → Machine
with_stores count = record (full count 0) { system = record start.system { slaves = a_slave (slave.Ram []) ∷ a_slave (slave.Rom []) ∷ a_slave (slave.User []) ∷ [] } }

-- ---- interfaces

abbrev pub interfaces : Machine → List Bool
interfaces m = map (λ (x : InterfaceState). x.handed) m.interfaces

abbrev pub interface_added : Step Value
interface_added = interface_made 9 >>= λ _. slave_added 9 (codes "r") 0 (a_region None 8)

-- Of systems.
pub record AreSystems : Type 0 where
  -- the ports of the bus, and `sys` with a reset
  pub ports : seen signals (system_begun start) ≡ Ok (a_port 30 ∷ a_port 32 ∷ a_port 4 ∷ a_port 1 ∷ a_port 1 ∷ a_port 1 ∷ a_port 32 ∷ a_port 1 ∷ a_port 1 ∷ a_port 32 ∷ [])
  pub port_names : seen given_names (system_begun start) ≡ Ok (Some (codes "wb_adr") ∷ Some (codes "wb_dat_w") ∷ Some (codes "wb_sel") ∷ Some (codes "wb_cyc") ∷ Some (codes "wb_stb") ∷ Some (codes "wb_we") ∷ Some (codes "wb_dat_r") ∷ Some (codes "wb_ack") ∷ Some (codes "wb_err") ∷ Some (codes "irq") ∷ [])
  pub begun_domains : seen domains (system_begun start) ≡ Ok ((codes "sys", declared true) ∷ [])
  -- the last call counts
  pub last_base : seen base ((set_base 8 4096 >>= λ _. set_base 9 8192) start) ≡ Ok (8192, 9)
  -- words of 32 bits, and contents modulo 2 to their bits
  pub six_bytes : words_of 6 ≡ 2
  pub four_bytes : words_of 4 ≡ 1
  pub ram_wish : seen wishes (stored true 0) ≡ Ok (a_wish (Some 16) 6 ∷ [])
  pub ram : seen slaves (stored true 0) ≡ Ok (a_slave (slave.Ram (1 ∷ 2 ∷ 4294967295 ∷ [])) ∷ [])
  pub rom : seen slaves (stored false 0) ≡ Ok (a_slave (slave.Rom (1 ∷ 2 ∷ 4294967295 ∷ [])) ∷ [])
  pub last_words : seen words_made (stored true 131070) ≡ Ok 131072
  pub too_many_words : seen words_made (stored true 131071) ≡ Err (record { line = 9; kind = kind.Limit limit.MemoryWords })
  -- memories on the bus are memories too
  pub last_memory : seen words_made (store_made 9 true (codes "r") None 4 [] (with_stores 1021)) ≡ Ok 1
  pub too_many_memories : seen words_made (store_made 9 true (codes "r") None 4 [] (with_stores 1022)) ≡ Err (record { line = 9; kind = kind.Limit limit.Memories })
  -- the region of the registers is one of 64
  pub last_region : seen nodes (add_region 9 (codes "r") (a_region None 4) (slave.Ram []) (crowded 62)) ≡ Ok 0
  pub too_many_regions : seen nodes (add_region 9 (codes "r") (a_region None 4) (slave.Ram []) (crowded 63)) ≡ Err (record { line = 9; kind = kind.Limit limit.Regions })
  -- nine signals, which nothing gives, and which are handed over once
  pub interface : seen signals (interface_made 9 start) ≡ Ok (record (a_port 30) { line = 9 } ∷ record (a_port 32) { line = 9 } ∷ record (a_port 32) { line = 9 } ∷ record (a_port 4) { line = 9 } ∷ record (a_port 1) { line = 9 } ∷ record (a_port 1) { line = 9 } ∷ record (a_port 1) { line = 9 } ∷ record (a_port 1) { line = 9 } ∷ record (a_port 1) { line = 9 } ∷ [])
  pub interface_parts : seen owners (interface_made 9 start) ≡ Ok (a_part (codes "adr") ∷ a_part (codes "dat_w") ∷ a_part (codes "dat_r") ∷ a_part (codes "sel") ∷ a_part (codes "cyc") ∷ a_part (codes "stb") ∷ a_part (codes "we") ∷ a_part (codes "ack") ∷ a_part (codes "err") ∷ [])
  pub handed_over : seen interfaces (interface_added start) ≡ Ok (true ∷ [])
  pub answers : seen slaves (interface_added start) ≡ Ok (a_slave (slave.User (the_signal 0 ∷ the_signal 1 ∷ the_signal 2 ∷ the_signal 3 ∷ the_signal 4 ∷ the_signal 5 ∷ the_signal 6 ∷ the_signal 7 ∷ the_signal 8 ∷ [])) ∷ [])
  pub handed_over_twice : seen nodes ((interface_added >>= λ _. slave_added 8 (codes "q") 0 (a_region None 8)) start) ≡ Err (record { line = 8; kind = kind.WrongKind })
