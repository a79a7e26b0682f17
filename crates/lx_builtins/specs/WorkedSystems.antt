-- What a system's top is asked for, worked by hand.
use Rattle.std.specs.Prelude.{◌≡◌, ℕ, pos, Bool, true, false, ◌^◌, ◌+◌, ◌-◌, List, [], ◌∷◌, length, codes, Option, Some, None, Result, Ok}
use Rattle.lx_text.specs.declared.faults.Fault.{Fault}
use Rattle.lx_text.specs.declared.faults.Kind.TheVariants as kind
use Rattle.lx_text.specs.declared.faults.LimitKind.TheVariants as limit
use Rattle.lx_fhdl.specs.Instance.{the_signal}
use Rattle.lx_fhdl.specs.declared.places.Fix.{Fix}
use Rattle.lx_fhdl.specs.declared.places.RegionWish.{RegionWish}
use Rattle.lx_description.specs.declared.modules.ConstDecl.{ConstDecl}
use Rattle.lx_description.specs.declared.modules.ConstValue.{ConstValue}
use Rattle.lx_description.specs.declared.modules.ConstValue.TheVariants as constant
use Rattle.lx_description.specs.declared.slaves.SlaveDecl.{SlaveDecl}
use Rattle.lx_description.specs.declared.slaves.SlaveKind.{SlaveKind}
use Rattle.lx_description.specs.declared.slaves.SlaveKind.TheVariants as slave
use Rattle.lx_state.specs.declared.machine.InterfaceState.{InterfaceState}
use Rattle.lx_state.specs.declared.machine.Machine.{Machine}
use Rattle.lx_state.specs.declared.machine.ModuleKind.TheVariants as bases
use Rattle.lx_state.specs.declared.machine.RegionState.{RegionState}
use Rattle.lx_state.specs.declared.machine.What.TheVariants as what
use Rattle.lx_state.specs.declared.values.Builtin.TheVariants as builtin
use Rattle.lx_state.specs.declared.values.Method.{Method}
use Rattle.lx_state.specs.declared.values.Method.TheVariants as method
use Rattle.lx_state.specs.declared.values.Value.{Value}
use Rattle.lx_state.specs.declared.values.Value.TheVariants as value
use Rattle.lx_state.specs.Step.{Outcome}
use Rattle.lx_state.specs.Worked.{seen, start}
use Rattle.lx_ops.specs.Worked.{a_module, an_object, at_nine, int, items, value_of}
use Rattle.lx_builtins.specs.Calls.{builtin_called, method_called}
use Rattle.lx_builtins.specs.Worked.{given, minus}

abbrev pub an_interface : Bool → InterfaceState
an_interface handed = record { signals = the_signal 0 ∷ []; reads = []; handed = handed }

abbrev pub a_region : Option ℕ → ℕ → Bool → RegionState
a_region origin size cached = record { origin = origin; size = size; cached = cached }

-- a system with the texts "big", "little", "dev", "1" and `"`; the lists `[1, 2, -1]` and `["dev"]`; a region of 256 bytes, an
-- interface, and one that was handed over
abbrev pub system : Machine
system = record start {
  texts = codes "big" ∷ codes "little" ∷ codes "dev" ∷ codes "1" ∷ (34 ∷ []) ∷ [];
  lists = items (int 1 ∷ int 2 ∷ minus 0 ∷ []) ∷ items (value.Text 2 ∷ []) ∷ [];
  objects = an_object (what.Region 0) ∷ an_object (what.Interface 0) ∷ an_object (what.Interface 1) ∷ [];
  modules = a_module bases.Soc ∷ a_module bases.Plain ∷ [];
  regions = a_region None 256 false ∷ [];
  interfaces = an_interface false ∷ an_interface true ∷ [];
}

abbrev pub big : Value
big = value.Text 0

abbrev pub dev : Value
dev = value.Text 2

abbrev pub digit : Value
digit = value.Text 3

abbrev pub asked : Method → List Value → List (List ℕ) → List Value → Outcome Value
asked f placed names named = method_called 9 f (given placed names named) system

abbrev pub answer : Method → List Value → Result Value Fault
answer f placed = value_of (asked f placed [] [])

-- ---- options

abbrev pub base_and_line : Machine → ℕ × ℕ
base_and_line m = (m.system.base, m.system.line)

abbrev pub options : List Value → Result (ℕ × ℕ) Fault
options placed = seen base_and_line (asked (method.Init 0) placed [] [])

abbrev pub option : List ℕ → Value → Result (ℕ × ℕ) Fault
option name v = seen base_and_line (asked (method.Init 0) [] (name ∷ []) (v ∷ []))

-- Of `super().__init__` of a system.
pub record AreOptions : Type 0 where
  pub plain : options [] ≡ Ok (0xf0000000, 9)
  pub same : options (int 32 ∷ big ∷ int 0x800 ∷ int 0x1000 ∷ []) ≡ Ok (0x1000, 9)
  pub base : option (codes "csr_base") (int 5) ≡ Ok (5, 9)
  pub greatest_base : option (codes "csr_base") (int (2 ^ 64 - 1)) ≡ Ok (2 ^ 64 - 1, 9)
  pub past_the_greatest : option (codes "csr_base") (int (2 ^ 64)) ≡ at_nine kind.NumberRange
  pub below_zero : option (codes "csr_base") (minus 0) ≡ at_nine kind.NumberRange
  pub narrow : option (codes "csr_data_width") (int 8) ≡ at_nine (kind.BadOption (codes "csr_data_width"))
  pub little : option (codes "csr_ordering") (value.Text 1) ≡ at_nine (kind.BadOption (codes "csr_ordering"))
  pub paging : option (codes "csr_paging") (int 0x1000) ≡ at_nine (kind.BadOption (codes "csr_paging"))
  pub width_as_text : option (codes "csr_data_width") big ≡ at_nine kind.WrongKind
  pub ordering_as_integer : option (codes "csr_ordering") (int 0) ≡ at_nine kind.WrongKind
  pub base_as_text : option (codes "csr_base") big ≡ at_nine kind.WrongKind
  pub no_such_option : option (codes "cpu_type") value.Nothing ≡ at_nine kind.WrongCount
  -- the argument that stands first has the first fault
  pub first_placed : options (int 8 ∷ int 0 ∷ []) ≡ at_nine (kind.BadOption (codes "csr_data_width"))
  pub first_named : seen base_and_line (asked (method.Init 0) [] (codes "csr_base" ∷ codes "csr_paging" ∷ []) (minus 0 ∷ int 0 ∷ [])) ≡ at_nine kind.NumberRange
  -- another module has no options
  pub of_a_module : value_of (asked (method.Init 1) [] [] []) ≡ Ok value.Nothing
  pub option_of_a_module : value_of (asked (method.Init 1) (int 32 ∷ []) [] []) ≡ at_nine kind.WrongCount

-- ---- regions and interfaces

abbrev pub region : List Value → List (List ℕ) → List Value → Result (List RegionState) Fault
region placed names named = seen (λ m. m.regions) (builtin_called 9 builtin.SocRegion (given placed names named) (record system { regions = [] }))

abbrev pub interface : List Value → List (List ℕ) → List Value → Result ℕ Fault
interface placed names named = seen (λ m. length m.shaped.signals) (asked method.Interface placed names named)

-- Of `SoCRegion` and of `wishbone.Interface`.
pub record AreRegions : Type 0 where
  pub by_place : region (int 0x1000 ∷ int 64 ∷ int 0 ∷ []) [] [] ≡ Ok (a_region (Some 0x1000) 64 false ∷ [])
  pub by_name : region [] (codes "size" ∷ []) (int 64 ∷ []) ≡ Ok (a_region None 64 true ∷ [])
  pub anywhere : region (value.Nothing ∷ int 64 ∷ []) [] [] ≡ Ok (a_region None 64 true ∷ [])
  pub of_any_mode : region [] (codes "mode" ∷ codes "size" ∷ []) (value.Nothing ∷ int 64 ∷ []) ≡ Ok (a_region None 64 true ∷ [])
  pub mode_by_place : region (int 0 ∷ int 64 ∷ int 1 ∷ int 1 ∷ []) [] [] ≡ at_nine kind.WrongCount
  pub without_size : region (int 0 ∷ []) [] [] ≡ at_nine kind.WrongCount
  pub no_bytes : region (int 0 ∷ int 0 ∷ []) [] [] ≡ at_nine kind.BadWidth
  pub fewer_than_none : region (int 0 ∷ minus 0 ∷ []) [] [] ≡ at_nine kind.NumberRange
  pub all_addresses : region (int 0 ∷ int (2 ^ 32) ∷ []) [] [] ≡ Ok (a_region (Some 0) (2 ^ 32) true ∷ [])
  pub past_all_addresses : region (int 0 ∷ int (2 ^ 32 + 1) ∷ []) [] [] ≡ at_nine kind.BadWidth
  pub past_64_bits : region (int 0 ∷ int (2 ^ 64) ∷ []) [] [] ≡ at_nine kind.NumberRange
  pub origin_below_zero : region (minus 0 ∷ int 64 ∷ []) [] [] ≡ at_nine kind.NumberRange
  pub origin_as_text : region (big ∷ int 64 ∷ []) [] [] ≡ at_nine kind.WrongKind
  pub cached_as_none : region (int 0 ∷ int 64 ∷ value.Nothing ∷ []) [] [] ≡ at_nine kind.WrongKind
  -- the argument that stands first has the first fault
  pub origin_first : region (minus 0 ∷ int 0 ∷ []) [] [] ≡ at_nine kind.NumberRange
  pub size_first : region [] (codes "size" ∷ codes "origin" ∷ []) (int 0 ∷ minus 0 ∷ []) ≡ at_nine kind.BadWidth
  -- an interface has nine signals
  pub signals : interface [] [] [] ≡ Ok 9
  pub interface_of_any_mode : interface [] (codes "mode" ∷ []) (value.Nothing ∷ []) ≡ Ok 9
  pub interface_mode_by_place : interface (big ∷ []) [] [] ≡ at_nine kind.WrongCount

-- ---- what stands on the bus

abbrev pub wish : Option ℕ → ℕ → Bool → RegionWish
wish origin size cached = record { name = codes "dev"; origin = origin; size = size; cached = cached; line = 9 }

abbrev pub answering : SlaveKind → SlaveDecl
answering kind_ = record { name = codes "dev"; kind = kind_; line = 9 }

abbrev pub slaves : Method → List Value → Result (List SlaveDecl) Fault
slaves f placed = seen (λ m. m.system.slaves) (asked f placed [] [])

abbrev pub wishes : Method → List Value → Result (List RegionWish) Fault
wishes f placed = seen (λ m. m.system.regions) (asked f placed [] [])

-- where all words are taken
abbrev pub full : Machine
full = record system { words = 131072 }

-- Of `add_ram`, `add_rom` and `bus.add_slave`.
pub record AreOnTheBus : Type 0 where
  pub ram : slaves method.AddRam (dev ∷ value.Nothing ∷ int 16 ∷ []) ≡ Ok (answering (slave.Ram []) ∷ [])
  pub its_region : wishes method.AddRam (dev ∷ value.Nothing ∷ int 16 ∷ []) ≡ Ok (wish None 16 true ∷ [])
  pub rom : slaves method.AddRom (dev ∷ int 0x1000 ∷ int 16 ∷ value.List 0 ∷ []) ≡ Ok (answering (slave.Rom (1 ∷ 2 ∷ 4294967295 ∷ [])) ∷ [])
  pub region_of_rom : wishes method.AddRom (dev ∷ int 0x1000 ∷ int 16 ∷ value.List 0 ∷ []) ≡ Ok (wish (Some 0x1000) 16 true ∷ [])
  pub without_size : answer method.AddRam (dev ∷ value.Nothing ∷ []) ≡ at_nine kind.WrongCount
  pub no_bytes : answer method.AddRam (dev ∷ value.Nothing ∷ int 0 ∷ []) ≡ at_nine kind.BadWidth
  pub most_bytes : answer method.AddRam (dev ∷ value.Nothing ∷ int 262144 ∷ []) ≡ Ok value.Nothing
  pub many_bytes : answer method.AddRam (dev ∷ value.Nothing ∷ int 262145 ∷ []) ≡ at_nine kind.BadWidth
  pub fewer_than_none : answer method.AddRom (dev ∷ value.Nothing ∷ minus 0 ∷ []) ≡ at_nine kind.NumberRange
  pub as_many_contents : answer method.AddRom (dev ∷ value.Nothing ∷ int 9 ∷ value.List 0 ∷ []) ≡ Ok value.Nothing
  pub many_contents : answer method.AddRom (dev ∷ value.Nothing ∷ int 8 ∷ value.List 0 ∷ []) ≡ at_nine kind.WrongCount
  pub text_among_contents : answer method.AddRom (dev ∷ value.Nothing ∷ int 8 ∷ value.List 1 ∷ []) ≡ at_nine kind.WrongKind
  pub no_room : value_of (method_called 9 method.AddRam (given (dev ∷ value.Nothing ∷ int 1 ∷ []) [] []) full) ≡ at_nine (kind.Limit limit.MemoryWords)
  -- more contents than words come before the limits
  pub many_contents_first : value_of (method_called 9 method.AddRam (given (dev ∷ value.Nothing ∷ int 8 ∷ value.List 0 ∷ []) [] []) full) ≡ at_nine kind.WrongCount
  pub no_identifier : answer method.AddRam (digit ∷ value.Nothing ∷ int 0 ∷ []) ≡ at_nine kind.BadKey
  -- slaves of the circuit
  pub through_interface : slaves method.AddSlave (dev ∷ value.Object 1 ∷ value.Object 0 ∷ []) ≡ Ok (answering (slave.User (the_signal 0 ∷ [])) ∷ [])
  pub region_of_slave : wishes method.AddSlave (dev ∷ value.Object 1 ∷ value.Object 0 ∷ []) ≡ Ok (wish None 256 false ∷ [])
  pub handed_over_twice : answer method.AddSlave (dev ∷ value.Object 2 ∷ value.Object 0 ∷ []) ≡ at_nine kind.WrongKind
  pub region_as_interface : answer method.AddSlave (dev ∷ value.Object 0 ∷ value.Object 0 ∷ []) ≡ at_nine kind.WrongKind
  pub interface_as_region : answer method.AddSlave (dev ∷ value.Object 1 ∷ value.Object 1 ∷ []) ≡ at_nine kind.WrongKind
  pub without_region : answer method.AddSlave (dev ∷ value.Object 1 ∷ []) ≡ at_nine kind.WrongCount
  -- the argument that stands first has the first fault
  pub name_first : answer method.AddSlave (digit ∷ value.Object 2 ∷ value.Object 0 ∷ []) ≡ at_nine kind.BadKey
  pub interface_first : value_of (asked method.AddSlave [] (codes "slave" ∷ codes "region" ∷ codes "name" ∷ []) (value.Object 2 ∷ value.Object 0 ∷ digit ∷ [])) ≡ at_nine kind.WrongKind

-- ---- numbers and constants

abbrev pub fix : Option ℕ → Fix
fix number = record { name = codes "dev"; number = number; line = 9 }

abbrev pub banks : List Value → Result (List Fix) Fault
banks placed = seen (λ m. m.system.fixes) (asked method.AddBank placed [] [])

abbrev pub interrupts : List Value → Result (List Fix) Fault
interrupts placed = seen (λ m. m.system.irqs) (asked method.AddInterrupt placed [] [])

abbrev pub constants : List Value → Result (List ConstDecl) Fault
constants placed = seen (λ m. m.system.constants) (asked method.AddConstant placed [] [])

abbrev pub a_constant : ConstValue → ConstDecl
a_constant v = record { name = codes "dev"; value = v; line = 9 }

-- Of `csr.add`, `irq.add` and `add_constant`.
pub record AreNumbered : Type 0 where
  pub bank : banks (dev ∷ int 3 ∷ []) ≡ Ok (fix (Some 3) ∷ [])
  pub any_bank : banks (dev ∷ []) ≡ Ok (fix None ∷ [])
  pub no_bank_named : banks (dev ∷ value.Nothing ∷ []) ≡ Ok (fix None ∷ [])
  pub interrupt : interrupts (dev ∷ int 3 ∷ []) ≡ Ok (fix (Some 3) ∷ [])
  pub any_interrupt : interrupts (dev ∷ []) ≡ Ok (fix None ∷ [])
  -- whether there is such a number is told by placement
  pub greatest : banks (dev ∷ int (2 ^ 32 - 1) ∷ []) ≡ Ok (fix (Some (2 ^ 32 - 1)) ∷ [])
  pub past_the_greatest : banks (dev ∷ int (2 ^ 32) ∷ []) ≡ at_nine kind.NumberRange
  pub below_zero : interrupts (dev ∷ minus 0 ∷ []) ≡ at_nine kind.NumberRange
  pub number_as_text : interrupts (dev ∷ dev ∷ []) ≡ at_nine kind.WrongKind
  pub no_identifier : banks (digit ∷ minus 0 ∷ []) ≡ at_nine kind.BadKey
  pub no_name : banks [] ≡ at_nine kind.WrongCount
  pub constant_number : constants (dev ∷ int 5 ∷ []) ≡ Ok (a_constant (constant.Number (pos 5)) ∷ [])
  pub constant_text : constants (dev ∷ big ∷ []) ≡ Ok (a_constant (constant.Text (codes "big")) ∷ [])
  pub without_value : constants (dev ∷ []) ≡ Ok (a_constant constant.Nothing ∷ [])
  pub no_value : constants (dev ∷ value.Nothing ∷ []) ≡ Ok (a_constant constant.Nothing ∷ [])
  pub constant_of_65_bits : constants (dev ∷ int (2 ^ 64) ∷ []) ≡ at_nine kind.NumberRange
  pub quote : constants (dev ∷ value.Text 4 ∷ []) ≡ at_nine kind.BadKey
  pub constant_list : constants (dev ∷ value.List 0 ∷ []) ≡ at_nine kind.WrongKind
