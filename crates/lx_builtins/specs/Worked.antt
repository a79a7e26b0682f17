-- Built-in names, worked by hand.
use Rattle.std.specs.Prelude.{◌≡◌, ℕ, ℤ, Bool, pos, negsuc, ◌^◌, true, false, List, [], ◌∷◌, ◌++◌, length, map, codes, Option, Some, None, is_some, Result, Ok}
use Rattle.lx_text.specs.declared.faults.Fault.{Fault}
use Rattle.lx_text.specs.declared.faults.Kind.TheVariants as kind
use Rattle.lx_num.specs.Ints.{shape}
use Rattle.lx_num.specs.declared.Shape.{Shape}
use Rattle.lx_text.specs.declared.faults.LimitKind.TheVariants as limit
use Rattle.lx_fhdl.specs.Instance.{the_expr, the_signal, the_target}
use Rattle.lx_fhdl.specs.declared.design.Memory.{Memory}
use Rattle.lx_fhdl.specs.declared.design.PortMode.{PortMode}
use Rattle.lx_fhdl.specs.declared.design.PortMode.TheVariants as mode
use Rattle.lx_fhdl.specs.declared.design.Signal.{Signal}
use Rattle.lx_fhdl.specs.declared.exprs.Expr.TheVariants as expr
use Rattle.lx_state.specs.declared.machine.Binding.TheVariants as binding
use Rattle.lx_state.specs.declared.machine.Leaves.TheVariants as leaves
use Rattle.lx_state.specs.declared.machine.Machine.{Machine}
use Rattle.lx_state.specs.declared.machine.Object.{Object}
use Rattle.lx_state.specs.declared.machine.PortState.{PortState}
use Rattle.lx_state.specs.declared.machine.What.{What}
use Rattle.lx_state.specs.declared.machine.What.TheVariants as what
use Rattle.lx_state.specs.declared.machine.Fsm.{Fsm}
use Rattle.lx_state.specs.declared.machine.Made.{Made}
use Rattle.lx_state.specs.declared.machine.Form.{Form}
use Rattle.lx_state.specs.declared.machine.Form.TheVariants as form
use Rattle.lx_state.specs.declared.values.Method.{Method}
use Rattle.lx_state.specs.declared.values.Method.TheVariants as method
use Rattle.lx_state.specs.declared.values.Builtin.{Builtin}
use Rattle.lx_state.specs.declared.values.Builtin.TheVariants as builtin
use Rattle.lx_state.specs.declared.values.Value.{Value}
use Rattle.lx_state.specs.declared.values.Value.TheVariants as value
use Rattle.lx_state.specs.Step.{Outcome}
use Rattle.lx_state.specs.Worked.{seen, spent, start}
use Rattle.lx_objects.specs.Fsms.{new_fsm}
use Rattle.lx_ops.specs.Worked.{a, an_object, at_nine, expr_at, int, items, some, top, value_of, values_at, w}
use Rattle.lx_builtins.specs.Calls.{builtin_called, method_called}
use Rattle.lx_builtins.specs.Numbers.{steps_from}
use Rattle.lx_builtins.specs.declared.arguments.Arguments.{Arguments}

-- arguments without names, and with them
abbrev pub given : List Value → List (List ℕ) → List Value → Arguments
given placed names named = record { placed = placed; names = names; named = named; part = None }

abbrev pub call : Builtin → List Value → Machine → Outcome Value
call b placed m = builtin_called 9 b (given placed [] []) m

-- `Signal` with one named argument
abbrev pub signal_with : List ℕ → Value → Machine → Outcome Value
signal_with name v m = builtin_called 9 builtin.Signal (given [] (name ∷ []) (v ∷ [])) m

abbrev pub minus : ℕ → Value
minus n = value.Int (negsuc n)

abbrev pub shapes : Machine → List Shape
shapes m = map (λ (x : Signal). x.shape) m.shaped.signals

abbrev pub resets : Machine → List ℤ
resets m = map (λ (x : Signal). x.reset) m.shaped.signals

abbrev pub list_count : Machine → ℕ
list_count m = length m.lists

-- with the texts "a b" and "x", and the tuple `(4, True)`
abbrev pub named : Machine
named = record start {
  texts = codes "a b" ∷ codes "x" ∷ [];
  lists = record { values = int 4 ∷ int 1 ∷ []; depth = 1; leaves = leaves.Others; size = 0; named = binding.Nowhere } ∷ [];
}

-- with the texts "pix" and "1"
abbrev pub crossing : Machine
crossing = record some { texts = codes "pix" ∷ codes "1" ∷ [] }

-- `MultiReg` with arguments that have names
abbrev pub crossed : List Value → List (List ℕ) → List Value → Result Value Fault
crossed placed names named = value_of (builtin_called 9 builtin.MultiReg (given placed names named) crossing)

abbrev pub kinds : Machine → List What
kinds m = map (λ (o : Object). o.what) m.objects

abbrev pub a_clock_domain : Bool → What
a_clock_domain reset = what.ClockDomain (record { reset = reset; bound = false })

abbrev pub domain_names : Machine → List (List ℕ)
domain_names m = map (λ e. e.0) m.domains

-- Of `ClockDomain` and `MultiReg`.
pub record AreClocked : Type 0 where
  pub with_reset : seen kinds (call builtin.ClockDomain [] start) ≡ Ok (a_clock_domain true ∷ [])
  pub without_reset : seen kinds (call builtin.ClockDomain (int 1 ∷ []) start) ≡ Ok (a_clock_domain false ∷ [])
  pub with_a_name : value_of (builtin_called 9 builtin.ClockDomain (given [] (codes "name" ∷ []) (value.Text 0 ∷ [])) crossing) ≡ at_nine kind.WrongCount
  -- two registers in `sys` where nothing else is said, of the shape of the value
  pub two_registers : seen shapes (call builtin.MultiReg (a ∷ w ∷ []) crossing) ≡ Ok (shape 4 false ∷ shape 64 false ∷ shape 4 false ∷ shape 4 false ∷ [])
  pub in_sys : seen domain_names (call builtin.MultiReg (a ∷ w ∷ []) crossing) ≡ Ok (codes "sys" ∷ [])
  pub in_pix : seen domain_names (call builtin.MultiReg (int 5 ∷ w ∷ value.Text 0 ∷ int 1 ∷ []) crossing) ≡ Ok (codes "pix" ∷ [])
  pub a_slice : crossed (a ∷ value.Expr (the_expr 2) ∷ []) [] [] ≡ at_nine kind.WrongKind
  pub wide_integer : crossed (int (2 ^ 64) ∷ w ∷ []) [] [] ≡ at_nine kind.BadWidth
  pub wider_integer : crossed (value.Int (negsuc (2 ^ 126)) ∷ w ∷ []) [] [] ≡ at_nine (kind.TooWide 128)
  -- the argument that stands first has the first fault
  pub first_placed : crossed (a ∷ w ∷ value.Text 1 ∷ int 0 ∷ []) [] [] ≡ at_nine kind.BadKey
  pub first_named : crossed (a ∷ w ∷ []) (codes "n" ∷ codes "odomain" ∷ []) (int 0 ∷ value.Text 1 ∷ []) ≡ at_nine kind.BadWidth
  pub below_zero : crossed (a ∷ w ∷ []) (codes "n" ∷ []) (minus 0 ∷ []) ≡ at_nine kind.BadWidth

-- ---- state machines

-- 65 bytes
abbrev pub long : List ℕ
long = codes "aaaaaaaaaaaaaaaaaaaaaaaaaaaaaaaa" ++ codes "aaaaaaaaaaaaaaaaaaaaaaaaaaaaaaaaa"

-- with the texts "1 st" and that one, and an FSM without states
abbrev pub staged : Machine
staged = record some { texts = codes "1 st" ∷ long ∷ []; fsms = new_fsm 0 0 (the_signal 0) None ∷ [] }

abbrev pub method_on : Method → List Value → Outcome Value
method_on f placed = method_called 9 f (given placed [] []) staged

abbrev pub starts : Machine → List (Option (List ℕ))
starts m = map (λ (f : Fsm). f.start) m.fsms

abbrev pub states : Machine → List (List (List ℕ × ℕ))
states m = map (λ (f : Fsm). f.names) m.fsms

abbrev pub forms : Machine → List Form
forms m = map (λ (s : Made). s.form) m.made

-- Of FSMs. The name of a state is any text of at most 64 bytes.
pub record AreStaged : Type 0 where
  pub no_start : seen starts (call builtin.Fsm [] (record staged { fsms = [] })) ≡ Ok (None ∷ [])
  pub start_none : seen starts (call builtin.Fsm (value.Nothing ∷ []) (record staged { fsms = [] })) ≡ Ok (None ∷ [])
  pub start_by_name : seen starts (builtin_called 9 builtin.Fsm (given [] (codes "reset_state" ∷ []) (value.Text 0 ∷ [])) (record staged { fsms = [] })) ≡ Ok (Some (codes "1 st") ∷ [])
  pub start_integer : value_of (call builtin.Fsm (int 0 ∷ []) staged) ≡ at_nine kind.WrongKind
  pub act : seen states (method_on (method.Act 0) (value.Text 0 ∷ [])) ≡ Ok (((codes "1 st", 0) ∷ []) ∷ [])
  pub act_without_name : value_of (method_on (method.Act 0) []) ≡ at_nine kind.WrongCount
  pub act_name_first : value_of (method_on (method.Act 0) (value.Text 1 ∷ int 0 ∷ [])) ≡ at_nine (kind.Limit limit.Name)
  pub act_of_an_integer : value_of (method_on (method.Act 0) (value.Text 0 ∷ int 0 ∷ [])) ≡ at_nine kind.WrongKind
  pub ongoing : value_of (method_on (method.Ongoing 0) (value.Text 0 ∷ [])) ≡ Ok (value.Expr (the_expr 4))
  pub ongoing_of_two : value_of (method_on (method.Ongoing 0) (value.Text 0 ∷ value.Text 0 ∷ [])) ≡ at_nine kind.WrongCount
  pub next_state : seen forms (call builtin.NextState (value.Text 0 ∷ []) staged) ≡ Ok (form.NextState 0 ∷ [])
  pub next_state_long : value_of (call builtin.NextState (value.Text 1 ∷ []) staged) ≡ at_nine (kind.Limit limit.Name)
  pub next_state_signal : value_of (call builtin.NextState (a ∷ []) staged) ≡ at_nine kind.WrongKind
  pub next_value : seen forms (call builtin.NextValue (a ∷ w ∷ []) staged) ≡ Ok (form.NextValue (the_target 0) (the_expr 1) ∷ [])
  pub next_value_of_one : value_of (call builtin.NextValue (a ∷ []) staged) ≡ at_nine kind.WrongCount

-- ---- memories

abbrev pub a_memory : ℕ → List ℕ → Memory
a_memory line init = record { path = []; width = 8; depth = 4; init = init; line = line }

-- the texts "pix" and "1", the lists `[1, 258, -1]` and `["pix"]`, and a memory of 4 words of 8 bits
abbrev pub stored : Machine
stored = record some {
  texts = codes "pix" ∷ codes "1" ∷ [];
  lists = items (int 1 ∷ int 258 ∷ minus 0 ∷ []) ∷ items (value.Text 0 ∷ []) ∷ [];
  objects = an_object (what.Memory 0) ∷ [];
  memories = a_memory 1 [] ∷ [];
  memory_objects = 0 ∷ [];
  words = 4;
}

-- `Memory` with arguments that have names
abbrev pub memory_with : List Value → List (List ℕ) → List Value → Outcome Value
memory_with placed names named = builtin_called 9 builtin.Memory (given placed names named) stored

abbrev pub memory_fault : List Value → Result Value Fault
memory_fault placed = value_of (call builtin.Memory placed stored)

abbrev pub memories : Machine → List Memory
memories m = m.memories

-- `get_port` of that memory
abbrev pub port_with : List Value → List (List ℕ) → List Value → Outcome Value
port_with placed names named = method_called 9 (method.GetPort 0) (given placed names named) stored

abbrev pub port_fault : List (List ℕ) → List Value → Result Value Fault
port_fault names named = value_of (port_with [] names named)

-- whether it may write, and its mode, part and domain
abbrev pub ports : Machine → List (Bool × PortMode × ℕ × Option ℕ)
ports m = map (λ (p : PortState). (is_some p.writing, p.port.mode, p.port.part, p.port.domain)) m.ports

abbrev pub mode_value : Builtin → Value
mode_value b = value.Builtin b

-- Of `Memory`.
pub record AreStored : Type 0 where
  pub by_place : seen memories (memory_with (int 8 ∷ int 4 ∷ value.List 0 ∷ []) [] []) ≡ Ok (a_memory 1 [] ∷ a_memory 9 (1 ∷ 2 ∷ 255 ∷ []) ∷ [])
  pub by_name : seen memories (memory_with (int 8 ∷ []) (codes "init" ∷ codes "depth" ∷ []) (value.List 0 ∷ int 4 ∷ [])) ≡ Ok (a_memory 1 [] ∷ a_memory 9 (1 ∷ 2 ∷ 255 ∷ []) ∷ [])
  pub without_contents : seen memories (memory_with (int 8 ∷ int 4 ∷ []) [] []) ≡ Ok (a_memory 1 [] ∷ a_memory 9 [] ∷ [])
  pub without_depth : memory_fault (int 8 ∷ []) ≡ at_nine kind.WrongCount
  pub no_width : memory_fault (int 0 ∷ int 4 ∷ []) ≡ at_nine kind.BadWidth
  pub wide : memory_fault (int 65 ∷ int 4 ∷ []) ≡ at_nine kind.BadWidth
  pub no_words : memory_fault (int 64 ∷ int 0 ∷ []) ≡ at_nine kind.BadWidth
  pub below_zero : memory_fault (int 64 ∷ minus 0 ∷ []) ≡ at_nine kind.BadWidth
  pub most_words : memory_fault (int 64 ∷ int 65536 ∷ []) ≡ Ok (value.Object 1)
  pub many_words : memory_fault (int 64 ∷ int 65537 ∷ []) ≡ at_nine kind.BadWidth
  pub tuple_of_contents : memory_fault (int 8 ∷ int 4 ∷ value.Tuple 0 ∷ []) ≡ at_nine kind.WrongKind
  pub text_among_contents : memory_fault (int 8 ∷ int 4 ∷ value.List 1 ∷ []) ≡ at_nine kind.WrongKind
  -- the argument that stands first has the first fault
  pub first_placed : memory_fault (value.Text 0 ∷ int 0 ∷ []) ≡ at_nine kind.WrongKind
  pub first_named : value_of (memory_with [] (codes "depth" ∷ codes "width" ∷ []) (int 0 ∷ value.Text 0 ∷ [])) ≡ at_nine kind.BadWidth
  -- then more contents than words, and then the limits
  pub as_many_contents : memory_fault (int 8 ∷ int 3 ∷ value.List 0 ∷ []) ≡ Ok (value.Object 1)
  pub many_contents : memory_fault (int 8 ∷ int 2 ∷ value.List 0 ∷ []) ≡ at_nine kind.WrongCount
  pub many_contents_first : value_of (call builtin.Memory (int 8 ∷ int 2 ∷ value.List 0 ∷ []) (record stored { words = 131072 })) ≡ at_nine kind.WrongCount
  pub no_room : value_of (call builtin.Memory (int 8 ∷ int 3 ∷ value.List 0 ∷ []) (record stored { words = 131072 })) ≡ at_nine (kind.Limit limit.MemoryWords)

-- Of `get_port`.
pub record HavePorts : Type 0 where
  pub plain : seen ports (port_with [] [] []) ≡ Ok ((false, mode.WriteFirst, 8, Some 0) ∷ [])
  pub in_sys : seen domain_names (port_with [] [] []) ≡ Ok (codes "sys" ∷ [])
  pub by_place : seen ports (port_with (int 1 ∷ int 0 ∷ int 4 ∷ mode_value builtin.ReadFirst ∷ value.Text 0 ∷ []) [] []) ≡ Ok ((true, mode.ReadFirst, 4, Some 0) ∷ [])
  pub in_pix : seen domain_names (port_with [] (codes "clock_domain" ∷ []) (value.Text 0 ∷ [])) ≡ Ok (codes "pix" ∷ [])
  pub by_name : seen ports (port_with [] (codes "mode" ∷ codes "write_capable" ∷ []) (mode_value builtin.NoChange ∷ int 1 ∷ [])) ≡ Ok ((true, mode.NoChange, 8, Some 0) ∷ [])
  -- a port that reads at once has no other mode, and where it can't write no domain
  pub at_once : seen ports (port_with [] (codes "async_read" ∷ codes "mode" ∷ []) (int 1 ∷ mode_value builtin.NoChange ∷ [])) ≡ Ok ((false, mode.Async, 8, None) ∷ [])
  pub at_once_writing : seen ports (port_with (int 1 ∷ int 1 ∷ []) [] []) ≡ Ok ((true, mode.Async, 8, Some 0) ∷ [])
  pub no_domain_of_this_name : port_fault (codes "async_read" ∷ codes "clock_domain" ∷ []) (int 1 ∷ value.Text 1 ∷ []) ≡ at_nine kind.BadKey
  pub whole_word : seen ports (port_with [] (codes "we_granularity" ∷ []) (int 0 ∷ [])) ≡ Ok ((false, mode.WriteFirst, 8, Some 0) ∷ [])
  pub bits : seen ports (port_with [] (codes "we_granularity" ∷ []) (int 1 ∷ [])) ≡ Ok ((false, mode.WriteFirst, 1, Some 0) ∷ [])
  pub no_divisor : port_fault (codes "we_granularity" ∷ []) (int 3 ∷ []) ≡ at_nine kind.BadWidth
  pub past_the_word : port_fault (codes "we_granularity" ∷ []) (int 16 ∷ []) ≡ at_nine kind.BadWidth
  pub below_zero : port_fault (codes "we_granularity" ∷ []) (minus 0 ∷ []) ≡ at_nine kind.BadWidth
  pub text_of_bits : port_fault (codes "we_granularity" ∷ []) (value.Text 0 ∷ []) ≡ at_nine kind.WrongKind
  pub no_mode : port_fault (codes "mode" ∷ []) (int 0 ∷ []) ≡ at_nine kind.WrongKind
  pub another_builtin : port_fault (codes "mode" ∷ []) (mode_value builtin.Memory ∷ []) ≡ at_nine kind.WrongKind
  pub text_for_a_flag : port_fault (codes "async_read" ∷ []) (value.Text 0 ∷ []) ≡ at_nine kind.WrongKind
  pub integer_as_domain : port_fault (codes "clock_domain" ∷ []) (int 0 ∷ []) ≡ at_nine kind.WrongKind
  pub no_such_name : port_fault (codes "has_re" ∷ []) (int 0 ∷ []) ≡ at_nine kind.WrongCount
  -- the argument that stands first has the first fault
  pub bits_first : port_fault (codes "we_granularity" ∷ codes "mode" ∷ []) (int 3 ∷ int 0 ∷ []) ≡ at_nine kind.BadWidth
  pub mode_first : port_fault (codes "mode" ∷ codes "we_granularity" ∷ []) (int 0 ∷ int 3 ∷ []) ≡ at_nine kind.WrongKind

pub record AreCounted : Type 0 where
  pub down : steps_from 9 (negsuc 1) (pos 5) (pos 0) ≡ pos 5 ∷ pos 3 ∷ pos 1 ∷ []
  pub up : steps_from 9 (pos 1) (pos 0) (pos 2) ≡ pos 0 ∷ pos 1 ∷ []
  pub at_most : steps_from 2 (pos 1) (pos 0) (pos 9) ≡ pos 0 ∷ pos 1 ∷ []
  pub no_step : value_of (call builtin.Range (int 1 ∷ int 2 ∷ int 0 ∷ []) some) ≡ at_nine kind.NumberRange
  pub range_of_nothing : value_of (call builtin.Range [] some) ≡ at_nine kind.WrongCount
  pub bits_of_a : value_of (call builtin.Len (a ∷ []) some) ≡ Ok (int 4)
  pub pairs : seen spent (call builtin.Enumerate (value.List 2 ∷ []) some) ≡ Ok 9
  pub shorter : seen spent (call builtin.Zip (value.List 1 ∷ value.List 2 ∷ []) some) ≡ Ok 6
  pub backwards : seen (values_at 3) (call builtin.Reversed (value.List 1 ∷ []) some) ≡ Ok ((a ∷ int 7 ∷ []) ∷ [])
  pub least : value_of (call builtin.Min (int 3 ∷ minus 0 ∷ int 2 ∷ []) some) ≡ Ok (minus 0)
  pub greatest : value_of (call builtin.Max (int 3 ∷ minus 0 ∷ int 2 ∷ []) some) ≡ Ok (int 3)
  pub least_of_nothing : value_of (call builtin.Min [] some) ≡ at_nine kind.WrongCount
  pub exponent : value_of (call builtin.Log2Int (int 8 ∷ []) some) ≡ Ok (int 3)
  pub no_power : value_of (call builtin.Log2Int (int 6 ∷ []) some) ≡ at_nine kind.NumberRange
  pub bits_of_zero : value_of (call builtin.BitsFor (int 0 ∷ []) some) ≡ Ok (int 1)

pub record AreDeclared : Type 0 where
  pub plain : seen shapes (call builtin.Signal [] start) ≡ Ok (shape 1 false ∷ [])
  pub spanned : seen shapes (signal_with (codes "max") (int 10) start) ≡ Ok (shape 4 false ∷ [])
  pub below_zero : seen shapes (signal_with (codes "min") (minus 2) start) ≡ Ok (shape 3 true ∷ [])
  pub signed : seen shapes (call builtin.Signal (value.Tuple 0 ∷ []) named) ≡ Ok (shape 4 true ∷ [])
  pub wrapped : seen resets (signal_with (codes "reset") (int 3) start) ≡ Ok (pos 1 ∷ [])
  pub no_bits : value_of (call builtin.Signal (int 0 ∷ []) start) ≡ at_nine kind.BadWidth
  pub many_bits : value_of (call builtin.Signal (int 65 ∷ []) start) ≡ at_nine kind.BadWidth
  pub no_such_name : value_of (signal_with (codes "variable") (int 1) start) ≡ at_nine kind.WrongCount
  -- the argument that stands first has the first fault
  pub name_first : value_of (builtin_called 9 builtin.Signal (given [] (codes "name" ∷ codes "reset" ∷ []) (value.Text 0 ∷ value.Text 1 ∷ [])) named) ≡ at_nine kind.BadKey
  pub reset_first : value_of (builtin_called 9 builtin.Signal (given [] (codes "reset" ∷ codes "name" ∷ []) (value.Text 1 ∷ value.Text 0 ∷ [])) named) ≡ at_nine kind.WrongKind

pub record AreExpressed : Type 0 where
  pub fewest_bits : seen (expr_at 4) (call builtin.C (int 5 ∷ []) some) ≡ Ok (Some (expr.Const (pos 5) 3 false))
  pub stated : seen (expr_at 4) (call builtin.C (int 5 ∷ int 2 ∷ []) some) ≡ Ok (Some (expr.Const (pos 5) 2 false))
  pub of_no_bits : value_of (call builtin.C (int 5 ∷ minus 0 ∷ []) some) ≡ at_nine kind.BadWidth
  pub of_nothing : value_of (call builtin.Cat [] some) ≡ at_nine kind.WrongCount
  pub never : value_of (call builtin.Replicate (a ∷ int 0 ∷ []) some) ≡ at_nine kind.BadWidth
  pub chosen : seen (expr_at 4) (call builtin.Mux (a ∷ w ∷ a ∷ []) some) ≡ Ok (Some (expr.Mux (the_expr 0) (the_expr 1) (the_expr 0)))
  pub array : value_of (call builtin.Array (value.List 2 ∷ []) some) ≡ Ok (value.Array 3)
  pub array_of_nothing : value_of (call builtin.Array (value.List 0 ∷ []) some) ≡ at_nine kind.WrongCount
  pub bad_name : value_of (call builtin.SetAttr (value.Object 0 ∷ value.Text 0 ∷ a ∷ []) (record top { texts = named.texts })) ≡ at_nine kind.BadKey
  pub unbound : value_of (call builtin.GetAttr (value.Object 0 ∷ value.Text 1 ∷ []) top) ≡ at_nine (kind.UnknownName (codes "c"))
  pub region_without_size : value_of (call builtin.SocRegion (int 8 ∷ []) some) ≡ at_nine kind.WrongCount
  pub mode : value_of (call builtin.ReadFirst [] some) ≡ at_nine kind.WrongKind
