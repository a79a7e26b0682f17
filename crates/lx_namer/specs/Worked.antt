-- Names worked by hand.
use Rattle.std.specs.Prelude.{◌≡◌, ℕ, List, [], ◌∷◌, codes, Option, Some, None, Result, Ok, Err, map}
use Rattle.lx_text.specs.declared.faults.Fault.{Fault}
use Rattle.lx_text.specs.declared.faults.Kind.TheVariants as kind
use Rattle.lx_vtext.specs.Tree.{Name}
use Rattle.lx_fhdl.specs.Drafts.{started}
use Rattle.lx_fhdl.specs.Instance.{signal_of, the_signal}
use Rattle.lx_fhdl.specs.declared.design.Signal.{Signal}
use Rattle.lx_fhdl.specs.declared.design.Memory.{Memory}
use Rattle.lx_fhdl.specs.declared.design.Domain.{Domain}
use Rattle.lx_fhdl.specs.declared.design.Design.{Design}
use Rattle.lx_namer.specs.Base.{base_name}
use Rattle.lx_namer.specs.Names.{names_of}

-- a signal of a path, made in a line
abbrev pub of_path : List Name → ℕ → Signal
of_path path line = record (signal_of [] 1 0) { path = path; line = line }

abbrev pub a_memory : List Name → Memory
a_memory path = record { path = path; width = 8; depth = 4; init = []; line = 1 }

-- a domain `sys`, whose reset is the signal, where there is one
abbrev pub sys : Option ℕ → Domain
sys None = record { name = codes "sys"; reset = None }
sys (Some r) = record { name = codes "sys"; reset = Some (the_signal r) }

-- signals of one word each
abbrev pub signals_of : List Name → List Signal
signals_of names = map (λ n. of_path (n ∷ []) 1) names

-- a design of these signals, of which those of these numbers are ports, with domains and memories
abbrev pub design_of : List Signal → List ℕ → List Domain → List Memory → Design
design_of ss ios domains memories = record (started ss memories) { domains = domains; ios = map the_signal ios }

abbrev pub plain : List Name → List ℕ → Result (List Name) Fault
plain names ios = names_of (design_of (signals_of names) ios [] [])

abbrev pub taken : ℕ → Name → Result (List Name) Fault
taken line name = Err (record { line = line; kind = kind.NameTaken name })

-- What the names are.
pub record AreWorked : Type 0 where
  -- words of a path are joined; a keyword of Verilog gets a `_`, and a path that only holds one doesn't
  pub joined : base_name (codes "m" ∷ codes "i" ∷ []) ≡ codes "m_i"
  pub keyword : base_name (codes "reg" ∷ []) ≡ codes "reg_"
  pub no_keyword : base_name (codes "reg" ∷ codes "not" ∷ []) ≡ codes "reg_not"
  pub in_module : base_name (codes "not" ∷ []) ≡ codes "not_"
  -- a second one of a name gets the number 2
  pub three : plain (codes "x" ∷ codes "x" ∷ codes "x" ∷ []) [] ≡ Ok (codes "x" ∷ codes "x_2" ∷ codes "x_3" ∷ [])
  pub keywords : plain (codes "reg" ∷ codes "reg" ∷ []) [] ≡ Ok (codes "reg_" ∷ codes "reg__2" ∷ [])
  -- all names so far are looked at
  pub numbers : plain (codes "x" ∷ codes "x" ∷ codes "x_2" ∷ codes "x" ∷ []) (0 ∷ []) ≡ Ok (codes "x" ∷ codes "x_2" ∷ codes "x_2_2" ∷ codes "x_3" ∷ [])
  pub number_first : plain (codes "x_2" ∷ codes "x" ∷ codes "x" ∷ []) [] ≡ Ok (codes "x_2" ∷ codes "x" ∷ codes "x_3" ∷ [])
  -- ports come first
  pub port_last : plain (codes "x" ∷ codes "x" ∷ []) (1 ∷ []) ≡ Ok (codes "x_2" ∷ codes "x" ∷ [])
  -- one port of two of a name is refused, and one that stands twice
  pub two_ports : names_of (design_of (of_path (codes "x" ∷ []) 3 ∷ of_path (codes "y" ∷ []) 4 ∷ of_path (codes "x" ∷ []) 5 ∷ []) (0 ∷ 1 ∷ 2 ∷ []) [] []) ≡ taken 5 (codes "x")
  pub one_twice : names_of (design_of (of_path (codes "reg" ∷ []) 3 ∷ []) (0 ∷ 0 ∷ []) [] []) ≡ taken 3 (codes "reg_")
  -- clocks and resets have their names themselves
  pub reserved : names_of (design_of (signals_of (codes "sys_clk" ∷ codes "sys_rst" ∷ codes "sys_rst" ∷ [])) [] (sys (Some 2) ∷ []) []) ≡ Ok (codes "sys_clk_2" ∷ codes "sys_rst_2" ∷ codes "sys_rst" ∷ [])
  pub no_reset : names_of (design_of (signals_of (codes "sys_clk" ∷ codes "sys_rst" ∷ [])) [] (sys None ∷ []) []) ≡ Ok (codes "sys_clk_2" ∷ codes "sys_rst" ∷ [])
  pub clock_port : names_of (design_of (signals_of (codes "sys_clk" ∷ [])) (0 ∷ []) (sys None ∷ []) []) ≡ taken 1 (codes "sys_clk")
  pub reset_port : names_of (design_of (signals_of (codes "sys_rst" ∷ codes "sys_rst" ∷ [])) (1 ∷ []) (sys (Some 0) ∷ []) []) ≡ taken 1 (codes "sys_rst")
  -- generated hardware is named by its place, and memories come after all signals
  pub generated : names_of (design_of (of_path (codes "m" ∷ []) 1 ∷ of_path [] 0 ∷ []) [] [] (a_memory (codes "m" ∷ []) ∷ a_memory [] ∷ a_memory (codes "m" ∷ []) ∷ [])) ≡ Ok (codes "m" ∷ codes "s$1" ∷ codes "m_2" ∷ codes "m$1" ∷ codes "m_3" ∷ [])
