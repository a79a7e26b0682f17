-- Traces worked by hand: a design with an input a of four bits, a signed input b of four bits, a signal y, and the domains
-- `sys` with a reset and `pix` without one.
use Rattle.std.specs.Prelude.{◌≡◌, ℕ, ℤ, pos, negsuc, true, List, [], ◌∷◌, codes, Some, None, Result, Ok, Err}
use Rattle.lx_num.specs.Ints.{shape}
use Rattle.lx_text.specs.declared.faults.Fault.{Fault}
use Rattle.lx_text.specs.declared.faults.Kind.{Kind}
use Rattle.lx_text.specs.declared.faults.Kind.TheVariants as kind
use Rattle.lx_fhdl.specs.Drafts.{started}
use Rattle.lx_fhdl.specs.Instance.{signal_of, the_signal}
use Rattle.lx_fhdl.specs.declared.design.Design.{Design}
use Rattle.lx_trace.specs.declared.acts.TraceAct.{TraceAct}
use Rattle.lx_trace.specs.declared.acts.TraceAct.TheVariants as act
use Rattle.lx_trace.specs.declared.acts.TraceLine.{TraceLine}
use Rattle.lx_trace.specs.Numbers.{counting, number}
use Rattle.lx_trace.specs.Pieces.{pieces}
use Rattle.lx_trace.specs.Traces.{trace_of}

abbrev pub small : Design
small = record (started (signal_of (codes "a") 4 0 ∷ record (signal_of (codes "b") 4 0) { shape = shape 4 true } ∷ signal_of (codes "y") 4 0 ∷ signal_of (codes "sys_rst") 1 0 ∷ []) []) {
  domains = record { name = codes "sys"; reset = Some (the_signal 3) } ∷ record { name = codes "pix"; reset = None } ∷ [];
  ios = the_signal 0 ∷ the_signal 1 ∷ [];
}

abbrev pub names : List (List ℕ)
names = codes "a" ∷ codes "b" ∷ codes "y" ∷ codes "sys_rst" ∷ []

-- what a trace comes to
abbrev pub read : List ℕ → Result (List TraceLine) Fault
read text = trace_of small names text

abbrev pub set : ℕ → ℤ → TraceAct
set x z = act.Set (the_signal x) z

abbrev pub run : ℕ → ℕ → TraceAct
run n rises = act.Run n (record { rises = rises })

abbrev pub line : ℕ → TraceAct → TraceLine
line k a = record { line = k; act = a }

-- a line alone that is refused
abbrev pub refused : Kind → Result (List TraceLine) Fault
refused k = Err (record { line = 1; kind = k })

-- What these are.
pub record AreWorked : Type 0 where
  pub cut : pieces 32 (codes "a  b ") ≡ codes "a" ∷ [] ∷ codes "b" ∷ [] ∷ []
  pub zero : number (codes "0") ≡ Some (pos 0)
  pub negative : number (codes "-12") ≡ Some (negsuc 11)
  pub hexadecimal : number (codes "0x00aF") ≡ Some (pos 175)
  pub negative_zero : number (codes "-0") ≡ Some (pos 0)
  pub leading_zero : number (codes "00") ≡ None
  pub no_digit : number (codes "0x") ≡ None
  pub upper_prefix : number (codes "0X1") ≡ None
  pub plus : number (codes "+1") ≡ None
  pub none : number [] ≡ None
  pub count : counting (codes "120") ≡ Some 120
  pub no_steps : counting (codes "0") ≡ None
  pub empty : read [] ≡ Ok []
  pub some : read (codes "# a\n\nset a 15\nset b -8\nrun 3 sys pix\nshow y\n") ≡ Ok (line 3 (set 0 (pos 15)) ∷ line 4 (set 1 (negsuc 7)) ∷ line 5 (run 3 3) ∷ line 6 (act.Show (the_signal 2)) ∷ [])
  pub ticks : read (codes "tick pix\ntick sys") ≡ Ok (line 1 (run 1 2) ∷ line 2 (run 1 1) ∷ [])
  pub reset : read (codes "set sys_rst 1") ≡ Ok (line 1 (set 3 (pos 1)) ∷ [])
  pub too_great : read (codes "set a 16") ≡ refused kind.TraceValue
  pub unsigned_pattern : read (codes "set b 0xf") ≡ refused kind.TraceValue
  pub no_input : read (codes "set y 1") ≡ refused (kind.TraceName (codes "y"))
  pub no_signal : read (codes "show z") ≡ refused (kind.TraceName (codes "z"))
  pub no_clock : read (codes "show sys_clk") ≡ refused (kind.TraceName (codes "sys_clk"))
  pub no_domain : read (codes "tick sys z z") ≡ refused (kind.TraceName (codes "z"))
  pub twice : read (codes "tick sys pix sys") ≡ refused (kind.TraceName (codes "sys"))
  pub name_before_value : read (codes "set z 99") ≡ refused (kind.TraceName (codes "z"))
  pub number_before_name : read (codes "set z 099") ≡ refused kind.TraceSyntax
  pub no_domains : read (codes "tick") ≡ refused kind.TraceSyntax
  pub not_run : read (codes "run 0 sys") ≡ refused kind.TraceSyntax
  pub two_blanks : read (codes "show  y") ≡ refused kind.TraceSyntax
  pub blank_at_the_end : read (codes "show y ") ≡ refused kind.TraceSyntax
  pub tab : read (codes "show\ty") ≡ refused kind.TraceSyntax
  pub script_alone : read (codes "read y") ≡ refused kind.TraceSyntax
  pub most : read (codes "run 1000000 sys") ≡ Ok (line 1 (run 1000000 1) ∷ [])
  pub one_more : read (codes "run 1000000 sys\ntick sys") ≡ Err (record { line = 2; kind = kind.TraceValue })
  pub name_before_steps : read (codes "run 2000000 z") ≡ refused (kind.TraceName (codes "z"))
