-- A design with two ports and the same with its ports lowered, written out.
use Rattle.std.specs.Prelude.{◌≡◌, pos, true, false, List, [], ◌∷◌, ◌++◌, Some, None, codes}
use Rattle.lx_num.specs.Ints.{unsigned}
use Rattle.lx_fhdl.specs.Instance.{the_expr, the_signal, the_stmt}
use Rattle.lx_fhdl.specs.declared.design.Design.{Design}
use Rattle.lx_fhdl.specs.declared.design.PortMode.TheVariants as mode
use Rattle.lx_fhdl.specs.declared.design.Signal.{Signal}
use Rattle.lx_fhdl.specs.declared.design.SyncPart.{SyncPart}
use Rattle.lx_fhdl.specs.declared.exprs.Expr.TheVariants as expr
use Rattle.lx_fhdl.specs.declared.stmts.Stmt.{Stmt}
use Rattle.lx_fhdl.specs.declared.stmts.Target.TheVariants as target
use Rattle.lx_check.specs.Checked.{IsSound}
use Rattle.lx_check.specs.Faults.{fault, first_fault}
use Rattle.lx_check.specs.Worked.{design, part, reading, reads, set}
use Rattle.lx_text.specs.declared.faults.Kind.TheVariants.{TwoDrivers}
use Rattle.lx_accepted.specs.Accepted.{IsLoweredFrom}

-- b shows the word at a now, c the word at the a of the last rise; a takes b at each rise
abbrev pub two_ports : Design
two_ports =
    design false (set 0 1 8 ∷ []) [] (part 0 (the_stmt 0 ∷ []) ∷ [])
    (reading 1 ∷ record { memory = 0; domain = Some 0; adr = the_signal 0; dat_r = Some (the_signal 2); dat_w = None; we = None; part = 1; mode = mode.WriteFirst } ∷ [])

-- the signal 3, which keeps an address of one bit
abbrev pub kept : Signal
kept = record { path = []; shape = unsigned 1; reset = pos 0; reset_less = true; by_bus = false; line = 0 }

-- b is the word at a; the register takes a; c is the word at the register
abbrev pub assigned : List Stmt
assigned = set 5 4 0 ∷ set 6 5 0 ∷ set 7 7 0 ∷ []

-- with these clocked statements after those of two_ports
abbrev pub lowered_with : List SyncPart → Design
lowered_with sync = record two_ports {
  exprs =
      two_ports.exprs ++
      expr.Sig (the_signal 0) ∷
      expr.Fetch 0 1 (the_expr 3) ∷
      expr.Sig (the_signal 0) ∷
      expr.Sig (the_signal 3) ∷
      expr.Fetch 0 1 (the_expr 6) ∷
      [];
  targets = two_ports.targets ++ target.Whole (the_signal 1) ∷ target.Whole (the_signal 3) ∷ target.Whole (the_signal 2) ∷ [];
  stmts = two_ports.stmts ++ assigned;
  signals = two_ports.signals ++ kept ∷ [];
  comb = the_stmt 1 ∷ the_stmt 3 ∷ [];
  sync = two_ports.sync ++ sync;
  ports = [];
}

abbrev pub two_ports_lowered : Design
two_ports_lowered = lowered_with (part 0 (the_stmt 2 ∷ []) ∷ [])

-- What is told of it, and of one in which c is assigned at rises too.
pub record AreWorked : Type 0 where
  pub none : first_fault two_ports_lowered ≡ None
  pub twice : first_fault (lowered_with (part 0 (the_stmt 3 ∷ []) ∷ [])) ≡ Some (fault 0 (TwoDrivers (codes "c") 0))
  -- dat_r reads the address, or what the register keeps; the register reads nothing in the same moment
  pub address : reads two_ports_lowered 1 0 ≡ true
  pub register : reads two_ports_lowered 2 3 ≡ true
  pub clocked : reads two_ports_lowered 3 0 ≡ false

-- It is one that the laws speak of.
pub record IsInstance : Type 0 where
  pub lowered : IsLoweredFrom two_ports two_ports_lowered
  pub sound : IsSound two_ports
