-- Two descriptions that keep what descriptions keep: a plain module, and a system.
use Rattle.std.specs.Prelude.{ℕ, pos, Bool, true, false, List, [], ◌∷◌, Some, None, codes}
use Rattle.lx_num.specs.Ints.{unsigned}
use Rattle.lx_tables.specs.declared.operators.Op.TheVariants as op
use Rattle.lx_fhdl.specs.Instance.{the_expr, the_signal, the_stmt, the_target}
use Rattle.lx_fhdl.specs.declared.exprs.SigId.{SigId}
use Rattle.lx_fhdl.specs.declared.exprs.Expr.TheVariants as expr
use Rattle.lx_fhdl.specs.declared.stmts.Target.TheVariants as target
use Rattle.lx_fhdl.specs.declared.stmts.Stmt.TheVariants as stmt
use Rattle.lx_fhdl.specs.declared.design.Signal.{Signal}
use Rattle.lx_fhdl.specs.declared.design.Design.{Design}
use Rattle.lx_fhdl.specs.declared.places.Wishes.{Wishes}
use Rattle.lx_description.specs.Below.{FsmStmtId}
use Rattle.lx_description.specs.Laws.{plain}
use Rattle.lx_description.specs.declared.registers.RegKind.TheVariants as kind
use Rattle.lx_description.specs.declared.registers.RegDecl.{RegDecl}
use Rattle.lx_description.specs.declared.registers.SourceKind.TheVariants as source
use Rattle.lx_description.specs.declared.registers.ManagerDecl.{ManagerDecl}
use Rattle.lx_description.specs.declared.modules.Part.{Part}
use Rattle.lx_description.specs.declared.modules.Part.TheVariants as part
use Rattle.lx_description.specs.declared.modules.ConstDecl.{ConstDecl}
use Rattle.lx_description.specs.declared.modules.ConstValue.TheVariants as value
use Rattle.lx_description.specs.declared.modules.ModuleDecl.{ModuleDecl}
use Rattle.lx_description.specs.declared.slaves.SlaveKind.TheVariants as slave
use Rattle.lx_description.specs.declared.slaves.SlaveDecl.{SlaveDecl}
use Rattle.lx_description.specs.declared.fsms.FsmStmt.{FsmStmt}
use Rattle.lx_description.specs.declared.fsms.FsmStmt.TheVariants as fsm
use Rattle.lx_description.specs.declared.fsms.FsmDecl.{FsmDecl}
use Rattle.lx_description.specs.declared.description.Description.{Description}

-- an unsigned signal
abbrev pub signal_of : List (List ℕ) → ℕ → Bool → Signal
signal_of path bits by_bus = record { path = path; shape = unsigned bits; reset = pos 0; reset_less = false; by_bus = by_bus; line = 4 }

-- ---- y := a & b

unfoldable pub and_design : Design
and_design = record {
  exprs = expr.Sig (the_signal 0) ∷ expr.Sig (the_signal 1) ∷ expr.Binary op.And (the_expr 0) (the_expr 1) ∷ [];
  targets = target.Whole (the_signal 2) ∷ [];
  stmts = stmt.Assign (the_target 0) (the_expr 2) 7 ∷ [];
  signals = signal_of (codes "a" ∷ []) 4 false ∷ signal_of (codes "b" ∷ []) 4 false ∷ signal_of (codes "y" ∷ []) 4 false ∷ [];
  comb = the_stmt 0 ∷ [];
  sync = [];
  memories = [];
  ports = [];
  domains = [];
  ios = the_signal 0 ∷ the_signal 1 ∷ the_signal 2 ∷ [];
}

abbrev pub and_description : Description
and_description = plain (codes "And") and_design

-- ---- a system

abbrev pub the_fsm_stmt : ℕ → FsmStmtId
the_fsm_stmt k = record { place = k; of = record {} }

abbrev pub port_of : List ℕ → ℕ → Signal
port_of name bits = signal_of (name ∷ []) bits false

unfoldable pub system_signals : List Signal
system_signals =
    port_of (codes "wb_adr") 30 ∷ port_of (codes "wb_dat_w") 32 ∷ port_of (codes "wb_sel") 4
    ∷ port_of (codes "wb_cyc") 1 ∷ port_of (codes "wb_stb") 1 ∷ port_of (codes "wb_we") 1
    ∷ port_of (codes "wb_dat_r") 32 ∷ port_of (codes "wb_ack") 1 ∷ port_of (codes "wb_err") 1 ∷ port_of (codes "irq") 32
    -- 10 to 12: the register `out`
    ∷ signal_of (codes "leds" ∷ codes "out" ∷ codes "storage" ∷ []) 8 true
    ∷ signal_of (codes "leds" ∷ codes "out" ∷ codes "re" ∷ []) 1 true
    ∷ signal_of (codes "leds" ∷ codes "out" ∷ codes "fields_low" ∷ []) 4 true
    -- 13 to 18: the event manager `ev` with the source `done`
    ∷ signal_of (codes "leds" ∷ codes "done" ∷ codes "trigger" ∷ []) 1 false
    ∷ signal_of (codes "leds" ∷ codes "done" ∷ codes "status" ∷ []) 1 true
    ∷ signal_of (codes "leds" ∷ codes "done" ∷ codes "pending" ∷ []) 1 true
    ∷ signal_of (codes "leds" ∷ codes "done" ∷ codes "clear" ∷ []) 1 true
    ∷ signal_of (codes "leds" ∷ codes "ev" ∷ codes "irq" ∷ []) 1 true
    ∷ signal_of [] 1 false
    -- 19, 20: the FSM
    ∷ signal_of (codes "leds" ∷ codes "fsm" ∷ codes "state" ∷ []) 1 false
    ∷ signal_of (codes "leds" ∷ codes "fsm" ∷ codes "ongoing_1" ∷ []) 1 false
    -- 21 to 23: a port, a signal that the FSM assigns, the reset
    ∷ signal_of (codes "led" ∷ []) 8 false
    ∷ signal_of (codes "seen" ∷ []) 1 false
    ∷ signal_of (codes "sys_rst" ∷ []) 1 false
    ∷ []

-- led := storage; trigger := 1 where the FSM is in B
unfoldable pub system_design : Design
system_design = record {
  exprs = expr.Sig (the_signal 10) ∷ expr.Const (pos 1) 1 false ∷ expr.Sig (the_signal 20) ∷ [];
  targets = target.Whole (the_signal 21) ∷ target.Whole (the_signal 22) ∷ target.Whole (the_signal 13) ∷ target.Whole (the_signal 23) ∷ [];
  stmts = stmt.Assign (the_target 0) (the_expr 0) 20 ∷ stmt.Assign (the_target 2) (the_expr 2) 21 ∷ [];
  signals = system_signals;
  comb = the_stmt 0 ∷ the_stmt 1 ∷ [];
  sync = [];
  memories = [];
  ports = [];
  domains = record { name = codes "sys"; reset = Some (the_signal 23) } ∷ [];
  ios = the_signal 21 ∷ [];
}

-- a storage of eight bits with these signals, and a field of four bits with this lowest one
abbrev pub register_of : ℕ → List SigId → RegDecl
register_of offset signals = record {
  name = codes "out";
  kind = kind.Storage;
  size = 8;
  reset = pos 0;
  atomic = false;
  from_dev = false;
  fields = record { name = codes "low"; offset = offset; size = 4; reset = pos 0; line = 12 } ∷ [];
  signals = signals;
  line = 12;
}

abbrev pub manager : ManagerDecl
manager = record {
  sources = record { name = codes "done"; kind = source.Rising; signals = the_signal 13 ∷ the_signal 14 ∷ the_signal 15 ∷ the_signal 16 ∷ [] } ∷ [];
  irq = the_signal 17;
  enable = the_signal 18;
  line = 13;
}

abbrev pub colour : ConstDecl
colour = record { name = codes "colour"; value = value.Text (codes "red"); line = 15 }

-- the top with these parts, and a module with this register, the event manager and a constant
abbrev pub modules_of : List Part → RegDecl → List ModuleDecl
modules_of parts r =
    record { name = codes "Top"; named = true; parts = parts }
    ∷ record {
      name = codes "leds";
      named = true;
      parts = part.Reg r ∷ part.Manager (codes "ev") manager ∷ part.Constant colour ∷ [];
    }
    ∷ []

-- A goes to B where `out` isn't 0; B goes back and assigns this target
unfoldable pub fsm_stmts_of : ℕ → List FsmStmt
fsm_stmts_of target =
    fsm.NextState (codes "B") 31
    ∷ fsm.If (record { cond = the_expr 0; body = the_fsm_stmt 0 ∷ [] } ∷ []) [] 30
    ∷ fsm.NextState (codes "A") 32
    ∷ fsm.NextValue (the_target target) (the_expr 1) 33
    ∷ []

-- the FSM, which is asked for B by this signal
abbrev pub fsm_of : ℕ → FsmDecl
fsm_of ongoing = record {
  state = the_signal 19;
  start = None;
  states = record { name = codes "A"; body = the_fsm_stmt 1 ∷ [] } ∷ record { name = codes "B"; body = the_fsm_stmt 2 ∷ the_fsm_stmt 3 ∷ [] } ∷ [];
  asked = record { name = codes "B"; signal = the_signal ongoing; line = 34 } ∷ [];
  place = Some (record { comb = 2; sync = 0 });
  line = 29;
}

abbrev pub wishes : Wishes
wishes = record {
  regions =
      record { name = codes "csr"; origin = Some 0xf0000000; size = 65536; cached = false; line = 0 }
      ∷ record { name = codes "ram"; origin = None; size = 4096; cached = true; line = 40 }
      ∷ [];
  banks = [];
  fixes = record { name = codes "leds"; number = Some 3; line = 41 } ∷ [];
  managers = [];
  irqs = record { name = codes "leds"; number = None; line = 42 } ∷ [];
}

-- a RAM under this name
abbrev pub slave_of : List ℕ → SlaveDecl
slave_of name = record { name = name; kind = slave.Ram (1 ∷ 2 ∷ []); line = 40 }

-- a storage that lights LEDs, an event manager, an FSM, and a RAM
unfoldable pub system : Description
system = record {
  top = codes "Top";
  soc = true;
  design = system_design;
  modules = modules_of (part.Module 1 ∷ []) (register_of 0 (the_signal 10 ∷ the_signal 11 ∷ the_signal 12 ∷ []));
  slaves = slave_of (codes "ram") ∷ [];
  wishes = wishes;
  constants = record { name = codes "limit"; value = value.Number (pos 7); line = 43 } ∷ [];
  fsm_stmts = fsm_stmts_of 1;
  fsms = fsm_of 20 ∷ [];
}
