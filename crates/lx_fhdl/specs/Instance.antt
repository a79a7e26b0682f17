-- A design that keeps what designs keep: statements of every kind, a memory that a Fetch reads, and ports of every mode.
use Rattle.std.specs.Prelude.{ℕ, pos, true, false, List, [], ◌∷◌, Option, Some, None, codes}
use Rattle.lx_num.specs.Ints.{unsigned}
use Rattle.lx_tables.specs.declared.operators.Op.TheVariants as op
use Rattle.lx_fhdl.specs.Below.{ExprId, TargetId, StmtId}
use Rattle.lx_fhdl.specs.declared.exprs.SigId.{SigId}
use Rattle.lx_fhdl.specs.declared.exprs.Expr.{Expr}
use Rattle.lx_fhdl.specs.declared.exprs.Expr.TheVariants as expr
use Rattle.lx_fhdl.specs.declared.stmts.Target.{Target}
use Rattle.lx_fhdl.specs.declared.stmts.Target.TheVariants as target
use Rattle.lx_fhdl.specs.declared.stmts.Stmt.{Stmt}
use Rattle.lx_fhdl.specs.declared.stmts.Stmt.TheVariants as stmt
use Rattle.lx_fhdl.specs.declared.design.Signal.{Signal}
use Rattle.lx_fhdl.specs.declared.design.Memory.{Memory}
use Rattle.lx_fhdl.specs.declared.design.PortMode.{PortMode}
use Rattle.lx_fhdl.specs.declared.design.PortMode.TheVariants as mode
use Rattle.lx_fhdl.specs.declared.design.Port.{Port}
use Rattle.lx_fhdl.specs.declared.design.Design.{Design}

abbrev pub the_signal : ℕ → SigId
the_signal x = record { 0 = x }

abbrev pub the_expr : ℕ → ExprId
the_expr k = record { place = k; of = record {} }

abbrev pub the_target : ℕ → TargetId
the_target k = record { place = k; of = record {} }

abbrev pub the_stmt : ℕ → StmtId
the_stmt k = record { place = k; of = record {} }

-- an unsigned signal
abbrev pub signal_of : List ℕ → ℕ → ℕ → Signal
signal_of name bits reset = record { path = name ∷ []; shape = unsigned bits; reset = pos reset; reset_less = false; by_bus = false; line = 0 }

unfoldable pub instance_exprs : List Expr
instance_exprs =
    expr.Sig (the_signal 0) ∷
    expr.Sig (the_signal 1) ∷
    expr.Unary op.Not (the_expr 1) ∷
    expr.Const (pos 5) 3 false ∷
    expr.Cat (the_expr 0 ∷ the_expr 1 ∷ []) ∷
    expr.Pick (the_expr 0 ∷ the_expr 3 ∷ []) (the_expr 1) ∷
    expr.Fetch 0 8 (the_expr 1) ∷
    expr.Slice (the_expr 6) 0 3 ∷
    []

-- q, b, bits 0 and 1 of m, these after b, bit 2 of m, and b or bit 2 of m by q
unfoldable pub instance_targets : List Target
instance_targets =
    target.Whole (the_signal 1) ∷
    target.Whole (the_signal 3) ∷
    target.Part (the_signal 4) 0 2 ∷
    target.Cat (the_target 1 ∷ the_target 2 ∷ []) ∷
    target.Part (the_signal 4) 2 1 ∷
    target.Pick (the_target 1 ∷ the_target 4 ∷ []) (the_expr 1) ∷
    []

-- q := ~q; that under the condition c; two assignments of other signals, one of them chosen by q and from the memory; q := c
unfoldable pub instance_stmts : List Stmt
instance_stmts =
    stmt.Assign (the_target 0) (the_expr 2) 7 ∷
    stmt.If (record { cond = the_expr 0; body = the_stmt 0 ∷ [] } ∷ []) [] 6 ∷
    stmt.Assign (the_target 3) (the_expr 4) 8 ∷
    stmt.Assign (the_target 5) (the_expr 7) 10 ∷
    stmt.Case (the_expr 1) (record { key = pos 1; body = the_stmt 3 ∷ [] } ∷ []) (the_stmt 2 ∷ []) 9 ∷
    stmt.Assign (the_target 0) (the_expr 0) 13 ∷
    []

unfoldable pub instance_signals : List Signal
instance_signals =
    signal_of (codes "c") 1 0 ∷
    signal_of (codes "q") 2 1 ∷
    signal_of (codes "sys_rst") 1 0 ∷
    signal_of (codes "b") 1 0 ∷
    signal_of (codes "m") 3 0 ∷
    signal_of (codes "adr") 2 0 ∷
    signal_of (codes "now") 8 0 ∷
    signal_of (codes "new") 8 0 ∷
    signal_of (codes "old") 8 0 ∷
    signal_of (codes "held") 8 0 ∷
    signal_of (codes "dat_w") 8 0 ∷
    signal_of (codes "we") 2 0 ∷
    record { path = codes "storage" ∷ []; shape = unsigned 4; reset = pos 5; reset_less = false; by_bus = true; line = 12 } ∷
    []

-- three words of eight bits
unfoldable pub instance_memories : List Memory
instance_memories = record { path = codes "mem" ∷ []; width = 8; depth = 3; init = 1 ∷ 255 ∷ []; line = 11 } ∷ []

-- a port that reads them
abbrev pub reader_of : Option ℕ → ℕ → PortMode → Port
reader_of domain dat_r mode = record { memory = 0; domain = domain; adr = the_signal 5; dat_r = Some (the_signal dat_r); dat_w = None; we = None; part = 8; mode = mode }

-- one port of each mode, of which the last one writes, in parts of four bits
unfoldable pub instance_ports : List Port
instance_ports =
    reader_of None 6 mode.Async ∷
    reader_of (Some 0) 7 mode.WriteFirst ∷
    reader_of (Some 0) 8 mode.ReadFirst ∷
    record { memory = 0; domain = Some 0; adr = the_signal 5; dat_r = Some (the_signal 9); dat_w = Some (the_signal 10); we = Some (the_signal 11); part = 4; mode = mode.NoChange } ∷
    []

-- In the domain `sys` the signal q, which a reset sets to 1, turns into its complement while c is not 0.
unfoldable pub instance : Design
instance = record {
  exprs = instance_exprs;
  targets = instance_targets;
  stmts = instance_stmts;
  signals = instance_signals;
  memories = instance_memories;
  ports = instance_ports;
  comb = the_stmt 2 ∷ the_stmt 4 ∷ [];
  sync = record { domain = 0; stmts = the_stmt 1 ∷ [] } ∷ record { domain = 0; stmts = the_stmt 5 ∷ [] } ∷ [];
  domains = record { name = codes "sys"; reset = Some (the_signal 2) } ∷ [];
  ios = the_signal 0 ∷ the_signal 1 ∷ the_signal 3 ∷ the_signal 4 ∷ the_signal 5 ∷ the_signal 10 ∷ the_signal 11 ∷ the_signal 12 ∷ [];
}
