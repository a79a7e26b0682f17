-- What a design means, and what it keeps, worked by hand on one design and on designs that are nearly like it.
use Rattle.std.specs.Prelude.{◌≡◌, ℕ, true, false, List, [], ◌∷◌, ◌++◌, Option, Some, None, codes, pos, negsuc}
use Rattle.lx_tables.specs.declared.operators.Op.TheVariants as op
use Rattle.lx_circuit.specs.Terms as term
use Rattle.lx_circuit.specs.Circuit.{Input, Comb, Sync, Read, Undriven, role, domain_at}
use Rattle.lx_circuit.specs.Circuit as circuit
use Rattle.lx_circuit.specs.Statements.{Then, Done}
use Rattle.lx_fhdl.specs.Below.{expr_below, stmt_below}
use Rattle.lx_fhdl.specs.Designs as design
use Rattle.lx_fhdl.specs.Designs.{circuit_of, memory_at}
use Rattle.lx_fhdl.specs.Keeping.{is_identifier, Keeps}
use Rattle.lx_fhdl.specs.Nodes.{listed, node_value}
use Rattle.lx_fhdl.specs.Instance.{the_signal, the_expr, the_target, the_stmt, reader_of, instance_exprs, instance_targets, instance_stmts, instance}
use Rattle.lx_fhdl.specs.declared.exprs.SigId.{SigId}
use Rattle.lx_fhdl.specs.declared.exprs.Expr.{Expr}
use Rattle.lx_fhdl.specs.declared.exprs.Expr.TheVariants as expr
use Rattle.lx_fhdl.specs.declared.stmts.Target.TheVariants as target
use Rattle.lx_fhdl.specs.declared.stmts.Stmt.TheVariants as stmt
use Rattle.lx_fhdl.specs.declared.design.PortMode.TheVariants as mode
use Rattle.lx_fhdl.specs.declared.design.Port.{Port}
use Rattle.lx_fhdl.specs.declared.design.Design.{Design}

-- What the design means.
pub record AreWorked : Type 0 where
  pub input : role (circuit_of instance) 0 ≡ Input
  pub reset : role (circuit_of instance) 2 ≡ Input
  pub comb : role (circuit_of instance) 3 ≡ Comb
  pub registered : role (circuit_of instance) 1 ≡ Sync 0
  pub read : role (circuit_of instance) 9 ≡ Read 3
  -- what the bus gives is no input, though it is a port of the design
  pub given : role (circuit_of instance) 12 ≡ Undriven
  pub word : design.term instance 6 ≡ term.Fetch 0 8 (term.Signal 1)
  pub reader : (circuit.port_at (circuit_of instance) 0).writer ≡ None
  pub writer : (circuit.port_at (circuit_of instance) 3).writer ≡ Some (record { from = 10; we = 11; part = 4 })
  pub memory : memory_at instance 0 ≡ record { width = 8; depth = 3; init = 1 ∷ 255 ∷ [] }
  -- the parts of a domain one after the other
  pub parts : (domain_at (circuit_of instance) 0).stmts ≡ Then (design.stmt instance 1) (Then (design.stmt instance 5) Done)

-- What single nodes are, and where they may stand.
pub record NodesAreWorked : Type 0 where
  -- fifteen in four signed bits
  pub wrapped : node_value [] (listed []) [] (expr.Const (pos 15) 4 true) ≡ negsuc 0
  -- an If over the statement at place 0, and a sum of the expressions at places 0 and 1
  pub before : stmt_below (stmt.If (record { cond = the_expr 0; body = the_stmt 0 ∷ [] } ∷ []) [] 1) 0 ≡ false
  pub after : stmt_below (stmt.If (record { cond = the_expr 0; body = the_stmt 0 ∷ [] } ∷ []) [] 1) 1 ≡ true
  pub too_early : expr_below (expr.Binary op.Add (the_expr 0) (the_expr 1)) 1 ≡ false
  pub late : expr_below (expr.Binary op.Add (the_expr 0) (the_expr 1)) 2 ≡ true

-- Which names are identifiers.
pub record AreSpelled : Type 0 where
  pub name : is_identifier (codes "_x9") ≡ true
  -- a word of Python is one too
  pub word : is_identifier (codes "not") ≡ true
  pub digit : is_identifier (codes "9x") ≡ false
  pub dot : is_identifier (codes "a.b") ≡ false
  pub none : is_identifier [] ≡ false

-- ---- designs that keep all but one of these facts

-- more expressions
abbrev pub with_exprs : List Expr → Design
with_exprs xs = record instance { exprs = instance_exprs ++ xs }

-- these ports alone
abbrev pub with_port : Port → Design
with_port q = record instance { ports = q ∷ [] }

-- a memory of three words of eight bits with these contents
abbrev pub with_contents : List ℕ → Design
with_contents init = record instance { memories = record { path = []; width = 8; depth = 3; init = init; line = 0 } ∷ [] }

-- sys_rst := c
abbrev pub with_driven_reset : Design
with_driven_reset = record instance {
  targets = instance_targets ++ target.Whole (the_signal 2) ∷ [];
  stmts = instance_stmts ++ stmt.Assign (the_target 6) (the_expr 0) 14 ∷ [];
  comb = the_stmt 2 ∷ the_stmt 4 ∷ the_stmt 6 ∷ [];
}

-- these signals as the port's own, of so many bits a part
abbrev pub writer_of : (adr dat_w we : SigId) → Option ℕ → ℕ → Port
writer_of adr dat_w we domain part = record { memory = 0; domain = domain; adr = adr; dat_r = None; dat_w = Some dat_w; we = Some we; part = part; mode = mode.ReadFirst }

-- None of them keeps what designs keep.
pub record AreRefused : Type 0 where
  pub other_width : Keeps (with_exprs (expr.Fetch 0 7 (the_expr 1) ∷ [])) → ⊥
  pub no_memory : Keeps (with_exprs (expr.Fetch 1 8 (the_expr 1) ∷ [])) → ⊥
  -- a word at the index 1, which is a signed constant
  pub signed_index : Keeps (with_exprs (expr.Const (pos 1) 2 true ∷ expr.Fetch 0 8 (the_expr 8) ∷ [])) → ⊥
  pub no_signal : Keeps (with_exprs (expr.Sig (the_signal 13) ∷ [])) → ⊥
  pub driven_reset : Keeps with_driven_reset → ⊥
  pub content_too_large : Keeps (with_contents (256 ∷ [])) → ⊥
  pub contents_past_the_depth : Keeps (with_contents (1 ∷ 2 ∷ 3 ∷ 4 ∷ [])) → ⊥
  -- a port that reads at once and doesn't write has no clock, any other has one
  pub needless_clock : Keeps (with_port (reader_of (Some 0) 6 mode.Async)) → ⊥
  pub no_clock : Keeps (with_port (reader_of None 6 mode.ReadFirst)) → ⊥
  -- three bits for addresses up to 2, seven bits for words of eight, one bit of `we` for two parts, parts of three bits
  pub wide_address : Keeps (with_port (writer_of (the_signal 4) (the_signal 10) (the_signal 11) (Some 0) 4)) → ⊥
  pub narrow_data : Keeps (with_port (writer_of (the_signal 5) (the_signal 4) (the_signal 11) (Some 0) 4)) → ⊥
  pub lone_enable : Keeps (with_port (writer_of (the_signal 5) (the_signal 10) (the_signal 0) (Some 0) 4)) → ⊥
  pub uneven_parts : Keeps (with_port (writer_of (the_signal 5) (the_signal 10) (the_signal 11) (Some 0) 3)) → ⊥
