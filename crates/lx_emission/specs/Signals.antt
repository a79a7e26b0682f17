-- What drives the net of each signal.
use Rattle.std.specs.Prelude.{ℕ, ℤ, Bool, true, false, List, [], ◌∷◌, ◌^◌, Option, Some, None, slice_get, if◌then◌else◌}
use Rattle.lx_num.specs.declared.Shape.{Shape}
use Rattle.lx_num.specs.Ints.{modulo}
use Rattle.lx_circuit.specs.Statements.{drives}
use Rattle.lx_circuit.specs.Circuit as circuit
use Rattle.lx_circuit.specs.Circuit.{Role, role, made}
use Rattle.lx_vtext.specs.Tree.{Name, VExpr, Net, Literal, Whole, Assign, When, NoElse, VBlock, EndBlock, InBlock, VLiteral, VNet, VAssign, VAlways}
use Rattle.lx_fhdl.specs.Below.{ExprId, StmtId}
use Rattle.lx_fhdl.specs.Designs.{stmt, shapes, stmts_of, circuit_of}
use Rattle.lx_fhdl.specs.declared.exprs.SigId.{SigId}
use Rattle.lx_fhdl.specs.declared.stmts.Target.{Target}
use Rattle.lx_fhdl.specs.declared.stmts.Target.TheVariants as target
use Rattle.lx_fhdl.specs.declared.stmts.Stmt.{Stmt}
use Rattle.lx_fhdl.specs.declared.stmts.Stmt.TheVariants as statement
use Rattle.lx_fhdl.specs.declared.design.Domain.{Domain}
use Rattle.lx_fhdl.specs.declared.design.Design.{Design}
use Rattle.lx_emission.specs.Naming.{net, clock}
use Rattle.lx_emission.specs.Nodes.{operand}
use Rattle.lx_emission.specs.Texts.{covers, block_onto, stmt_text}

-- the statements of a list that assign a signal
unfoldable pub own : Design → ℕ → List StmtId → List StmtId
own d x [] = []
own d x (i ∷ is) = if drives x (stmt d i.place) then i ∷ own d x is else own d x is

abbrev pub is_whole : Design → Option Target → Bool
is_whole d (Some (target.Whole x)) = true
is_whole d (Some (target.Part x low len)) = covers (shapes d x.0).bits low len
is_whole d _ = false

abbrev pub whole_value : Design → Option Stmt → Option ExprId
whole_value d (Some (statement.Assign target value line)) = if is_whole d (slice_get d.targets target.place) then Some value else None
whole_value d _ = None

-- the right side of a list that is one unconditional whole assignment
abbrev pub single : Design → List StmtId → Option ExprId
single d [] = None
single d (i ∷ []) = whole_value d (slice_get d.stmts i.place)
single d (i ∷ (j ∷ is)) = None

-- how a net is driven
pub data Drive : Type 0 where
  Input : Drive
  -- an assign of the reset value
  Undriven : Drive
  -- an assign of an expression
  CombAssign : (value : ExprId) → Drive
  -- a block of `always @(*)`
  CombBlock : (body : List StmtId) → Drive
  -- a block at the rise of a domain's clock
  Sync : (domain : ℕ) (body : List StmtId) → Drive

abbrev pub comb_drive : List StmtId → Option ExprId → Drive
comb_drive ids None = CombBlock ids
comb_drive ids (Some value) = CombAssign value

abbrev pub drive_by : Design → ℕ → Role → Drive
drive_by d x circuit.Input = Input
drive_by d x circuit.Undriven = Undriven
drive_by d x circuit.Comb = comb_drive (own d x d.comb) (single d (own d x d.comb))
drive_by d x (circuit.Sync k) = Sync k (own d x (stmts_of k d.sync))
drive_by d x (circuit.Read j) = Undriven

-- How the net of a signal is driven. No port of a design that is emitted reads, so no signal is what one shows.
unfoldable pub drive : Design → ℕ → Drive
drive d x = drive_by d x (role (circuit_of d) x)

abbrev pub literal_of : Shape → ℤ → VLiteral
literal_of s z = record { bits = s.bits; signed = s.signed; value = modulo z (2 ^ s.bits) }

abbrev pub literal_text : Shape → ℤ → VExpr
literal_text s z = Literal s.bits s.signed (modulo z (2 ^ s.bits))

abbrev pub shape_of_signal : Design → ℕ → Shape
shape_of_signal d x = (made (circuit_of d) x).shape

abbrev pub reset_of_signal : Design → ℕ → ℤ
reset_of_signal d x = (made (circuit_of d) x).reset

-- the reset value as a literal of the signal's shape
abbrev pub reset_text : Design → ℕ → VExpr
reset_text d x = literal_text (shape_of_signal d x) (reset_of_signal d x)

-- a net that a block drives is a register
abbrev pub init_of : Shape → ℤ → Drive → Option VLiteral
init_of s z Input = None
init_of s z Undriven = None
init_of s z (CombAssign value) = None
init_of s z (CombBlock body) = Some (literal_of s z)
init_of s z (Sync k body) = Some (literal_of s z)

unfoldable pub signal_net : Design → List Name → ℕ → VNet
signal_net d names x = record {
  signed = (shape_of_signal d x).signed;
  bits = (shape_of_signal d x).bits;
  name = net names x;
  init = init_of (shape_of_signal d x) (reset_of_signal d x) (drive d x);
}

abbrev pub assign_by : Design → List Name → ℕ → Drive → List VAssign
assign_by d names x Input = []
assign_by d names x Undriven = record { name = net names x; value = reset_text d x } ∷ []
assign_by d names x (CombAssign value) = record { name = net names x; value = operand d names value.place } ∷ []
assign_by d names x (CombBlock body) = []
assign_by d names x (Sync k body) = []

-- the reset as the last statement of a clocked block
abbrev pub reset_block : Design → List Name → ℕ → Option SigId → VBlock
reset_block d names x None = EndBlock
reset_block d names x (Some r) =
    if (made (circuit_of d) x).reset_less then EndBlock
    else InBlock (When (Net (net names r.0)) (InBlock (Assign (Whole (net names x)) false (reset_text d x)) EndBlock) NoElse) EndBlock

abbrev pub domain_reset : Option Domain → Option SigId
domain_reset None = None
domain_reset (Some x) = x.reset

-- first the reset value, then the statements
abbrev pub comb_body : Design → List Name → ℕ → List StmtId → VBlock
comb_body d names x body = InBlock (Assign (Whole (net names x)) true (reset_text d x)) (block_onto (stmt_text d names true) body EndBlock)

abbrev pub sync_body : Design → List Name → ℕ → ℕ → List StmtId → VBlock
sync_body d names x k body = block_onto (stmt_text d names false) body (reset_block d names x (domain_reset (slice_get d.domains k)))

abbrev pub always_by : Design → List Name → ℕ → Drive → List VAlways
always_by d names x Input = []
always_by d names x Undriven = []
always_by d names x (CombAssign value) = []
always_by d names x (CombBlock body) = record { clock = None; body = comb_body d names x body } ∷ []
always_by d names x (Sync k body) = record { clock = Some (clock d k); body = sync_body d names x k body } ∷ []

unfoldable pub signal_assign : Design → List Name → ℕ → List VAssign
signal_assign d names x = assign_by d names x (drive d x)

unfoldable pub signal_always : Design → List Name → ℕ → List VAlways
signal_always d names x = always_by d names x (drive d x)
