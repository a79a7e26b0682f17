-- The text of a Verilog module, one case for each form (IEEE 1364-2005, formal syntax).
use Rattle.std.specs.Prelude.{ℕ, Bool, true, false, List, [], ◌∷◌, ◌++◌, ◌+◌, ◌-◌, ◌==◌, Option, Some, None, map, flat_map, codes, nat_le, if◌then◌else◌, zero, suc}
use Rattle.std.specs.Int.Digits.{digits_of}
use Rattle.lx_vtext.specs.declared.operators.BinOp.{BinOp}
use Rattle.lx_vtext.specs.declared.operators.BinOp.TheVariants as op
use Rattle.lx_vtext.specs.declared.operators.UnOp.{UnOp}
use Rattle.lx_vtext.specs.declared.operators.UnOp.TheVariants as unary
use Rattle.lx_vtext.specs.Tree.{Name, VExpr, Net, Literal, PartSelect, Word, Unary, Binary, Conditional, Concatenation, Replication, ToSigned, ToUnsigned, VExprs, NoMore, More, VTarget, Whole, Part, WholeWord, PartWord, VStmt, Assign, When, VElse, NoElse, Else, VBlock, EndBlock, InBlock, VLiteral, VNet, VPort, VMemory, VDecl, NetDecl, MemoryDecl, VSet, VAssign, VAlways, VModule}

-- a number in decimal, without a leading zero
unfoldable pub number_text : ℕ → List ℕ
number_text n = if n == 0 then codes "0" else map (λ d. 48 + d) (digits_of 10 n)

abbrev pub base_text : Bool → List ℕ
base_text true = codes "'sd"
base_text false = codes "'d"

unfoldable pub literal_text : ℕ → Bool → ℕ → List ℕ
literal_text bits signed value = number_text bits ++ base_text signed ++ number_text value

unfoldable pub range_text : ℕ → ℕ → List ℕ
range_text hi lo = codes "[" ++ number_text hi ++ codes ":" ++ number_text lo ++ codes "]"

abbrev pub unary_text : UnOp → List ℕ
unary_text unary.Negate = codes "-"
unary_text unary.Invert = codes "~"

abbrev pub op_text : BinOp → List ℕ
op_text op.Add = codes "+"
op_text op.Sub = codes "-"
op_text op.Mul = codes "*"
op_text op.ShiftLeft = codes "<<"
op_text op.ArithmeticLeft = codes "<<<"
op_text op.ShiftRight = codes ">>"
op_text op.ArithmeticRight = codes ">>>"
op_text op.And = codes "&"
op_text op.Or = codes "|"
op_text op.Xor = codes "^"
op_text op.Less = codes "<"
op_text op.LessEqual = codes "<="
op_text op.Equal = codes "=="
op_text op.NotEqual = codes "!="
op_text op.Greater = codes ">"
op_text op.GreaterEqual = codes ">="

abbrev mutual
  pub expr_text : VExpr → List ℕ
  expr_text (Net n) = n
  expr_text (Literal bits signed value) = literal_text bits signed value
  expr_text (PartSelect n hi lo) = n ++ range_text hi lo
  expr_text (Word n e) = n ++ codes "[" ++ expr_text e ++ codes "]"
  expr_text (Unary op e) = codes "(" ++ unary_text op ++ expr_text e ++ codes ")"
  expr_text (Binary a op b) = codes "(" ++ expr_text a ++ codes " " ++ op_text op ++ codes " " ++ expr_text b ++ codes ")"
  expr_text (Conditional c a b) = codes "(" ++ expr_text c ++ codes " ? " ++ expr_text a ++ codes " : " ++ expr_text b ++ codes ")"
  expr_text (Concatenation e es) = codes "{" ++ expr_text e ++ more_text es ++ codes "}"
  expr_text (Replication k e) = codes "{" ++ number_text k ++ codes "{" ++ expr_text e ++ codes "}}"
  expr_text (ToSigned e) = codes "$signed(" ++ expr_text e ++ codes ")"
  expr_text (ToUnsigned e) = codes "$unsigned(" ++ expr_text e ++ codes ")"

  pub more_text : VExprs → List ℕ
  more_text NoMore = []
  more_text (More e es) = codes ", " ++ expr_text e ++ more_text es

-- four blanks a level
abbrev pub indent : ℕ → List ℕ
indent zero = []
indent (suc k) = codes "    " ++ indent k

abbrev pub target_text : VTarget → List ℕ
target_text (Whole n) = n
target_text (Part n hi lo) = n ++ range_text hi lo
target_text (WholeWord n e) = n ++ codes "[" ++ expr_text e ++ codes "]"
target_text (PartWord n e hi lo) = n ++ codes "[" ++ expr_text e ++ codes "]" ++ range_text hi lo

abbrev pub sets_text : Bool → List ℕ
sets_text true = codes " = "
sets_text false = codes " <= "

abbrev mutual
  pub stmt_text : ℕ → VStmt → List ℕ
  stmt_text k (Assign t blocking e) = indent k ++ target_text t ++ sets_text blocking ++ expr_text e ++ codes ";\n"
  stmt_text k (When c so other) = indent k ++ codes "if (" ++ expr_text c ++ codes ") begin\n" ++ block_text (k + 1) so ++ else_text k other ++ indent k ++ codes "end\n"

  pub else_text : ℕ → VElse → List ℕ
  else_text k NoElse = []
  else_text k (Else b) = indent k ++ codes "end else begin\n" ++ block_text (k + 1) b

  pub block_text : ℕ → VBlock → List ℕ
  block_text k EndBlock = []
  block_text k (InBlock s ss) = stmt_text k s ++ block_text k ss

-- the range of a net, none where it has one bit
abbrev pub net_hi : ℕ → Option ℕ
net_hi bits = if nat_le bits 1 then None else Some (bits - 1)

abbrev pub bits_text : Option ℕ → List ℕ
bits_text None = []
bits_text (Some hi) = codes "[" ++ number_text hi ++ codes ":0] "

abbrev pub signed_text : Bool → List ℕ
signed_text true = codes "signed "
signed_text false = []

unfoldable pub head_text : Bool → Option ℕ → Name → List ℕ
head_text signed hi name = signed_text signed ++ bits_text hi ++ name

abbrev pub value_text : VLiteral → List ℕ
value_text v = literal_text v.bits v.signed v.value

abbrev pub init_text : Bool → ℕ → Name → Option VLiteral → List ℕ
init_text signed bits name None = codes "wire " ++ head_text signed (net_hi bits) name
init_text signed bits name (Some v) = codes "reg " ++ head_text signed (net_hi bits) name ++ codes " = " ++ value_text v

abbrev pub net_text : VNet → List ℕ
net_text n = init_text n.signed n.bits n.name n.init

abbrev pub direction_text : Bool → List ℕ
direction_text true = codes "    input "
direction_text false = codes "    output "

abbrev pub port_text : VPort → List ℕ
port_text p = direction_text p.is_input ++ net_text p.net

abbrev pub more_ports_text : List VPort → List ℕ
more_ports_text ps = flat_map (λ q. codes ",\n" ++ port_text q) ps

abbrev pub ports_text : List VPort → List ℕ
ports_text [] = []
ports_text (p ∷ ps) = port_text p ++ more_ports_text ps ++ codes "\n"

-- a memory has its range at one bit too
unfoldable pub memory_text : VMemory → List ℕ
memory_text m = codes "reg [" ++ number_text (m.bits - 1) ++ codes ":0] " ++ m.name ++ codes " [0:" ++ number_text (m.depth - 1) ++ codes "]"

abbrev pub decl_text : VDecl → List ℕ
decl_text (NetDecl n) = net_text n ++ codes ";\n"
decl_text (MemoryDecl m) = memory_text m ++ codes ";\n"

unfoldable pub set_text : VSet → List ℕ
set_text s = codes "    " ++ s.name ++ codes "[" ++ number_text s.index ++ codes "] = " ++ value_text s.value ++ codes ";\n"

unfoldable pub initial_text : List VSet → List ℕ
initial_text sets = codes "initial begin\n" ++ flat_map set_text sets ++ codes "end\n"

unfoldable pub assign_text : VAssign → List ℕ
assign_text a = codes "assign " ++ a.name ++ codes " = " ++ expr_text a.value ++ codes ";\n"

abbrev pub event_text : Option Name → List ℕ
event_text None = codes "*"
event_text (Some clock) = codes "posedge " ++ clock

unfoldable pub always_text : VAlways → List ℕ
always_text a = codes "always @(" ++ event_text a.clock ++ codes ") begin\n" ++ block_text 1 a.body ++ codes "end\n"

-- ports, declarations, initial blocks, assigns, always blocks
unfoldable pub module_text : VModule → List ℕ
module_text m =
    codes "module top (\n" ++ ports_text m.ports ++ codes ");\n" ++ flat_map decl_text m.decls ++ flat_map initial_text m.inits ++ flat_map assign_text m.assigns ++ flat_map always_text m.always
    ++ codes "endmodule\n"
