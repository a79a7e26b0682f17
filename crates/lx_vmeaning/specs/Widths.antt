-- The widths of a module: declared ones are 1 to 127, and an expression's own and its context's are 1 to 128.
-- Each is tested where it arises, in the order of the text, an operator before its operands (IEEE 1364-2005, "Expression bit lengths").
use Rattle.std.specs.Prelude.{ℕ, Bool, true, false, ◌+◌, ◌-◌, List, Option, Some, None, max, nat_le, ◌&&◌, if◌then◌else◌, IsTrue}
use Rattle.std.specs.List.{list_all}
use Rattle.lx_vtext.specs.declared.operators.BinOp.{BinOp}
use Rattle.lx_vtext.specs.declared.operators.BinOp.TheVariants as op
use Rattle.lx_vtext.specs.Tree.{VExpr, VExprs, Net, Literal, PartSelect, Word, Unary, Binary, Conditional, Concatenation, Replication, ToSigned, ToUnsigned, NoMore, More, VTarget, Whole, Part, WholeWord, PartWord, VStmt, Assign, When, VElse, NoElse, Else, VBlock, EndBlock, InBlock, VLiteral, VDecl, NetDecl, MemoryDecl, VSet, VAssign, VAlways, VModule}
use Rattle.lx_vmeaning.specs.Meaning.{Sizes, meaning}
use Rattle.lx_vmeaning.specs.Runs.{sizes}

abbrev pub is_declared_width : ℕ → Bool
is_declared_width n = nat_le 1 n && nat_le n 127

abbrev pub is_width : ℕ → Bool
is_width n = nat_le 1 n && nat_le n 128

abbrev pub is_shift : BinOp → Bool
is_shift op.ShiftLeft = true
is_shift op.ArithmeticLeft = true
is_shift op.ShiftRight = true
is_shift op.ArithmeticRight = true
is_shift _ = false

abbrev pub is_comparison : BinOp → Bool
is_comparison op.Less = true
is_comparison op.LessEqual = true
is_comparison op.Equal = true
is_comparison op.NotEqual = true
is_comparison op.Greater = true
is_comparison op.GreaterEqual = true
is_comparison _ = false

-- the contexts of the operands, of n and k bits, of an operator in a context of w bits:
-- a comparison's is the wider operand's width, and a shift's amount is taken by itself
abbrev pub left_context : BinOp → ℕ → ℕ → ℕ → ℕ
left_context o w n k = if is_comparison o then max n k else w

abbrev pub right_context : BinOp → ℕ → ℕ → ℕ → ℕ
right_context o w n k = if is_comparison o then max n k else (if is_shift o then k else w)

abbrev pub own_width : Sizes → VExpr → ℕ
own_width d e = (meaning d e).width

-- its own width, and its context's
abbrev pub has_widths : Sizes → ℕ → VExpr → Bool
has_widths d w e = is_width (own_width d e) && is_width w

-- the widths of an expression in a context of w bits
abbrev mutual
  pub widths_fit : Sizes → ℕ → VExpr → Bool
  widths_fit d w (Net n) = has_widths d w (Net n)
  widths_fit d w (Literal bits signed value) = has_widths d w (Literal bits signed value)
  widths_fit d w (PartSelect n hi lo) = has_widths d w (PartSelect n hi lo)
  widths_fit d w (Word n index) = has_widths d w (Word n index) && widths_fit d (own_width d index) index
  widths_fit d w (Unary o a) = has_widths d w (Unary o a) && widths_fit d w a
  widths_fit d w (Binary a o b) =
      has_widths d w (Binary a o b)
      && (widths_fit d (left_context o w (own_width d a) (own_width d b)) a && widths_fit d (right_context o w (own_width d a) (own_width d b)) b)
  widths_fit d w (Conditional c a b) = has_widths d w (Conditional c a b) && (widths_fit d (own_width d c) c && (widths_fit d w a && widths_fit d w b))
  widths_fit d w (Concatenation a as_) = has_widths d w (Concatenation a as_) && (widths_fit d (own_width d a) a && all_widths_fit d as_)
  widths_fit d w (Replication k a) = has_widths d w (Replication k a) && widths_fit d (own_width d a) a
  widths_fit d w (ToSigned a) = has_widths d w (ToSigned a) && widths_fit d (own_width d a) a
  widths_fit d w (ToUnsigned a) = has_widths d w (ToUnsigned a) && widths_fit d (own_width d a) a

  -- the parts of a concatenation, each by itself
  pub all_widths_fit : Sizes → VExprs → Bool
  all_widths_fit d NoMore = true
  all_widths_fit d (More a as_) = widths_fit d (own_width d a) a && all_widths_fit d as_

-- an index or a condition, by itself
abbrev pub alone_fits : Sizes → VExpr → Bool
alone_fits d e = widths_fit d (own_width d e) e

-- a right side for a target of n bits
abbrev pub right_fits : Sizes → ℕ → VExpr → Bool
right_fits d n e = widths_fit d (max n (own_width d e)) e

abbrev pub target_bits : Sizes → VTarget → ℕ
target_bits d (Whole n) = (d n).bits
target_bits d (Part n hi lo) = hi - lo + 1
target_bits d (WholeWord n index) = (d n).bits
target_bits d (PartWord n index hi lo) = hi - lo + 1

abbrev pub target_widths : Sizes → VTarget → Bool
target_widths d (Whole n) = true
target_widths d (Part n hi lo) = true
target_widths d (WholeWord n index) = alone_fits d index
target_widths d (PartWord n index hi lo) = alone_fits d index

abbrev mutual
  pub stmt_widths : Sizes → VStmt → Bool
  stmt_widths d (Assign t blocking e) = target_widths d t && right_fits d (target_bits d t) e
  stmt_widths d (When c so other) = alone_fits d c && (block_widths d so && else_widths d other)

  pub else_widths : Sizes → VElse → Bool
  else_widths d NoElse = true
  else_widths d (Else b) = block_widths d b

  pub block_widths : Sizes → VBlock → Bool
  block_widths d EndBlock = true
  block_widths d (InBlock s ss) = stmt_widths d s && block_widths d ss

-- a literal is a right side
abbrev pub literal_fits : Sizes → ℕ → VLiteral → Bool
literal_fits d n x = right_fits d n (Literal x.bits x.signed x.value)

abbrev pub value_fits : Sizes → ℕ → Option VLiteral → Bool
value_fits d n None = true
value_fits d n (Some x) = literal_fits d n x

abbrev pub decl_bits : VDecl → ℕ
decl_bits (NetDecl x) = x.bits
decl_bits (MemoryDecl x) = x.bits

abbrev pub decl_value_fits : Sizes → VDecl → Bool
decl_value_fits d (NetDecl x) = value_fits d x.bits x.init
decl_value_fits d (MemoryDecl x) = true

abbrev pub init_widths : Sizes → List VSet → Bool
init_widths d sets = list_all (λ x. literal_fits d (d x.name).bits x.value) sets

abbrev pub assign_widths : Sizes → VAssign → Bool
assign_widths d a = right_fits d (d a.name).bits a.value

abbrev pub always_widths : Sizes → VAlways → Bool
always_widths d a = block_widths d a.body

-- the declared widths, then those of the first values and of all other expressions
pub record HasWidths (m : VModule) : Type 0 where
  pub ports : IsTrue (list_all (λ p. is_declared_width p.net.bits) m.ports)
  pub decls : IsTrue (list_all (λ x. is_declared_width (decl_bits x)) m.decls)
  pub port_values : IsTrue (list_all (λ p. value_fits (sizes m) p.net.bits p.net.init) m.ports)
  pub decl_values : IsTrue (list_all (λ x. decl_value_fits (sizes m) x) m.decls)
  pub inits : IsTrue (list_all (λ b. init_widths (sizes m) b) m.inits)
  pub assigns : IsTrue (list_all (λ a. assign_widths (sizes m) a) m.assigns)
  pub blocks : IsTrue (list_all (λ a. always_widths (sizes m) a) m.always)
