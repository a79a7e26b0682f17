-- Expressions that name neither a signal nor a word of a memory, and their values.
use Rattle.std.specs.Prelude.{◌≡◌, ℕ, ℤ, pos, Bool, true, false, List, [], ◌∷◌, Option, Some, None, ◌<◌, ◌≤◌, ◌&&◌, length, slice_get, slice_index_or}
use Rattle.lx_num.specs.declared.Shape.{Shape}
use Rattle.lx_circuit.specs.Values.{value_of}
use Rattle.lx_circuit.specs.Terms.{Constant}
use Rattle.lx_circuit.specs.Statements.{Block, Stmt, Assign, Whole}
use Rattle.lx_circuit.specs.Circuit.{made}
use Rattle.lx_fhdl.specs.Below.{ExprId}
use Rattle.lx_fhdl.specs.Designs.{circuit_of, shapes, term}
use Rattle.lx_fhdl.specs.Lowered.{are_for, is_for}
use Rattle.lx_fhdl.specs.Nodes.{IsValued, shape_at, value_at}
use Rattle.lx_fhdl.specs.Trees.{term_at}
use Rattle.lx_fhdl.specs.declared.design.Design.{Design}
use Rattle.lx_fhdl.specs.declared.exprs.Expr.{Expr}
use Rattle.lx_fhdl.specs.declared.exprs.Expr.TheVariants.{Const, Sig, Unary, Binary, Mux, Cat, Pick, Replicate, Slice, Fetch}
use Rattle.lx_lowering.specs.Constants.{block_reads_none, names_none, reads_none, zeros, folded}
use Rattle.lx_lowering.specs.Flat.{one}
use Rattle.lx_lower.specs.declared.fixed.Fixed.{Fixed}
use Rattle.lx_plain.specs.Lines.{Assigned, alone}
use Rattle.lx_lower.specs.declared.fold.Folded.{Folded}

-- whether the expression at a place is free
abbrev pub free_at : List Bool → ℕ → Bool
free_at free k = slice_index_or free k false

abbrev pub all_free : List Bool → List ExprId → Bool
all_free free [] = true
all_free free (i ∷ is) = free_at free i.place && all_free free is

-- whether a node is free, from its children
abbrev pub node_free : List Bool → Expr → Bool
node_free free (Const value bits signed) = true
node_free free (Sig x) = false
node_free free (Unary op of) = free_at free of.place
node_free free (Binary op left right) = free_at free left.place && free_at free right.place
node_free free (Mux cond so other) = free_at free cond.place && (free_at free so.place && free_at free other.place)
node_free free (Cat parts) = all_free free parts
node_free free (Pick items index) = all_free free items && free_at free index.place
node_free free (Replicate of count) = free_at free of.place
node_free free (Slice of low high) = free_at free of.place
node_free free (Fetch memory width at) = false

-- whether each of the first n expressions is free
pub record AreFree (xs : List Expr) (n : ℕ) (free : List Bool) : Type 0 where
  pub long : length free ≡ n
  pub each : (k : ℕ) → k < n → free_at free k ≡ names_none (term_at xs k)

-- a node, or 0 of its shape
abbrev pub mask_node : Bool → Shape → Expr → Expr
mask_node true a x = x
mask_node false a x = Const (pos 0) a.bits a.signed

-- the first n expressions, with 0 in place of each that isn't free
pub record IsMask (xs : List Expr) (free : List Bool) (hs : List Shape) (n : ℕ) (ys : List Expr) : Type 0 where
  pub long : length ys ≡ n
  pub each : (k : ℕ) (x : Expr) → k < n → slice_get xs k ≡ Some x → slice_get ys k ≡ Some (mask_node (free_at free k) (shape_at hs k) x)

-- the value of each expression, where none names anything
pub record AreValued (xs : List Expr) (hs : List Shape) (known : List ℤ) : Type 0 where
  pub long : length known ≡ length xs
  pub each : (k : ℕ) → k < length xs → IsValued xs hs [] known k

-- which expressions of a draft are free, and the values of those
pub record IsFixed (d : Design) (f : Fixed) : Type 0 where
  pub free : AreFree d.exprs (length d.exprs) f.free
  pub long : length f.values ≡ length d.exprs
  pub values : (k : ℕ) → k < length d.exprs → free_at f.free k ≡ true → value_at f.values k ≡ value_of (shapes d) zeros (term d k)

-- the value that a signal has where nothing gives it one
abbrev pub reset_of : Design → ℕ → ℤ
reset_of d x = (made (circuit_of d) x).reset

-- 1 to 64 bits
pub record IsNarrow (a : Shape) : Type 0 where
  pub some : 1 ≤ a.bits
  pub most : a.bits ≤ 64

-- a statement for the signal x that names nothing
pub record IsForFree (x : ℕ) (t : Stmt) : Type 0 where
  pub alone : is_for x t ≡ true
  pub free : reads_none t ≡ true

pub record AreForFree (x : ℕ) (b : Block) : Type 0 where
  pub alone : are_for x b ≡ true
  pub free : block_reads_none b ≡ true

-- the statements of a signal, folded
abbrev pub folded_in : Design → ℕ → Block → Block
folded_in d x b = folded (shapes d) x (reset_of d x) b

-- the assignment of a constant to a signal
abbrev pub constant_in : Design → ℕ → ℤ → Block
constant_in d x v = one (Assign (Whole x) (Constant v (shapes d x)))

-- statements, or the assignment of a constant in their place
abbrev pub chosen : Design → ℕ → Option Folded → Block → Block
chosen d x None b = b
chosen d x (Some f) b = constant_in d x f.value

-- their lines, or that of the constant
abbrev pub chosen_lines : Option Folded → List Assigned → List Assigned
chosen_lines None ls = ls
chosen_lines (Some f) ls = alone f.line ∷ []
