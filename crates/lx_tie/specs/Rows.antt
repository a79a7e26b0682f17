-- The text of an operator, as its row of the table says, and what it means.
use Rattle.std.specs.Prelude.{◌≡◌, ℕ, ℤ, pos, Bool, true, false, List, [], ◌∷◌, ◌*◌, ◌≤◌}
use Rattle.lx_num.specs.declared.Shape.{Shape}
use Rattle.lx_tables.specs.declared.operators.Op.{Op}
use Rattle.lx_tables.specs.declared.operators.Op.TheVariants.{Shl, Shr, Mux, Cat, Replicate}
use Rattle.lx_tables.specs.declared.operators.Mix.{Mix}
use Rattle.lx_tables.specs.declared.operators.OpText.{OpText}
use Rattle.lx_tables.specs.declared.operators.OpText.TheVariants as text
use Rattle.lx_tables.specs.declared.operators.OpRow.{OpRow}
use Rattle.lx_tables.specs.Operators.{row_of, mix_of}
use Rattle.lx_vtext.specs.declared.operators.UnOp.{UnOp}
use Rattle.lx_vtext.specs.declared.operators.UnOp.TheVariants.{Negate, Invert}
use Rattle.lx_vtext.specs.declared.operators.BinOp.{BinOp}
use Rattle.lx_vtext.specs.declared.operators.BinOp.TheVariants as op
use Rattle.lx_circuit.specs.Operands.{is_unary, is_binary}
use Rattle.lx_circuit.specs.Shapes.{unary_shape, binary_shape, joined, bits_sum}
use Rattle.lx_circuit.specs.Values.{unary_value, binary_value, mux_value, cat_pattern, replicate_value}
use Rattle.lx_vmeaning.specs.Meaning.{Valuation, Meaning, unary, binary, choose, as_signed, concat, repeat, literal}
use Rattle.lx_tie.specs.Stands.{Exact, Drives}

-- the Verilog operator of a form with one operand
abbrev pub unary_op : OpText → UnOp
unary_op text.Inverted = Invert
unary_op _ = Negate

-- the Verilog operator of a form with two operands
abbrev pub binary_op : OpText → BinOp
binary_op text.Minus = op.Sub
binary_op text.Times = op.Mul
binary_op text.ShiftLeft = op.ShiftLeft
binary_op text.ShiftRight = op.ShiftRight
binary_op text.ShiftRightSigned = op.ArithmeticRight
binary_op text.BitAnd = op.And
binary_op text.BitOr = op.Or
binary_op text.BitXor = op.Xor
binary_op text.Equal = op.Equal
binary_op text.NotEqual = op.NotEqual
binary_op text.Less = op.Less
binary_op text.LessOrEqual = op.LessEqual
binary_op text.Greater = op.Greater
binary_op text.GreaterOrEqual = op.GreaterEqual
binary_op _ = op.Add

-- $signed({1'd0, e}): an unsigned operand beside a signed one
abbrev pub widened : Meaning → Meaning
widened e = as_signed (concat (literal 1 false 0 ∷ e ∷ []))

abbrev pub wide_if : Bool → Meaning → Meaning
wide_if true e = widened e
wide_if false e = e

-- an operand sized by the row
abbrev pub built_unary : OpRow → Meaning → Meaning
built_unary r a = unary (unary_op r.text) (wide_if r.widen_left a)

abbrev pub built_binary : OpRow → Meaning → Meaning → Meaning
built_binary r a b = binary (binary_op r.text) (wide_if r.widen_left a) (wide_if r.widen_right b)

abbrev pub built_choice : OpRow → Meaning → Meaning → Meaning → Meaning
built_choice r c a b = choose c (wide_if r.widen_left a) (wide_if r.widen_right b)

-- the parts with the first one last, as a concatenation has them
abbrev pub reversed_onto : List Meaning → List Meaning → List Meaning
reversed_onto [] done = done
reversed_onto (e ∷ es) done = reversed_onto es (e ∷ done)

-- parts joined, or one part so many times
abbrev pub built_parts : OpText → ℕ → List Meaning → Meaning
built_parts text.Repeated k (e ∷ []) = repeat k e
built_parts _ k es = concat (reversed_onto es [])

-- parts that stand for numbers, each by itself
abbrev pub StandFor : Valuation → List Shape → List ℤ → List Meaning → Type 0
StandFor u [] [] [] = Unit {0}
StandFor u (s ∷ ss) (z ∷ zs) (e ∷ es) = Exact u s.bits s.signed z e × StandFor u ss zs es
StandFor u _ _ _ = ⊥

-- an amount is unsigned
abbrev pub TakesRight : Op → Bool → Type 0
TakesRight Shl s = s ≡ false
TakesRight Shr s = s ≡ false
TakesRight _ s = Unit {0}

-- The text of an operator with one operand gives a net the bits of its value.
abbrev pub IsUnaryLaw : Type 0
IsUnaryLaw = (u : Valuation) (op : Op) (a : Shape) (x : ℤ) (d : Meaning) → is_unary op ≡ true → Exact u a.bits a.signed x d
    → Drives u (unary_shape op a).bits (unary_value op a x) (built_unary (row_of op (mix_of a.signed a.signed)) d)

-- The text of an operator with two operands does, whatever their signs.
abbrev pub IsBinaryLaw : Type 0
IsBinaryLaw = (u : Valuation) (op : Op) (a b : Shape) (x y : ℤ) (d e : Meaning) → is_binary op ≡ true → TakesRight op b.signed → Exact u a.bits a.signed x d → Exact u b.bits b.signed y e
    → Drives u (binary_shape op a b).bits (binary_value op x y) (built_binary (row_of op (mix_of a.signed b.signed)) d e)

-- And so does the text of a choice.
abbrev pub IsChoiceLaw : Type 0
IsChoiceLaw = (u : Valuation) (c a b : Shape) (z x y : ℤ) (f d e : Meaning) → Exact u c.bits c.signed z f → Exact u a.bits a.signed x d → Exact u b.bits b.signed y e
    → Drives u (joined a b).bits (mux_value z x y) (built_choice (row_of Mux (mix_of a.signed b.signed)) f d e)

-- The text of a concatenation gives a net the bits of the joined parts, whatever their signs.
abbrev pub IsPartsLaw : Type 0
IsPartsLaw = (u : Valuation) (m : Mix) (ss : List Shape) (zs : List ℤ) (es : List Meaning) → StandFor u ss zs es → 1 ≤ bits_sum ss
    → Drives u (bits_sum ss) (pos (cat_pattern ss zs)) (built_parts (row_of Cat m).text 1 es)

-- And that of copies does.
abbrev pub IsCopiesLaw : Type 0
IsCopiesLaw = (u : Valuation) (m : Mix) (a : Shape) (k : ℕ) (x : ℤ) (d : Meaning) → 1 ≤ k → Exact u a.bits a.signed x d
    → Drives u (k * a.bits) (replicate_value a k x) (built_parts (row_of Replicate m).text k (d ∷ []))

-- All rows of the table: each operator beside each mix of signs.
pub record AllRowsStand : Type 0 where
  pub unary : IsUnaryLaw
  pub binary : IsBinaryLaw
  pub choice : IsChoiceLaw
  pub parts : IsPartsLaw
  pub copies : IsCopiesLaw
