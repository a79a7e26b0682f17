-- How each operator is written in Verilog, by the signs of its operands.
use Rattle.std.specs.Prelude.{Bool, true, false, ◌||◌, ◌&&◌, not}
use Rattle.lx_tables.specs.declared.operators.Op.{Op}
use Rattle.lx_tables.specs.declared.operators.Op.TheVariants.{Neg, Not, Add, Sub, Mul, Shl, Shr, And, Or, Xor, Eq, Ne, Lt, Le, Gt, Ge, Mux, Cat, Replicate}
use Rattle.lx_tables.specs.declared.operators.Mix.{Mix}
use Rattle.lx_tables.specs.declared.operators.Mix.TheVariants.{UU, US, SU, SS}
use Rattle.lx_tables.specs.declared.operators.OpText.{OpText}
use Rattle.lx_tables.specs.declared.operators.OpText.TheVariants.{Negated, Inverted, Plus, Minus, Times, ShiftLeft, ShiftRight, ShiftRightSigned, BitAnd, BitOr, BitXor, Equal, NotEqual, Less, LessOrEqual, Greater, GreaterOrEqual, Choice, Joined, Repeated}
use Rattle.lx_tables.specs.declared.operators.OpRow.{OpRow}

abbrev pub left_signed : Mix → Bool
left_signed UU = false
left_signed US = false
left_signed SU = true
left_signed SS = true

abbrev pub right_signed : Mix → Bool
right_signed UU = false
right_signed US = true
right_signed SU = false
right_signed SS = true

-- the signs of two operands, named
abbrev pub mix_of : Bool → Bool → Mix
mix_of false false = UU
mix_of false true = US
mix_of true false = SU
mix_of true true = SS

-- whether some operand is signed: the sign of the two operands joined
abbrev pub some_signed : Mix → Bool
some_signed m = left_signed m || right_signed m

-- operands that are first joined: an unsigned one beside a signed one is widened
abbrev pub joined : Mix → Bool → OpText → OpRow
joined m signed t = record { signed = signed; widen_left = not (left_signed m) && right_signed m; widen_right = left_signed m && not (right_signed m); text = t }

-- operands that stand as they are
abbrev pub apart : Bool → OpText → OpRow
apart signed t = record { signed = signed; widen_left = false; widen_right = false; text = t }

-- a shift to the right keeps the sign of a signed number
abbrev pub right_shift : Bool → OpText
right_shift false = ShiftRight
right_shift true = ShiftRightSigned

abbrev pub row_of : Op → Mix → OpRow
row_of Neg m = apart true Negated
row_of Not m = apart (left_signed m) Inverted
row_of Add m = joined m (some_signed m) Plus
row_of Sub m = joined m true Minus
row_of Mul m = joined m (some_signed m) Times
row_of Shl m = apart (left_signed m) ShiftLeft
row_of Shr m = apart (left_signed m) (right_shift (left_signed m))
row_of And m = joined m (some_signed m) BitAnd
row_of Or m = joined m (some_signed m) BitOr
row_of Xor m = joined m (some_signed m) BitXor
row_of Eq m = joined m false Equal
row_of Ne m = joined m false NotEqual
row_of Lt m = joined m false Less
row_of Le m = joined m false LessOrEqual
row_of Gt m = joined m false Greater
row_of Ge m = joined m false GreaterOrEqual
row_of Mux m = joined m (some_signed m) Choice
row_of Cat m = apart false Joined
row_of Replicate m = apart false Repeated
