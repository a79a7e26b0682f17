-- Expressions of Verilog in contexts, worked by hand from the standard's rules (IEEE 1364-2005, "Expressions").
use Rattle.std.specs.Prelude.{◌≡◌, ℕ, Bool, true, false, codes, if◌then◌else◌}
use Rattle.std.specs.Str.{bytes_eq}
use Rattle.lx_vtext.specs.declared.operators.UnOp.TheVariants.{Negate, Invert}
use Rattle.lx_vtext.specs.declared.operators.BinOp.TheVariants as op
use Rattle.lx_vtext.specs.Tree.{Name, VExpr, Net, Literal, PartSelect, Word, Unary, Binary, Conditional, Concatenation, Replication, ToSigned, ToUnsigned, NoMore, More}
use Rattle.lx_vmeaning.specs.Meaning.{Sizes, Valuation, meaning, own, assigned}

abbrev pub is_s : Name → Bool
is_s n = bytes_eq n (codes "s")

-- s has four signed bits; m is a memory of three words of four bits; every other name has four unsigned bits
abbrev pub sizes : Sizes
sizes n = record { bits = 4; signed = is_s n; depth = if bytes_eq n (codes "m") then 3 else 0 }

-- s and u have these patterns; the words of m are 9
abbrev pub patterns : ℕ → ℕ → Valuation
patterns s u = record { nets = λ n. if is_s n then s else u; words = λ n k. 9 }

abbrev pub s : VExpr
s = Net (codes "s")

abbrev pub u : VExpr
u = Net (codes "u")

-- 1'd1
abbrev pub one : VExpr
one = Literal 1 false 1

-- 4'd10
abbrev pub ten : VExpr
ten = Literal 4 false 10

-- bits in a context of so many bits, signed or not
abbrev pub in_context : ℕ → ℕ → ℕ → Bool → VExpr → ℕ
in_context a b w t e = (meaning sizes e).bits (patterns a b) w t

-- bits by themselves
abbrev pub alone : ℕ → ℕ → VExpr → ℕ
alone a b e = own (meaning sizes e) (patterns a b)

-- What these are worth, where s has the first pattern and u the second.
pub record AreWorked : Type 0 where
  -- signed beside unsigned is compared as unsigned: 8 isn't below 3
  pub compared_unsigned : alone 8 3 (Binary s op.Less u) ≡ 0
  -- -8 is below -5
  pub compared_signed : alone 8 0 (Binary s op.Less (Literal 4 true 11)) ≡ 1
  pub carry_lost : alone 0 15 (Binary u op.Add u) ≡ 14
  pub carry_kept : in_context 0 15 5 false (Binary u op.Add u) ≡ 30
  pub borrowed : alone 0 3 (Binary one op.Sub u) ≡ 14
  pub product_cut : alone 0 15 (Binary u op.Mul u) ≡ 1
  -- the wider operand's width, whichever it is
  pub wider_operand : alone 0 14 (Binary one op.Add u) ≡ 15
  pub bits_of_both : alone 0 12 (Binary u op.And ten) ≡ 8
  pub bits_of_either : alone 0 12 (Binary u op.Or ten) ≡ 14
  pub bits_of_one : alone 0 12 (Binary u op.Xor ten) ≡ 6
  pub less_of_equals : alone 0 3 (Binary u op.Less u) ≡ 0
  pub less_equal_of_equals : alone 0 3 (Binary u op.LessEqual u) ≡ 1
  pub equal_of_equals : alone 0 3 (Binary u op.Equal u) ≡ 1
  pub not_equal_of_equals : alone 0 3 (Binary u op.NotEqual u) ≡ 0
  pub greater_of_equals : alone 0 3 (Binary u op.Greater u) ≡ 0
  pub greater_equal_of_equals : alone 0 3 (Binary u op.GreaterEqual u) ≡ 1
  -- the carry is lost before the shift
  pub shifted_alone : alone 0 15 (Binary (Binary u op.Add u) op.ShiftRight one) ≡ 7
  pub shifted_wider : in_context 0 15 5 false (Binary (Binary u op.Add u) op.ShiftRight one) ≡ 15
  -- a right side is taken in its own width where the target is narrower
  pub shifted_narrower : assigned sizes (patterns 0 15) 3 (Binary (Binary u op.Add u) op.ShiftRight one) ≡ 7
  -- `>>>` fills with the top bit in a signed context alone
  pub filled_signed : alone 8 0 (Binary s op.ArithmeticRight one) ≡ 12
  pub filled_unsigned : alone 8 0 (Binary (Binary s op.ArithmeticRight one) op.Add u) ≡ 4
  -- a signed operand beside an unsigned one is extended by zeros
  pub extended_by_zeros : assigned sizes (patterns 8 0) 8 (Binary s op.Add u) ≡ 8
  pub extended_by_sign : assigned sizes (patterns 8 0) 8 (Binary s op.Add s) ≡ 240
  -- a select is unsigned, and so are concatenations
  pub selected : assigned sizes (patterns 8 0) 8 (PartSelect (codes "s") 3 2) ≡ 2
  pub joined : alone 8 3 (Concatenation s (More u NoMore)) ≡ 131
  pub copied : alone 0 5 (Replication 2 u) ≡ 85
  pub retyped : assigned sizes (patterns 0 8) 8 (ToSigned u) ≡ 248
  pub untyped : assigned sizes (patterns 8 0) 8 (ToUnsigned s) ≡ 8
  pub negated_wider : assigned sizes (patterns 0 1) 8 (Unary Negate u) ≡ 255
  pub inverted_wider : assigned sizes (patterns 0 0) 8 (Unary Invert u) ≡ 255
  -- an amount is read as unsigned: 1111 is fifteen places
  pub amount : in_context 15 1 16 false (Binary u op.ShiftLeft s) ≡ 32768
  -- branches: signed only where both are
  pub chosen : assigned sizes (patterns 8 0) 8 (Conditional one s u) ≡ 8
  pub chosen_signed : assigned sizes (patterns 8 0) 8 (Conditional one s s) ≡ 248
  -- any condition but 0 holds
  pub chosen_by_two : alone 8 2 (Conditional u s one) ≡ 8
  pub chosen_by_none : alone 8 0 (Conditional u s one) ≡ 1
  pub word : alone 0 2 (Word (codes "m") u) ≡ 9
  pub past_the_end : alone 0 3 (Word (codes "m") u) ≡ 0
