-- The text of each operator beside each mix of signs, read by eye against the standard (IEEE 1364-2005, "Expressions").
use Rattle.std.specs.Prelude.{◌≡◌, ℕ, true, false, List, [], ◌∷◌, Some, codes, nat_eq, nat_lt, if◌then◌else◌}
use Rattle.lx_num.specs.declared.Shape.{Shape}
use Rattle.lx_num.specs.Ints.{shape, unsigned}
use Rattle.lx_tables.specs.declared.operators.Op.{Op}
use Rattle.lx_tables.specs.declared.operators.Op.TheVariants as op
use Rattle.lx_vtext.specs.Tree.{VExpr, Net, Literal}
use Rattle.lx_vtext.specs.Printed.{expr_text}
use Rattle.lx_fhdl.specs.Below.{ExprId}
use Rattle.lx_fhdl.specs.declared.exprs.Expr.{Expr}
use Rattle.lx_fhdl.specs.declared.exprs.Expr.TheVariants.{Unary, Binary, Mux, Cat, Replicate, Slice}
use Rattle.lx_emission.specs.Nodes.{node_text_of}

abbrev pub at : ℕ → ExprId
at k = record { place = k; of = record {} }

-- a and b have four unsigned bits, s and t four signed ones, c has one; then the constant 5 of four bits
abbrev pub shapes : ℕ → Shape
shapes k = if nat_lt k 2 then unsigned 4 else (if nat_lt k 4 then shape 4 true else (if nat_eq k 4 then unsigned 1 else unsigned 4))

abbrev pub operands : ℕ → VExpr
operands k =
    if nat_eq k 0 then Net (codes "a")
    else (if nat_eq k 1 then Net (codes "b") else (if nat_eq k 2 then Net (codes "s") else (if nat_eq k 3 then Net (codes "t") else (if nat_eq k 4 then Net (codes "c") else Literal 4 false 5))))

abbrev pub text : Expr → List ℕ
text x = expr_text (node_text_of (λ m. codes "m") shapes operands (Some x))

abbrev pub unary : Op → ℕ → List ℕ
unary o x = text (Unary o (at x))

abbrev pub binary : Op → ℕ → ℕ → List ℕ
binary o x y = text (Binary o (at x) (at y))

abbrev pub choice : ℕ → ℕ → List ℕ
choice x y = text (Mux (at 4) (at x) (at y))

abbrev pub joined : ℕ → ℕ → List ℕ
joined x y = text (Cat (at x ∷ at y ∷ []))

abbrev pub copies : ℕ → ℕ → List ℕ
copies x count = text (Replicate (at x) count)

abbrev pub slice : ℕ → ℕ → ℕ → List ℕ
slice x low high = text (Slice (at x) low high)

-- An unsigned operand beside a signed one is widened by a zero bit; an amount stands as it is; a signed number is moved
-- right by `>>>`; the first of joined parts stands last.
pub record AreRead : Type 0 where
  pub sum_uu : binary op.Add 0 1 ≡ codes "(a + b)"
  pub sum_us : binary op.Add 0 3 ≡ codes "($signed({1'd0, a}) + t)"
  pub sum_su : binary op.Add 2 1 ≡ codes "(s + $signed({1'd0, b}))"
  pub sum_ss : binary op.Add 2 3 ≡ codes "(s + t)"
  pub difference_uu : binary op.Sub 0 1 ≡ codes "(a - b)"
  pub difference_us : binary op.Sub 0 3 ≡ codes "($signed({1'd0, a}) - t)"
  pub difference_su : binary op.Sub 2 1 ≡ codes "(s - $signed({1'd0, b}))"
  pub difference_ss : binary op.Sub 2 3 ≡ codes "(s - t)"
  pub product_uu : binary op.Mul 0 1 ≡ codes "(a * b)"
  pub product_us : binary op.Mul 0 3 ≡ codes "($signed({1'd0, a}) * t)"
  pub product_su : binary op.Mul 2 1 ≡ codes "(s * $signed({1'd0, b}))"
  pub product_ss : binary op.Mul 2 3 ≡ codes "(s * t)"
  pub both_uu : binary op.And 0 1 ≡ codes "(a & b)"
  pub both_us : binary op.And 0 3 ≡ codes "($signed({1'd0, a}) & t)"
  pub both_su : binary op.And 2 1 ≡ codes "(s & $signed({1'd0, b}))"
  pub both_ss : binary op.And 2 3 ≡ codes "(s & t)"
  pub either_uu : binary op.Or 0 1 ≡ codes "(a | b)"
  pub either_us : binary op.Or 0 3 ≡ codes "($signed({1'd0, a}) | t)"
  pub either_su : binary op.Or 2 1 ≡ codes "(s | $signed({1'd0, b}))"
  pub either_ss : binary op.Or 2 3 ≡ codes "(s | t)"
  pub one_of_uu : binary op.Xor 0 1 ≡ codes "(a ^ b)"
  pub one_of_us : binary op.Xor 0 3 ≡ codes "($signed({1'd0, a}) ^ t)"
  pub one_of_su : binary op.Xor 2 1 ≡ codes "(s ^ $signed({1'd0, b}))"
  pub one_of_ss : binary op.Xor 2 3 ≡ codes "(s ^ t)"
  pub equal_uu : binary op.Eq 0 1 ≡ codes "(a == b)"
  pub equal_us : binary op.Eq 0 3 ≡ codes "($signed({1'd0, a}) == t)"
  pub equal_su : binary op.Eq 2 1 ≡ codes "(s == $signed({1'd0, b}))"
  pub equal_ss : binary op.Eq 2 3 ≡ codes "(s == t)"
  pub other_uu : binary op.Ne 0 1 ≡ codes "(a != b)"
  pub other_us : binary op.Ne 0 3 ≡ codes "($signed({1'd0, a}) != t)"
  pub other_su : binary op.Ne 2 1 ≡ codes "(s != $signed({1'd0, b}))"
  pub other_ss : binary op.Ne 2 3 ≡ codes "(s != t)"
  pub less_uu : binary op.Lt 0 1 ≡ codes "(a < b)"
  pub less_us : binary op.Lt 0 3 ≡ codes "($signed({1'd0, a}) < t)"
  pub less_su : binary op.Lt 2 1 ≡ codes "(s < $signed({1'd0, b}))"
  pub less_ss : binary op.Lt 2 3 ≡ codes "(s < t)"
  pub at_most_uu : binary op.Le 0 1 ≡ codes "(a <= b)"
  pub at_most_us : binary op.Le 0 3 ≡ codes "($signed({1'd0, a}) <= t)"
  pub at_most_su : binary op.Le 2 1 ≡ codes "(s <= $signed({1'd0, b}))"
  pub at_most_ss : binary op.Le 2 3 ≡ codes "(s <= t)"
  pub more_uu : binary op.Gt 0 1 ≡ codes "(a > b)"
  pub more_us : binary op.Gt 0 3 ≡ codes "($signed({1'd0, a}) > t)"
  pub more_su : binary op.Gt 2 1 ≡ codes "(s > $signed({1'd0, b}))"
  pub more_ss : binary op.Gt 2 3 ≡ codes "(s > t)"
  pub at_least_uu : binary op.Ge 0 1 ≡ codes "(a >= b)"
  pub at_least_us : binary op.Ge 0 3 ≡ codes "($signed({1'd0, a}) >= t)"
  pub at_least_su : binary op.Ge 2 1 ≡ codes "(s >= $signed({1'd0, b}))"
  pub at_least_ss : binary op.Ge 2 3 ≡ codes "(s >= t)"
  pub left_shift_uu : binary op.Shl 0 1 ≡ codes "(a << b)"
  pub left_shift_us : binary op.Shl 0 3 ≡ codes "(a << t)"
  pub left_shift_su : binary op.Shl 2 1 ≡ codes "(s << b)"
  pub left_shift_ss : binary op.Shl 2 3 ≡ codes "(s << t)"
  pub right_shift_uu : binary op.Shr 0 1 ≡ codes "(a >> b)"
  pub right_shift_us : binary op.Shr 0 3 ≡ codes "(a >> t)"
  pub right_shift_su : binary op.Shr 2 1 ≡ codes "(s >>> b)"
  pub right_shift_ss : binary op.Shr 2 3 ≡ codes "(s >>> t)"
  pub negated_u : unary op.Neg 0 ≡ codes "(-a)"
  pub negated_s : unary op.Neg 2 ≡ codes "(-s)"
  pub inverted_u : unary op.Not 0 ≡ codes "(~a)"
  pub inverted_s : unary op.Not 2 ≡ codes "(~s)"
  pub choice_uu : choice 0 1 ≡ codes "(c ? a : b)"
  pub choice_us : choice 0 3 ≡ codes "(c ? $signed({1'd0, a}) : t)"
  pub choice_su : choice 2 1 ≡ codes "(c ? s : $signed({1'd0, b}))"
  pub choice_ss : choice 2 3 ≡ codes "(c ? s : t)"
  pub joined_uu : joined 0 1 ≡ codes "{b, a}"
  pub joined_us : joined 0 3 ≡ codes "{t, a}"
  pub joined_su : joined 2 1 ≡ codes "{b, s}"
  pub joined_ss : joined 2 3 ≡ codes "{t, s}"
  pub copies_u : copies 0 3 ≡ codes "{3{a}}"
  pub copies_s : copies 2 3 ≡ codes "{3{s}}"
  pub slice_u : slice 0 1 3 ≡ codes "a[2:1]"
  pub slice_s : slice 2 0 3 ≡ codes "s[2:0]"
  pub slice_whole : slice 2 0 4 ≡ codes "$unsigned(s)"
  pub slice_of_constant : slice 5 1 3 ≡ codes "2'd2"
