-- The values of operators at the least and greatest operands of four bits, worked by hand.
use Rattle.std.specs.Prelude.{◌≡◌, ℤ, pos, negsuc, true, List, [], ◌∷◌}
use Rattle.lx_num.specs.Ints.{shape, unsigned}
use Rattle.lx_tables.specs.declared.operators.Op.{Op}
use Rattle.lx_tables.specs.declared.operators.Op.TheVariants as op
use Rattle.lx_circuit.specs.Values.{unary_value, binary_value, mux_value, replicate_value}

-- both operands signed, both unsigned, and one of each: the least with the greatest, and the other way round
abbrev pub extremes : Op → List ℤ
extremes op =
    binary_value op (negsuc 7) (pos 7) ∷ binary_value op (pos 7) (negsuc 7)
    ∷ binary_value op (pos 0) (pos 15) ∷ binary_value op (pos 15) (pos 0)
    ∷ binary_value op (negsuc 7) (pos 15) ∷ binary_value op (pos 15) (negsuc 7) ∷ []

-- What these are worth.
pub record AreWorked : Type 0 where
  pub sums : extremes op.Add ≡ negsuc 0 ∷ negsuc 0 ∷ pos 15 ∷ pos 15 ∷ pos 7 ∷ pos 7 ∷ []
  pub differences : extremes op.Sub ≡ negsuc 14 ∷ pos 15 ∷ negsuc 14 ∷ pos 15 ∷ negsuc 22 ∷ pos 23 ∷ []
  pub products : extremes op.Mul ≡ negsuc 55 ∷ negsuc 55 ∷ pos 0 ∷ pos 0 ∷ negsuc 119 ∷ negsuc 119 ∷ []
  pub bits_of_both : extremes op.And ≡ pos 0 ∷ pos 0 ∷ pos 0 ∷ pos 0 ∷ pos 8 ∷ pos 8 ∷ []
  pub bits_of_either : extremes op.Or ≡ negsuc 0 ∷ negsuc 0 ∷ pos 15 ∷ pos 15 ∷ negsuc 0 ∷ negsuc 0 ∷ []
  pub bits_of_one : extremes op.Xor ≡ negsuc 0 ∷ negsuc 0 ∷ pos 15 ∷ pos 15 ∷ negsuc 8 ∷ negsuc 8 ∷ []
  pub equal : extremes op.Eq ≡ pos 0 ∷ pos 0 ∷ pos 0 ∷ pos 0 ∷ pos 0 ∷ pos 0 ∷ []
  pub unequal : extremes op.Ne ≡ pos 1 ∷ pos 1 ∷ pos 1 ∷ pos 1 ∷ pos 1 ∷ pos 1 ∷ []
  pub less : extremes op.Lt ≡ pos 1 ∷ pos 0 ∷ pos 1 ∷ pos 0 ∷ pos 1 ∷ pos 0 ∷ []
  pub less_or_equal : extremes op.Le ≡ pos 1 ∷ pos 0 ∷ pos 1 ∷ pos 0 ∷ pos 1 ∷ pos 0 ∷ []
  pub greater : extremes op.Gt ≡ pos 0 ∷ pos 1 ∷ pos 0 ∷ pos 1 ∷ pos 0 ∷ pos 1 ∷ []
  pub greater_or_equal : extremes op.Ge ≡ pos 0 ∷ pos 1 ∷ pos 0 ∷ pos 1 ∷ pos 0 ∷ pos 1 ∷ []
  pub shifted_least : binary_value op.Shl (negsuc 7) (pos 15) ≡ negsuc 262143
  pub shifted_greatest : binary_value op.Shl (pos 7) (pos 15) ≡ pos 229376
  pub shifted_unsigned : binary_value op.Shl (pos 15) (pos 15) ≡ pos 491520
  pub least_shifted_right : binary_value op.Shr (negsuc 7) (pos 15) ≡ negsuc 0
  pub greatest_shifted_right : binary_value op.Shr (pos 7) (pos 15) ≡ pos 0
  pub not_shifted : binary_value op.Shr (pos 15) (pos 0) ≡ pos 15
  pub rounded_down : binary_value op.Shr (negsuc 6) (pos 1) ≡ negsuc 3
  pub negated_least : unary_value op.Neg (shape 4 true) (negsuc 7) ≡ pos 8
  pub negated_greatest : unary_value op.Neg (unsigned 4) (pos 15) ≡ negsuc 14
  pub inverted_least : unary_value op.Not (shape 4 true) (negsuc 7) ≡ pos 7
  pub inverted_greatest : unary_value op.Not (shape 4 true) (pos 7) ≡ negsuc 7
  pub inverted_none : unary_value op.Not (unsigned 4) (pos 0) ≡ pos 15
  pub inverted_all : unary_value op.Not (unsigned 4) (pos 15) ≡ pos 0
  pub inverted_one : unary_value op.Not (unsigned 1) (pos 1) ≡ pos 0
  pub chosen : mux_value (negsuc 0) (pos 5) (pos 7) ≡ pos 5
  pub not_chosen : mux_value (pos 0) (pos 5) (pos 7) ≡ pos 7
  pub copied : replicate_value (unsigned 2) 3 (pos 2) ≡ pos 42
