use Rattle.std.proofs.Common.{◌≡◌, ◌∙◌, sym, ap, subst, ℕ, ◌*◌, ◌%◌, min}
use Rattle.std.proofs.lemmas.Int.{to_z-of_z}
use Rattle.std.specs.Prelude.{ℤ, pos, ◌+ℤ◌, ◌-ℤ◌, ◌*ℤ◌, ◌^◌, FitsSigned, None, ◌≤◌}
use Rattle.std.specs.Int.{w128}
use mir.Val.{to_z, of_z}
use Rattle.lx_tables.specs.declared.operators.Op.{Op}
use Rattle.lx_circuit.specs.Shapes.{binary_fault}
use Rattle.lx_circuit.specs.Values.{binary_value, count_of}
use Rattle.lx_fhdl.proofs.Machine.{amount_small, binary_machine, bits_and, bits_or, bits_xor, passed_is, passed_fits, shifted_left, shifted_right}
use Rattle.lx_fhdl.proofs.eval.binary.Goals as goal

fits_add : (c : goal.In-Add) → FitsSigned w128 (c.args.x +ℤ c.args.y)
fits_add c =
    let P : Op → Type 0 = λ o. FitsSigned w128 (binary_value o c.args.x c.args.y) in
    subst P c.in-Add.is (binary_machine c.args.op c.args.a c.args.b c.args.x c.args.y c.requires.left_small c.requires.right_small c.requires.sound c.requires.left c.requires.right)

pub overflow_add-result : goal.overflow_add-result
overflow_add-result c = passed_fits (λ (x y : ℤ). x +ℤ y) c.args.x c.args.y c.ranges.x c.ranges.y (fits_add c)

pub returns-in-Add : goal.returns-in-Add
returns-in-Add c =
    passed_is (λ (x y : ℤ). x +ℤ y) c.args.x c.args.y c.ranges.x c.ranges.y (fits_add c)
    ∙ ap (λ (o : Op). binary_value o c.args.x c.args.y) (sym c.in-Add.is)

fits_sub : (c : goal.In-Sub) → FitsSigned w128 (c.args.x -ℤ c.args.y)
fits_sub c =
    let P : Op → Type 0 = λ o. FitsSigned w128 (binary_value o c.args.x c.args.y) in
    subst P c.in-Sub.is (binary_machine c.args.op c.args.a c.args.b c.args.x c.args.y c.requires.left_small c.requires.right_small c.requires.sound c.requires.left c.requires.right)

pub overflow_sub-result : goal.overflow_sub-result
overflow_sub-result c = passed_fits (λ (x y : ℤ). x -ℤ y) c.args.x c.args.y c.ranges.x c.ranges.y (fits_sub c)

pub returns-in-Sub : goal.returns-in-Sub
returns-in-Sub c =
    passed_is (λ (x y : ℤ). x -ℤ y) c.args.x c.args.y c.ranges.x c.ranges.y (fits_sub c)
    ∙ ap (λ (o : Op). binary_value o c.args.x c.args.y) (sym c.in-Sub.is)

fits_mul : (c : goal.In-Mul) → FitsSigned w128 (c.args.x *ℤ c.args.y)
fits_mul c =
    let P : Op → Type 0 = λ o. FitsSigned w128 (binary_value o c.args.x c.args.y) in
    subst P c.in-Mul.is (binary_machine c.args.op c.args.a c.args.b c.args.x c.args.y c.requires.left_small c.requires.right_small c.requires.sound c.requires.left c.requires.right)

pub overflow_mul-result : goal.overflow_mul-result
overflow_mul-result c = passed_fits (λ (x y : ℤ). x *ℤ y) c.args.x c.args.y c.ranges.x c.ranges.y (fits_mul c)

pub returns-in-Mul : goal.returns-in-Mul
returns-in-Mul c =
    passed_is (λ (x y : ℤ). x *ℤ y) c.args.x c.args.y c.ranges.x c.ranges.y (fits_mul c)
    ∙ ap (λ (o : Op). binary_value o c.args.x c.args.y) (sym c.in-Mul.is)

pub returns-in-And : goal.returns-in-And
returns-in-And c =
    let P : Op → Type 0 = λ o. FitsSigned w128 (binary_value o c.args.x c.args.y) in
    let h = subst P c.in-And.is (binary_machine c.args.op c.args.a c.args.b c.args.x c.args.y c.requires.left_small c.requires.right_small c.requires.sound c.requires.left c.requires.right) in
    bits_and c.args.x c.args.y c.ranges.x c.ranges.y h ∙ ap (λ (o : Op). binary_value o c.args.x c.args.y) (sym c.in-And.is)

pub returns-in-Or : goal.returns-in-Or
returns-in-Or c =
    let P : Op → Type 0 = λ o. FitsSigned w128 (binary_value o c.args.x c.args.y) in
    let h = subst P c.in-Or.is (binary_machine c.args.op c.args.a c.args.b c.args.x c.args.y c.requires.left_small c.requires.right_small c.requires.sound c.requires.left c.requires.right) in
    bits_or c.args.x c.args.y c.ranges.x c.ranges.y h ∙ ap (λ (o : Op). binary_value o c.args.x c.args.y) (sym c.in-Or.is)

pub returns-in-Xor : goal.returns-in-Xor
returns-in-Xor c =
    let P : Op → Type 0 = λ o. FitsSigned w128 (binary_value o c.args.x c.args.y) in
    let h = subst P c.in-Xor.is (binary_machine c.args.op c.args.a c.args.b c.args.x c.args.y c.requires.left_small c.requires.right_small c.requires.sound c.requires.left c.requires.right) in
    bits_xor c.args.x c.args.y c.ranges.x c.ranges.y h ∙ ap (λ (o : Op). binary_value o c.args.x c.args.y) (sym c.in-Xor.is)

amount_is : (y : ℤ) (k : ℕ) → FitsSigned w128 y → k ≡ min (count_of (to_z w128 (of_z w128 y))) 127 → k ≡ min (count_of y) 127
amount_is y k f e = e ∙ ap (λ (z : ℤ). min (count_of z) 127) (to_z-of_z w128 y f)

small : (c : goal.After-amount) → count_of c.args.y ≤ 126
small c =
    let P : Op → Type 0 = λ o. binary_fault o c.args.a c.args.b ≡ None in
    amount_small c.args.a c.args.b c.args.y c.requires.left_small c.requires.right_small (subst P c.in-Shl.is c.requires.sound) c.requires.right

product : (c : goal.After-amount) → to_z w128 (of_z w128 c.args.x) *ℤ to_z w128 ((1 * 2 ^ c.amount.result) % 2 ^ 128) ≡ c.args.x *ℤ pos (2 ^ count_of c.args.y)
product c = shifted_left c.args.x c.args.y c.amount.result c.ranges.x (amount_is c.args.y c.amount.result c.ranges.y c.amount.ensures) (small c)

fits_shl : (c : goal.After-amount) → FitsSigned w128 (c.args.x *ℤ pos (2 ^ count_of c.args.y))
fits_shl c =
    let P : Op → Type 0 = λ o. FitsSigned w128 (binary_value o c.args.x c.args.y) in
    subst P c.in-Shl.is (binary_machine c.args.op c.args.a c.args.b c.args.x c.args.y c.requires.left_small c.requires.right_small c.requires.sound c.requires.left c.requires.right)

pub overflow_mul-result-in-Shl : goal.overflow_mul-result-in-Shl
overflow_mul-result-in-Shl c = subst (λ (z : ℤ). FitsSigned w128 z) (sym (product c)) (fits_shl c)

pub returns-in-Shl : goal.returns-in-Shl
returns-in-Shl c =
    ap (λ (z : ℤ). to_z w128 (of_z w128 z)) (product c)
    ∙ to_z-of_z w128 (c.args.x *ℤ pos (2 ^ count_of c.args.y)) (fits_shl c)
    ∙ ap (λ (o : Op). binary_value o c.args.x c.args.y) (sym c.in-Shl.is)

pub returns-in-Shr : goal.returns-in-Shr
returns-in-Shr c =
    shifted_right c.args.x c.args.y c.amount-in-Shr.result c.ranges.x (amount_is c.args.y c.amount-in-Shr.result c.ranges.y c.amount-in-Shr.ensures)
    ∙ ap (λ (o : Op). binary_value o c.args.x c.args.y) (sym c.in-Shr.is)
