-- Widths as far as they are shown, and children that are there.
use Rattle.std.proofs.Common.{◌≡◌, ℕ, ◌+◌, ◌-◌, ◌^◌, ◌<◌, ◌≤◌, Bool, false, cond, min, List, length, get_or, sym, ◌∙◌, ap, arith, inl, inr}
use Rattle.std.specs.Prelude.{Option, Some, None, IsTrue}
use Rattle.std.proofs.Math.Nat.{pow-le-pow_right}
use Rattle.std.proofs.lemmas.Bool.{cases_lt, lt-leb}
use Rattle.lx_num.specs.declared.Shape.{Shape}
use Rattle.lx_num.specs.Ints.{shape}
use Rattle.lx_circuit.specs.declared.WidthFault.{WidthFault}
use Rattle.lx_circuit.specs.declared.WidthFault.TheVariants.{TooWide, SignedShift}
use Rattle.lx_circuit.specs.Shapes.{too_wide, index_fault, or_else}
use Rattle.lx_fhdl.specs.Below.{ExprId, all_below, expr_below}
use Rattle.lx_fhdl.specs.Nodes.{EachChild}
use Rattle.lx_fhdl.specs.declared.exprs.Expr.{Expr}
use Rattle.lx_fhdl.proofs.Arena.{each_child, each_place}
use Rattle.lx_fhdl.proofs.Parts.{each_at}
use Rattle.lx_width.specs.Width.{shaped}

-- a width that is cut off where it is shown gives the same answer
pub cut_off : (n : ℕ) (s : Bool) → shaped (too_wide (min n 4294967295)) (shape (min n 4294967295) s) ≡ shaped (too_wide n) (shape n s)
cut_off n s =
    elim (cases_lt n 4294967296) [
      | inl h ↦ let e : min n 4294967295 ≡ n = omega arith in ap (λ (k : ℕ). shaped (too_wide k) (shape k s)) e
      | inr h ↦
          let e : min n 4294967295 ≡ 4294967295 = omega arith in
          let g : 127 < n = omega arith in
          let wide : too_wide n ≡ Some (TooWide 4294967295) = ap (λ (b : Bool). cond b None (Some (TooWide (min n 4294967295)))) (lt-leb n 127 g) ∙ ap (λ (k : ℕ). Some (TooWide k)) e in
          ap (λ (k : ℕ). shaped (too_wide k) (shape k s)) e ∙ sym (ap (λ (o : Option WidthFault). shaped o (shape n s)) wide)
    ]

-- 2 to 32 bits or more is more than is shown
pub far_shift : (a b : ℕ) → 32 ≤ b → 4294967295 ≡ min (a + 2 ^ b - 1) 4294967295
far_shift a b h =
    let two : 0 < 2 = omega arith in
    omega (arith, pow-le-pow_right two h)

pub child_there : (n : ℕ) (x y : Expr) → x ≡ y → IsTrue (expr_below x n) → EachChild (λ k. k < n) y
child_there n x y e h = each_child (λ k. k < n) n y (λ k g. g) (ap (λ (z : Expr). expr_below z n) (sym e) ∙ search h)

pub part_there : (n : ℕ) (parts : List ExprId) (k : ℕ) (d : ExprId) → IsTrue (all_below n parts) → k < length parts → (get_or parts k d).place < n
part_there n parts k d h g = each_at (λ j. j < n) parts k d (each_place (λ j. j < n) n parts (λ j i. i) (search h)) g

pub unsigned_amount : (b : Shape) (o : Option WidthFault) → b.signed ≡ false → or_else (index_fault b) o ≡ o
unsigned_amount b o e = ap (λ (t : Bool). or_else (cond t (Some SignedShift) None) o) e
