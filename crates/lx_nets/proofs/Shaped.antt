-- Slices inside their operands.
use Rattle.std.proofs.Common.{◌≡◌, ℕ, ◌<◌, sym, ap, ◌∙◌, arith}
use Rattle.std.specs.Prelude.{Some, slice_get}
use Rattle.lx_circuit.specs.Shapes.{shape_of, fault_of, slice_fault}
use Rattle.lx_fhdl.specs.Below.{ExprId}
use Rattle.lx_fhdl.specs.Designs.{shapes}
use Rattle.lx_fhdl.specs.Keeping.{Keeps}
use Rattle.lx_fhdl.specs.Trees.{term_at}
use Rattle.lx_fhdl.specs.declared.exprs.Expr.{Expr}
use Rattle.lx_fhdl.specs.declared.exprs.Expr.TheVariants.{Slice}
use Rattle.lx_fhdl.specs.declared.design.Design.{Design}
use Rattle.lx_fhdl.proofs.Arena.{slice_inside}
use Rattle.lx_fhdl.proofs.Designs.{children_there, term_small}
use Rattle.lx_fhdl.proofs.Operators.{none_right}
use Rattle.lx_fhdl.proofs.Trees.{term_at-is}
use Rattle.std.proofs.lemmas.Option.{slice_get_within}

-- a slice is inside its operand
pub slice_bits : (d : Design) (k : ℕ) (x : Expr) (of : ExprId) (low high : ℕ) → Keeps d → slice_get d.exprs k ≡ Some x → x ≡ Slice of low high → (low < high) × (high < 128)
slice_bits d k x of low high keeps e f =
    let there = e ∙ ap (λ (y : Expr). Some y) f in
    let l = slice_get_within d.exprs k x e in
    let tree = term_at-is d.exprs keeps.arenas.exprs_lower k (Slice of low high) there in
    let own = shape_of (shapes d) (term_at d.exprs of.place) in
    let inside = slice_inside own low high (none_right (fault_of (shapes d) (term_at d.exprs of.place)) (slice_fault own low high) (sym (ap (fault_of (shapes d)) tree) ∙ keeps.arenas.shaped k l)) in
    let small = term_small d keeps of.place (children_there d keeps k (Slice of low high) there) in
    (inside.0, omega (arith, inside.1, small.most))
