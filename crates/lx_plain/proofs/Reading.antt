-- The lowered expressions of a design that is read have the shapes of its expressions.
use Rattle.std.proofs.Common.{◌≡◌, ℕ, zero, suc, ◌<◌, ◌≤◌, false, List, [], ◌∷◌, length, sym, ap, subst, ◌∙◌, arith}
use Rattle.std.specs.Prelude.{Some, map, slice_get, slice_index_or}
use Rattle.lx_num.specs.declared.Shape.{Shape}
use Rattle.lx_num.specs.Ints.{shape}
use Rattle.lx_circuit.specs.Shapes.{Shapes, shape_of}
use Rattle.lx_fhdl.specs.Designs as design
use Rattle.lx_fhdl.specs.Designs.{circuit_of, made_of, shapes, term}
use Rattle.lx_circuit.specs.Statements as tree
use Rattle.lx_circuit.specs.Statements.{target_bits}
use Rattle.lx_fhdl.specs.Stmts.{node_target}
use Rattle.lx_fhdl.specs.declared.design.Signal.{Signal}
use Rattle.lx_fhdl.specs.declared.stmts.Target.{Target}
use Rattle.lx_fhdl.proofs.StmtTrees.{target_at-is}
use Rattle.std.proofs.lemmas.Option.{slice_get_within}
use Rattle.lx_fhdl.specs.Instance.{the_expr}
use Rattle.lx_fhdl.specs.Keeping.{Keeps}
use Rattle.lx_fhdl.specs.declared.design.Design.{Design}
use Rattle.lx_lowering.proofs.LowerTerms.{lower_shape}
use Rattle.lx_plain.specs.Lines.{expr_shape}
use Rattle.lx_plain.specs.Operands.{HasShape}
use Rattle.lx_plain.specs.Sources.{Read, IsRead, IsLowered, place_at}
use Rattle.lx_plain.proofs.Sound.{arenas, same_shapes, sound, term_keeps}
use Rattle.lx_circuit.specs.Circuit.{Made, nothing}

-- a lowered tree has the shape that stands for the tree
pub lowered_shape : (r : Read) (d : Design) (k : ℕ) → IsRead r → IsLowered r d → k < length r.places → shape_of (shapes d) (term d (place_at r.places k)) ≡ slice_index_or r.shapes k (shape 0 false)
lowered_shape r d k read low l =
    let s = shapes r.design in
    let within : k < length r.design.exprs = omega (arith, read.most) in
    ap (λ (u : Shapes). shape_of u (term d (place_at r.places k))) (same_shapes r.design d low.signals)
    ∙ ap (shape_of s) (low.trees k l)
    ∙ lower_shape s (length r.design.signals) (term r.design k) (term_keeps s (length r.design.signals) r.design.memories r.design.exprs k (sound r.design (arenas r.design read.keeps)) within)
    ∙ sym (read.sized.each k within)

pub lowered_has : (r : Read) (d : Design) (k : ℕ) → IsRead r → IsLowered r d → k < length r.places
    → HasShape d (record { id = slice_index_or r.places k (the_expr 0); shape = slice_index_or r.shapes k (shape 0 false) })
lowered_has r d k read low l = record { there = low.within k l; shape = lowered_shape r d k read low l }

pub shape_read : (r : Read) (k : ℕ) → IsRead r → k < length r.places → slice_index_or r.shapes k (shape 0 false) ≡ expr_shape r.design k
shape_read r k read l = read.sized.each k (omega (arith, read.most))

-- ---- nodes of the design

pub target_most : (d : Design) (k : ℕ) (x : Target) → Keeps d → slice_get d.targets k ≡ Some x → target_bits (shapes d) (node_target (term d) (design.target d) x) ≤ 127
target_most d k x keep e = subst (λ (t : tree.Target). target_bits (shapes d) t ≤ 127) (target_at-is (term d) d.targets keep.arenas.targets_lower k x e) (keep.arenas.target_bits k (slice_get_within d.targets k x e))

-- what a signal is made of
pub made_at : (ss : List Signal) (x : ℕ) (s : Signal) → slice_get ss x ≡ Some s → made_of s ≡ slice_index_or (map made_of ss) x nothing
made_at [] x s e = absurd (cc)
made_at (r ∷ rs) zero s e = let same : r ≡ s = cc in ap made_of (sym same)
made_at (r ∷ rs) (suc x) s e = made_at rs x s e

pub signal_shape_is : (d : Design) (x : ℕ) (s : Signal) → slice_get d.signals x ≡ Some s → s.shape ≡ shapes d x
unfolding circuit_of
signal_shape_is d x s e = ap (λ (m : Made). m.shape) (made_at d.signals x s e)

pub signal_bits_are : (d : Design) (x : ℕ) (s : Signal) → slice_get d.signals x ≡ Some s → s.shape.bits ≡ (shapes d x).bits
signal_bits_are d x s e = ap (λ (a : Shape). a.bits) (signal_shape_is d x s e)
