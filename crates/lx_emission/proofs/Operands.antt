-- The text of each node stands for its value where it is read.
use Rattle.std.proofs.Common.{◌≡◌, ℕ, ℤ, Bool, not, List, ◌%◌, ◌^◌, ◌<◌, ◌≤◌, max, nat_eq, length, refl, sym, ◌∙◌, ap, subst, arith}
use Rattle.std.specs.Prelude.{Option, Some, slice_get}
use Rattle.lx_num.specs.declared.Shape.{Shape}
use Rattle.lx_num.specs.Ints.{Fits, modulo, shape, wrapped}
use Rattle.lx_num.proofs.Ints.{modulo-modulo}
use Rattle.lx_num.proofs.Ranges.{FitsBits-wrap_bits, modulo-wrap_bits}
use Rattle.lx_circuit.specs.Terms.{Term}
use Rattle.lx_circuit.specs.Shapes.{Shapes, shape_of}
use Rattle.lx_circuit.specs.Places.{Values, At}
use Rattle.lx_circuit.specs.Values.{value_of, is_zero}
use Rattle.lx_vtext.specs.Tree.{Name, Net}
use Rattle.lx_vmeaning.specs.Meaning as verilog
use Rattle.lx_vmeaning.specs.Meaning.{Declared, Sizes, Valuation, Meaning, meaning, own, cut_to}
use Rattle.lx_tie.specs.Stands.{Exact}
use Rattle.lx_tie.proofs.Leaves.{exact_leaf, own_exact, zero_pattern}
use Rattle.lx_fhdl.specs.Nodes.{IsSmall}
use Rattle.lx_fhdl.specs.Designs.{term, shapes}
use Rattle.lx_fhdl.specs.Keeping.{Keeps}
use Rattle.lx_fhdl.specs.Lowered.{IsLowered}
use Rattle.lx_fhdl.specs.Trees.{node_term}
use Rattle.lx_fhdl.specs.declared.exprs.Expr.{Expr}
use Rattle.lx_fhdl.specs.declared.exprs.Expr.TheVariants.{Const, Sig}
use Rattle.lx_fhdl.specs.declared.design.Design.{Design}
use Rattle.lx_arena.proofs.Places.{node_there}
use Rattle.lx_fhdl.proofs.Trees.{term_at-is}
use Rattle.lx_emission.specs.Naming.{net, node_net}
use Rattle.lx_emission.specs.Nodes.{node_shape, operand_of, operand}
use Rattle.lx_emission.proofs.Setting.{DeclaresNets, HasPatterns, SignalsFit, TermsAreSmall, TermsFit, OperandsStand, declared}

-- an expression of Verilog stands for the value of a tree in the tree's shape
abbrev pub ExactTerm : Valuation → Shapes → Values → Term → Meaning → Type 0
ExactTerm w h v t e = Exact w (shape_of h t).bits (shape_of h t).signed (value_of h v t) e

-- a net that has a shape and the pattern of a value
pub net_exact : (w : Valuation) (s : Sizes) (n : Name) (a : Shape) (z : ℤ) → s n ≡ declared a.bits a.signed → IsSmall a → Fits a z → w.nets n ≡ modulo z (2 ^ a.bits) → Exact w a.bits a.signed z (meaning s (Net n))
net_exact w s n a z e small fit p =
    let P : Declared → Type 0 = λ x. Exact w a.bits a.signed z (verilog.net x n) in
    subst P (sym e) (exact_leaf w a.bits a.bits a.signed z (λ u. u.nets n) refl small.some fit p)

-- a constant's literal
pub literal_exact : (w : Valuation) (value : ℤ) (bits : ℕ) (signed : Bool) → 1 ≤ bits → Exact w bits signed (wrapped (shape bits signed) value) (verilog.literal bits signed (modulo value (2 ^ bits)))
literal_exact w value bits signed h =
    exact_leaf w bits bits signed (wrapped (shape bits signed) value) (λ u. modulo value (2 ^ bits)) refl h (FitsBits-wrap_bits bits signed value h) (sym (modulo-wrap_bits bits signed value))

-- what holds of a tree holds of the same tree
moved : (P : Term → Type 0) (t u : Term) → t ≡ u → P t → P u
moved P t u e p = subst P e p

-- the text of a node at a place, where the node is known
text_exact : (d : Design) (names : List Name) (s : Sizes) (v : Values) (w : Valuation) → Keeps d → DeclaresNets d names s → HasPatterns d names v w → SignalsFit d v
    → (k : ℕ) (x : Expr) → slice_get d.exprs k ≡ Some x → IsSmall (node_shape d k) → Fits (node_shape d k) (value_of (shapes d) v (term d k))
    → ExactTerm w (shapes d) v (term d k) (meaning s (operand_of names (node_net d.exprs k) (Some x)))
unfolding node_shape
text_exact d names s v w keeps declares has fits k (Const value bits signed) e small fit =
    let is = term_at-is d.exprs keeps.arenas.exprs_lower k (Const value bits signed) e in
    let some = moved (λ t. IsSmall (shape_of (shapes d) t)) (term d k) (node_term (term d) (Const value bits signed)) is small in
    moved (λ t. ExactTerm w (shapes d) v t (verilog.literal bits signed (modulo value (2 ^ bits)))) (node_term (term d) (Const value bits signed)) (term d k) (sym is)
    (literal_exact w value bits signed some.some)
text_exact d names s v w keeps declares has fits k (Sig x) e small fit =
    let is = term_at-is d.exprs keeps.arenas.exprs_lower k (Sig x) e in
    let some = moved (λ t. IsSmall (shape_of (shapes d) t)) (term d k) (node_term (term d) (Sig x)) is small in
    let within = keeps.arenas.named k (Sig x) e in
    moved (λ t. ExactTerm w (shapes d) v t (meaning s (Net (net names x.0)))) (node_term (term d) (Sig x)) (term d k) (sym is)
    (net_exact w s (net names x.0) (shapes d x.0) (v (At x.0)) (declares.signals x.0 within) some (fits.each x.0) (has.signals x.0 within))
text_exact d names s v w keeps declares has fits k x e small fit =
    net_exact w s (node_net d.exprs k) (node_shape d k) (value_of (shapes d) v (term d k)) (declares.nodes k (record { node = x; there = e; net = refl })) small fit (has.nodes k (record { node = x; there = e; net = refl }))

-- The text of each node stands exactly for its value.
pub operand_exact : (d : Design) (names : List Name) (s : Sizes) (v : Values) (w : Valuation)
    → Keeps d → IsLowered d → DeclaresNets d names s → HasPatterns d names v w → SignalsFit d v → TermsAreSmall d → TermsFit d v
    → (k : ℕ) → k < length d.exprs → Exact w (node_shape d k).bits (node_shape d k).signed (value_of (shapes d) v (term d k)) (meaning s (operand d names k))
unfolding node_shape operand
operand_exact d names s v w keeps lowered declares has fits small fit k h =
    let (x, found) = node_there d.exprs k h in
    let P : Option Expr → Type 0 = λ o. ExactTerm w (shapes d) v (term d k) (meaning s (operand_of names (node_net d.exprs k) o)) in
    subst P (sym found) (text_exact d names s v w keeps declares has fits k x found (small.each k h) (fit.each k h))

-- what a net of any width takes from an exact expression
pub cut_exact : (w : Valuation) (n : ℕ) (s : Bool) (z : ℤ) (e : Meaning) → Exact w n s z e → (k : ℕ) → cut_to k e w ≡ modulo z (2 ^ k)
cut_exact w n s z e x k =
    ap (λ (t : Bool). e.bits w (max k e.width) t % 2 ^ k) x.sign
    ∙ (ap (λ (p : ℕ). p % 2 ^ k) (x.bits (max k e.width) (omega (arith, x.width))) ∙ modulo-modulo z k (max k e.width) (omega arith))

-- an exact expression as a condition
pub holds_exact : (w : Valuation) (n : ℕ) (s : Bool) (z : ℤ) (e : Meaning) → Exact w n s z e → not (nat_eq (own e w) 0) ≡ not (is_zero z)
holds_exact w n s z e x = ap (λ (p : ℕ). not (nat_eq p 0)) (own_exact w n s z e x) ∙ ap not (zero_pattern n s z x.some x.fit)

-- So the text of each node is right as a right side and as a condition.
pub operands_stand : (d : Design) (names : List Name) (s : Sizes) (v : Values) (w : Valuation)
    → Keeps d → IsLowered d → DeclaresNets d names s → HasPatterns d names v w → SignalsFit d v → TermsAreSmall d → TermsFit d v
    → OperandsStand d names s v w
operands_stand d names s v w keeps lowered declares has fits small fit = record {
  assigned = λ k h n. cut_exact w (node_shape d k).bits (node_shape d k).signed (value_of (shapes d) v (term d k)) (meaning s (operand d names k)) (operand_exact d names s v w keeps lowered declares has fits small fit k h) n;
  holds = λ k h. holds_exact w (node_shape d k).bits (node_shape d k).signed (value_of (shapes d) v (term d k)) (meaning s (operand d names k)) (operand_exact d names s v w keeps lowered declares has fits small fit k h);
}
