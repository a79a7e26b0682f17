-- The texts of operands.
use Rattle.std.proofs.Common.{◌≡◌, ℕ, Bool, ◌^◌, ◌<◌, List, [], length, refl, sym, ap, ◌∙◌, arith}
use Rattle.std.specs.Prelude.{ℤ, Some, slice_get, slice_index_or}
use Rattle.std.proofs.lemmas.Option.{slice_get_within, get_or_from_slice_get}
use Rattle.lx_num.specs.Ints.{modulo, shape}
use Rattle.lx_circuit.specs.Shapes.{fault_of}
use Rattle.lx_vtext.specs.Tree.{Name}
use Rattle.lx_fhdl.specs.Designs.{shapes}
use Rattle.lx_fhdl.specs.Keeping.{Keeps}
use Rattle.lx_fhdl.specs.declared.exprs.Expr.{Expr}
use Rattle.lx_fhdl.specs.declared.exprs.Expr.TheVariants.{Const, Sig, Unary, Binary, Mux, Cat, Pick, Replicate, Slice, Fetch}
use Rattle.lx_fhdl.specs.declared.exprs.SigId.{SigId}
use Rattle.lx_fhdl.specs.declared.design.Design.{Design}
use Rattle.lx_fhdl.proofs.Arena.{constant_small}
use Rattle.lx_fhdl.proofs.Trees.{term_at-is}
use Rattle.lx_emission.specs.Naming.{net, node_net}
use Rattle.lx_emission.specs.Nodes.{operand_of, operand}
use Rattle.lx_vtext.specs.Tree as tree
use Rattle.lx_emission.proofs.Reading.{operand_is}

pub constant_bits : (d : Design) (k : ℕ) (x : Expr) (value : ℤ) (bits : ℕ) (signed : Bool) → Keeps d → slice_get d.exprs k ≡ Some x → x ≡ Const value bits signed → (0 < bits) × (bits < 128)
constant_bits d k x value bits signed keeps e f =
    let t = term_at-is d.exprs keeps.arenas.exprs_lower k (Const value bits signed) (e ∙ ap (λ (y : Expr). Some y) f) in
    let small = constant_small (shape bits signed) (sym (ap (fault_of (shapes d)) t) ∙ keeps.arenas.shaped k (slice_get_within d.exprs k x e)) in
    (omega (arith, small.some), omega (arith, small.most))

pub constant_operand : (d : Design) (names : List Name) (k : ℕ) (x : Expr) (value : ℤ) (bits : ℕ) (signed : Bool) → slice_get d.exprs k ≡ Some x → x ≡ Const value bits signed → tree.Literal bits signed (modulo value (2 ^ bits)) ≡ operand d names k
constant_operand d names k x value bits signed e f = sym (operand_is d names k x e ∙ ap (λ (y : Expr). operand_of names (node_net d.exprs k) (Some y)) f)

pub signal_there : (d : Design) (k : ℕ) (x : Expr) (y : SigId) → Keeps d → slice_get d.exprs k ≡ Some x → x ≡ Sig y → y.0 < length d.signals
signal_there d k x y keeps e f = keeps.arenas.named k (Sig y) (e ∙ ap (λ (z : Expr). Some z) f)

pub name_is : (names : List Name) (k : ℕ) (n : Name) → slice_get names k ≡ Some n → n ≡ slice_index_or names k []
name_is names k n e = sym (get_or_from_slice_get names k n [] e)

pub signal_operand : (d : Design) (names : List Name) (k : ℕ) (x : Expr) (y : SigId) (n : Name) → slice_get d.exprs k ≡ Some x → x ≡ Sig y → n ≡ net names y.0 → tree.Net n ≡ operand d names k
signal_operand d names k x y n e f g = ap tree.Net g ∙ sym (operand_is d names k x e ∙ ap (λ (z : Expr). operand_of names (node_net d.exprs k) (Some z)) f)

own_operand : (names : List Name) (own : Name) (x : Expr) → ((value : ℤ) (bits : ℕ) (signed : Bool) → x ≡ Const value bits signed → ⊥) → ((y : SigId) → x ≡ Sig y → ⊥) → tree.Net own ≡ operand_of names own (Some x)
own_operand names own (Const value bits signed) f g = absurd (f value bits signed refl)
own_operand names own (Sig y) f g = absurd (g y refl)
own_operand names own (Unary op of) f g = refl
own_operand names own (Binary op left right) f g = refl
own_operand names own (Mux cond so other) f g = refl
own_operand names own (Cat parts) f g = refl
own_operand names own (Pick items index) f g = refl
own_operand names own (Replicate of count) f g = refl
own_operand names own (Slice of low high) f g = refl
own_operand names own (Fetch memory width at) f g = refl

pub node_operand : (d : Design) (names : List Name) (k : ℕ) (x : Expr) (n : Name) → slice_get d.exprs k ≡ Some x → ((value : ℤ) (bits : ℕ) (signed : Bool) → x ≡ Const value bits signed → ⊥) → ((y : SigId) → x ≡ Sig y → ⊥)
    → n ≡ node_net d.exprs k → tree.Net n ≡ operand d names k
node_operand d names k x n e f g h =
    ap tree.Net h ∙ own_operand names (node_net d.exprs k) x f g ∙ sym (operand_is d names k x e)
