-- The bits of a target, from those that are kept of its parts.
use Rattle.std.proofs.Common.{◌≡◌, ℕ, zero, suc, ◌<◌, true, List, [], ◌∷◌, length, get_or, nat_lt, Some, slice_get, refl, sym, ap, ◌∙◌, arith}
use Rattle.std.proofs.lemmas.Bool.{ltb-true, and_parts}
use Rattle.lx_num.specs.declared.Shape.{Shape}
use Rattle.lx_circuit.specs.Shapes.{Shapes}
use Rattle.lx_circuit.specs.Statements as tree
use Rattle.lx_circuit.specs.Statements.{target_bits, sum_bits, most_bits}
use Rattle.lx_fhdl.specs.Below.{ExprId, TargetId, all_targets_below, target_below}
use Rattle.lx_fhdl.specs.Designs as design
use Rattle.lx_fhdl.specs.Designs.{shapes}
use Rattle.lx_fhdl.specs.Kept.{target_stands}
use Rattle.lx_fhdl.specs.Stmts.{targets_at}
use Rattle.lx_fhdl.specs.declared.design.Design.{Design}
use Rattle.lx_fhdl.specs.declared.design.Signal.{Signal}
use Rattle.lx_fhdl.specs.declared.exprs.SigId.{SigId}
use Rattle.lx_fhdl.specs.declared.stmts.Target.{Target}
use Rattle.lx_fhdl.specs.declared.stmts.Target.TheVariants as target
use Rattle.lx_width.specs.Width.{shape_of_one}
use Rattle.lx_shaped.specs.Making.{target_in, target_width}
use Rattle.lx_shaped.specs.Sizes.{HasBits, bits_at, most_at, node_bits, sum_at}
use Rattle.lx_width.proofs.Shaped.{signal_is}

pub part_there : (n : ℕ) (parts : List TargetId) (k : ℕ) (d : TargetId) → all_targets_below n parts ≡ true → k < length parts → (get_or parts k d).place < n
part_there n [] k d h l = absurd (omega arith)
part_there n (i ∷ is) zero d h l = ltb-true i.place n (and_parts (nat_lt i.place n) (all_targets_below n is) h).0
part_there n (i ∷ is) (suc k) d h l = part_there n is k d (and_parts (nat_lt i.place n) (all_targets_below n is) h).1 (omega arith)

-- ---- one node

module _ (s : Shapes) (g : ℕ → tree.Target) (bs : List ℕ) (n : ℕ) (each : (k : ℕ) → k < n → bits_at bs k ≡ target_bits s (g k)) where
  sum_is : (is : List TargetId) → all_targets_below n is ≡ true → sum_at bs is ≡ sum_bits s (targets_at g is)
  sum_is [] h = refl
  sum_is (i ∷ is) h =
      let p = and_parts (nat_lt i.place n) (all_targets_below n is) h in
      rw (each i.place (ltb-true i.place n p.0), sum_is is p.1) refl

  most_is : (is : List TargetId) → all_targets_below n is ≡ true → most_at bs is ≡ most_bits s (targets_at g is)
  most_is [] h = refl
  most_is (i ∷ is) h =
      let p = and_parts (nat_lt i.place n) (all_targets_below n is) h in
      rw (each i.place (ltb-true i.place n p.0), most_is is p.1) refl

pub width_is : (d : Design) (bs : List ℕ) (x : Target) → HasBits d bs → target_below x (length d.targets) ≡ true → node_bits (shapes d) bs x ≡ target_width x d
width_is d bs (target.Whole x) h e = refl
width_is d bs (target.Part x low len) h e = refl
width_is d bs (target.Cat parts) h e = sum_is (shapes d) (design.target d) bs (length d.targets) h.each parts e
width_is d bs (target.Pick items index) h e = most_is (shapes d) (design.target d) bs (length d.targets) h.each items e

-- ---- by the form of a target

below_of : (x : Target) (d : Design) → target_in x d ≡ true → target_below x (length d.targets) ≡ true
below_of x d h = (and_parts (target_below x (length d.targets)) (target_stands (shapes d) (length d.signals) d.exprs x) h).0

pub whole_width : (d : Design) (x : Target) (y : SigId) (s : Signal) → x ≡ target.Whole y → slice_get d.signals y.0 ≡ Some s → s.shape.bits ≡ target_width x d
whole_width d x y s e h = rw e (sym (ap (λ (a : Shape). a.bits) (signal_is d y.0 ∙ ap shape_of_one h)))

pub cat_width : (d : Design) (bs : List ℕ) (x : Target) (parts : List TargetId) (n : ℕ) → HasBits d bs → target_in x d ≡ true → x ≡ target.Cat parts → n ≡ sum_at bs parts → n ≡ target_width x d
cat_width d bs x parts n h stands e f = f ∙ ap (node_bits (shapes d) bs) (sym e) ∙ width_is d bs x h (below_of x d stands)

pub pick_width : (d : Design) (bs : List ℕ) (x : Target) (items : List TargetId) (index : ExprId) (n : ℕ) → HasBits d bs → target_in x d ≡ true → x ≡ target.Pick items index → n ≡ most_at bs items → n ≡ target_width x d
pick_width d bs x items index n h stands e f = f ∙ ap (node_bits (shapes d) bs) (sym e) ∙ width_is d bs x h (below_of x d stands)
