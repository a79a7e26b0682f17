-- Nodes at their new places: their trees are those of the lowered nodes.
use Rattle.std.proofs.Common.{◌≡◌, ℕ, ◌<◌, ◌≤◌, Bool, true, false, ◌&&◌, cond, List, [], ◌∷◌, ◌++◌, length, map, refl, sym, ap, subst, ◌∙◌, arith, nat_lt}
use Rattle.std.specs.Prelude.{ℤ, pos, Some, None, slice_get, FitsSigned}
use Rattle.std.specs.Int.{w128}
use mir.Val.{to_z, of_z}
use Rattle.std.proofs.lemmas.Bool.{le-leb, lt-leb, lt-ltb, ltb-true, and_parts, and_from}
use Rattle.std.proofs.lemmas.Int.{to_z-of_z}
use Rattle.std.proofs.lemmas.List.{length-map, length_push}
use Rattle.lx_num.specs.declared.Shape.{Shape}
use Rattle.lx_num.specs.Ints.{shape, wrapped}
use Rattle.lx_tables.specs.declared.operators.Op.{Op}
use Rattle.lx_tables.specs.declared.operators.Op.TheVariants as op
use Rattle.lx_circuit.specs.Terms as term
use Rattle.lx_circuit.specs.Terms.{Term, Terms, Constant, MoreTerms}
use Rattle.lx_circuit.specs.Shapes.{Shapes, shape_of, shapes_of, fault_of, faults_of, or_else, binary_fault, pick_fault}
use Rattle.lx_circuit.specs.Values.{count_of}
use Rattle.lx_circuit.specs.declared.WidthFault.TheVariants.{SignedShift}
use Rattle.lx_fhdl.specs.Below.{ExprId, all_below, expr_below}
use Rattle.lx_fhdl.specs.Instance.{the_expr}
use Rattle.lx_fhdl.specs.Keeping.{HasPlainIndex, NamesThere, TakesOperands}
use Rattle.lx_fhdl.specs.Lowered.{is_no_pick}
use Rattle.lx_fhdl.specs.Nodes.{HasParts, IsSmall}
use Rattle.lx_fhdl.specs.Trees.{terms_at, node_term, term_at}
use Rattle.lx_fhdl.specs.declared.design.Design.{Design}
use Rattle.lx_fhdl.specs.declared.exprs.Expr.{Expr}
use Rattle.lx_fhdl.specs.declared.exprs.Expr.TheVariants.{Const, Sig, Unary, Binary, Mux, Cat, Pick, Replicate, Slice, Fetch}
use Rattle.lx_fhdl.proofs.Arena.{constant_small}
use Rattle.lx_fhdl.proofs.Operators.{none_right, index_unsigned}
use Rattle.lx_fhdl.proofs.Trees.{term_at-is}
use Rattle.lx_lowering.specs.Terms.{cut_amount, lower_binary, lower_term, lower_terms, pick_from}
use Rattle.lx_lowering.proofs.LowerTerms.{cut_shape, lower_shape, lower_shapes, lower_keeps}
use Rattle.lx_fhdl.specs.Designs.{shapes, term as tree}
use Rattle.lx_fhdl.specs.Drafts.{DraftKeeps, started}
use Rattle.lx_fhdl.specs.declared.design.Memory.{Memory}
use Rattle.lx_fhdl.specs.declared.design.Signal.{Signal}
use Rattle.lx_plain.proofs.Conditions.{term_put}
use Rattle.lx_plain.specs.Operands.{CanJoin, HasShape}
use Rattle.lx_plain.specs.Plain.{CanAdd, ExprAdded, TermPut}
use Rattle.lx_plain.specs.Sources.{CanPick, IsAmount, IsLowered, IsNext, IsRead, Read, moved_to, moved_node, place_at}
use Rattle.lx_plain.specs.declared.operands.Operand.{Operand}
use Rattle.lx_exprs.proofs.Choices.{all_keep, items_keep}
use Rattle.lx_arena.proofs.Places.{lower_at, places_more}
use Rattle.lx_plain.proofs.Sound.{ExprsAreSound, ExprIsSound, all_wider, arenas, item_sound, node_keeps, put_is, same_shapes, sound, term_keeps}
use Rattle.lx_width.proofs.Ends.{at_front, at_last}

-- the lowered trees of the first expressions of olds hang in news at these places
pub record AreMoved (s : Shapes) (olds news : List Expr) (places : List ExprId) : Type 0 where
  pub most : length places ≤ length olds
  pub within : (k : ℕ) → k < length places → place_at places k < length news
  pub trees : (k : ℕ) → k < length places → term_at news (place_at places k) ≡ lower_term s (term_at olds k)

pub are_moved : (r : Read) (d : Design) → IsRead r → IsLowered r d → AreMoved (shapes r.design) r.design.exprs d.exprs r.places
are_moved r d read low = record { most = read.most; within = low.within; trees = low.trees }

-- ---- amounts

pub constant_there : (d : Design) (k : ℕ) (x : Expr) (value : ℤ) (bits : ℕ) (signed : Bool) → DraftKeeps d → k < length d.exprs → slice_get d.exprs k ≡ Some x → x ≡ Const value bits signed → IsSmall (shape bits signed)
constant_there d k x value bits signed keep l e f =
    let t = term_at-is d.exprs keep.arenas.exprs_lower k (Const value bits signed) (e ∙ ap (λ (y : Expr). Some y) f) in
    constant_small (shape bits signed) (sym (ap (fault_of (shapes d)) t) ∙ keep.arenas.shaped k l)

cut_other : (n : ℕ) (t : ℕ → Term) (x : Expr) → ((value : ℤ) (bits : ℕ) (signed : Bool) → x ≡ Const value bits signed → ⊥) → cut_amount n (node_term t x) ≡ node_term t x
cut_other n t (Const value bits signed) h = absurd (h value bits signed refl)
cut_other n t (Sig x) h = refl
cut_other n t (Unary op of) h = refl
cut_other n t (Binary op left right) h = refl
cut_other n t (Mux c then_ else_) h = refl
cut_other n t (Cat parts) h = refl
cut_other n t (Pick items index) h = refl
cut_other n t (Replicate of count) h = refl
cut_other n t (Slice of low high) h = refl
cut_other n t (Fetch memory width at) h = refl

-- an amount that is no constant stays
pub other_stays : (d : Design) (n k : ℕ) (x : Expr) → DraftKeeps d → slice_get d.exprs k ≡ Some x → ((value : ℤ) (bits : ℕ) (signed : Bool) → x ≡ Const value bits signed → ⊥) → cut_amount n (term_at d.exprs k) ≡ term_at d.exprs k
other_stays d n k x keep e h =
    let t = term_at-is d.exprs keep.arenas.exprs_lower k x e in
    ap (cut_amount n) t ∙ cut_other n (term_at d.exprs) x h ∙ sym t

constant_is : (d : Design) (k : ℕ) (x : Expr) (value : ℤ) (bits : ℕ) (signed : Bool) → DraftKeeps d → slice_get d.exprs k ≡ Some x → x ≡ Const value bits signed → term_at d.exprs k ≡ Constant value (shape bits signed)
constant_is d k x value bits signed keep e f = term_at-is d.exprs keep.arenas.exprs_lower k (Const value bits signed) (e ∙ ap (λ (y : Expr). Some y) f)

-- the code's count of a constant's value
pub counted : (number : ℕ) (w v : ℤ) (a : Shape) → number ≡ count_of (to_z w128 (of_z w128 w)) → w ≡ wrapped a (to_z w128 (of_z w128 v)) → FitsSigned w128 w → FitsSigned w128 v → number ≡ count_of (wrapped a v)
counted number w v a e f g h = e ∙ ap count_of (to_z-of_z w128 w g ∙ f ∙ ap (wrapped a) (to_z-of_z w128 v h))

-- a constant below so many bits stays, and another is cut
pub below_stays : (d : Design) (n k : ℕ) (x : Expr) (value : ℤ) (bits : ℕ) (signed : Bool) → DraftKeeps d → slice_get d.exprs k ≡ Some x → x ≡ Const value bits signed → count_of (wrapped (shape bits signed) value) < n → cut_amount n (term_at d.exprs k) ≡ term_at d.exprs k
below_stays d n k x value bits signed keep e f h =
    let a = shape bits signed in
    let t = constant_is d k x value bits signed keep e f in
    ap (cut_amount n) t ∙ ap (λ (b : Bool). cond b (Constant (pos n) a) (Constant value a)) (lt-leb n (count_of (wrapped a value)) h) ∙ sym t

pub past_cut : (d : Design) (n k : ℕ) (x : Expr) (value : ℤ) (bits : ℕ) (signed : Bool) → DraftKeeps d → slice_get d.exprs k ≡ Some x → x ≡ Const value bits signed → n ≤ count_of (wrapped (shape bits signed) value) → cut_amount n (term_at d.exprs k) ≡ Constant (pos n) (shape bits signed)
past_cut d n k x value bits signed keep e f h =
    let a = shape bits signed in
    let t = constant_is d k x value bits signed keep e f in
    ap (cut_amount n) t ∙ ap (λ (b : Bool). cond b (Constant (pos n) a) (Constant value a)) (le-leb n (count_of (wrapped a value)) h)

-- ---- children at their new places

pub moved_tree : (s : Shapes) (olds news : List Expr) (places : List ExprId) (id : ExprId) → AreMoved s olds news places → id.place < length places → term_at news (moved_to places id).place ≡ lower_term s (term_at olds id.place)
moved_tree s olds news places id h l = h.trees id.place l

-- a lowered tree has the shape of the tree
pub moved_shape : (s : Shapes) (n : ℕ) (ms : List Memory) (olds news : List Expr) (places : List ExprId) (id : ExprId) → ExprsAreSound s n ms olds → AreMoved s olds news places → id.place < length places → shape_of s (term_at news (moved_to places id).place) ≡ shape_of s (term_at olds id.place)
moved_shape s n ms olds news places id keep h l =
    ap (shape_of s) (h.trees id.place l) ∙ lower_shape s n (term_at olds id.place) (term_keeps s n ms olds id.place keep (omega (arith, h.most)))

pub moved_below : (s : Shapes) (olds news : List Expr) (places is : List ExprId) → AreMoved s olds news places → all_below (length places) is ≡ true → all_below (length news) (map (moved_to places) is) ≡ true
moved_below s olds news places [] h e = refl
moved_below s olds news places (i ∷ is) h e =
    let p = and_parts (nat_lt i.place (length places)) (all_below (length places) is) e in
    and_from (nat_lt (moved_to places i).place (length news)) (all_below (length news) (map (moved_to places) is))
    (lt-ltb (moved_to places i).place (length news) (h.within i.place (ltb-true i.place (length places) p.0)))
    (moved_below s olds news places is h p.1)

pub moved_terms : (s : Shapes) (olds news : List Expr) (places is : List ExprId) → AreMoved s olds news places → all_below (length places) is ≡ true → terms_at (term_at news) (map (moved_to places) is) ≡ lower_terms s (terms_at (term_at olds) is)
moved_terms s olds news places [] h e = refl
moved_terms s olds news places (i ∷ is) h e =
    let p = and_parts (nat_lt i.place (length places)) (all_below (length places) is) e in
    ap (λ (t : Term). MoreTerms t (terms_at (term_at news) (map (moved_to places) is))) (h.trees i.place (ltb-true i.place (length places) p.0))
    ∙ ap (MoreTerms (lower_term s (term_at olds i.place))) (moved_terms s olds news places is h p.1)

moved_shapes : (s : Shapes) (n : ℕ) (ms : List Memory) (olds news : List Expr) (places is : List ExprId) → ExprsAreSound s n ms olds → AreMoved s olds news places → all_below (length places) is ≡ true → shapes_of s (terms_at (term_at news) (map (moved_to places) is)) ≡ shapes_of s (terms_at (term_at olds) is)
moved_shapes s n ms olds news places is keep h e =
    let there = all_wider (length places) (length olds) is h.most e in
    ap (shapes_of s) (moved_terms s olds news places is h e)
    ∙ lower_shapes s n (terms_at (term_at olds) is) (all_keep s n (term_at olds) is (items_keep s n ms olds is keep there))

-- ---- operators

-- an operator that is no right shift stays
other_binary : (s : Shapes) (o : Op) (a b : Term) → (o ≡ op.Shr → ⊥) → lower_binary s o a b ≡ term.Binary o a b
other_binary s op.Neg a b h = refl
other_binary s op.Not a b h = refl
other_binary s op.Add a b h = refl
other_binary s op.Sub a b h = refl
other_binary s op.Mul a b h = refl
other_binary s op.Shl a b h = refl
other_binary s op.Shr a b h = absurd (h refl)
other_binary s op.And a b h = refl
other_binary s op.Or a b h = refl
other_binary s op.Xor a b h = refl
other_binary s op.Eq a b h = refl
other_binary s op.Ne a b h = refl
other_binary s op.Lt a b h = refl
other_binary s op.Le a b h = refl
other_binary s op.Gt a b h = refl
other_binary s op.Ge a b h = refl
other_binary s op.Mux a b h = refl
other_binary s op.Cat a b h = refl
other_binary s op.Replicate a b h = refl

own_fault : (s : Shapes) (o : Op) (a b : Term) → fault_of s (term.Binary o a b) ≡ None → binary_fault o (shape_of s a) (shape_of s b) ≡ None
own_fault s o a b e = none_right (fault_of s b) (binary_fault o (shape_of s a) (shape_of s b)) (none_right (fault_of s a) (or_else (fault_of s b) (binary_fault o (shape_of s a) (shape_of s b))) e)

-- an expression of the design, at its new place
pub record IsFor (r : Read) (d : Design) (v : Operand) (id : ExprId) : Type 0 where
  pub shape : HasShape d v
  pub tree : tree d v.id.place ≡ lower_term (shapes r.design) (tree r.design id.place)

sound_next : (r : Read) (x : Expr) → IsNext r x → ExprIsSound (shapes r.design) (length r.design.signals) r.design.memories r.design.exprs x
sound_next r x n = record { below = n.sound.below; shaped = n.sound.shaped; operands = n.sound.operands; parts = n.sound.parts; named = n.sound.named }

below_most : (r : Read) (id : ExprId) → IsRead r → nat_lt id.place (length r.places) ≡ true → id.place < length r.design.exprs
below_most r id read e = omega (arith, ltb-true id.place (length r.places) e, read.most)

-- its shape is that of the expression
shape_for : (r : Read) (d : Design) (v : Operand) (id : ExprId) → IsRead r → IsLowered r d → id.place < length r.design.exprs → IsFor r d v id → shape_of (shapes d) (tree d v.id.place) ≡ shape_of (shapes r.design) (tree r.design id.place)
shape_for r d v id read low l h =
    let s = shapes r.design in
    let n = length r.design.signals in
    ap (λ (u : Shapes). shape_of u (tree d v.id.place)) (same_shapes r.design d low.signals)
    ∙ ap (shape_of s) h.tree
    ∙ lower_shape s n (tree r.design id.place) (term_keeps s n r.design.memories r.design.exprs id.place (sound r.design (arenas r.design read.keeps)) l)

-- the operands of an operator of the design, at their new places
pub operands_join : (r : Read) (d : Design) (o : Op) (left right : ExprId) (v w : Operand) → IsRead r → IsLowered r d → IsNext r (Binary o left right) → IsFor r d v left → IsFor r d w right → CanJoin d o v.id w.id
operands_join r d o left right v w read low n f g =
    let s = shapes r.design in
    let below = and_parts (nat_lt left.place (length r.places)) (nat_lt right.place (length r.places)) (search n.below) in
    record {
      binary = n.sound.operands;
      left_there = f.shape.there;
      right_there = g.shape.there;
      sound =
          ap (λ (a : Shape). binary_fault o a (shape_of (shapes d) (tree d w.id.place))) (shape_for r d v left read low (below_most r left read below.0) f)
          ∙ ap (binary_fault o (shape_of s (tree r.design left.place))) (shape_for r d w right read low (below_most r right read below.1) g)
          ∙ own_fault s o (tree r.design left.place) (tree r.design right.place) n.sound.shaped;
    }

pub operand_amount : (r : Read) (d : Design) (o : Op) (left right : ExprId) (v w : Operand) → IsRead r → IsLowered r d → IsNext r (Binary o left right) → IsFor r d v left → IsFor r d w right → o ≡ op.Shr → IsAmount d w.id.place
operand_amount r d o left right v w read low n f g q =
    let a = shape_of (shapes d) (tree d v.id.place) in
    let b = shape_of (shapes d) (tree d w.id.place) in
    record {
      there = g.shape.there;
      plain = index_unsigned b (ap (λ (p : Op). binary_fault p a b) (sym q) ∙ (operands_join r d o left right v w read low n f g).sound);
    }

pub shift_put : (r : Read) (d e : Design) (o : Op) (left right : ExprId) (v w : Operand) (id : ℕ) → IsLowered r d → IsFor r d v left → IsFor r d w right → o ≡ op.Shr
    → TermPut d e id (term.Binary op.Shr (tree d v.id.place) (cut_amount v.shape.bits (tree d w.id.place))) → TermPut d e id (lower_term (shapes r.design) (term.Binary o (tree r.design left.place) (tree r.design right.place)))
shift_put r d e o left right v w id low f g q p =
    let s = shapes r.design in
    let x = lower_term s (tree r.design left.place) in
    let y = lower_term s (tree r.design right.place) in
    put_is d e id (term.Binary op.Shr (tree d v.id.place) (cut_amount v.shape.bits (tree d w.id.place))) (lower_binary s o x y) p
    (ap (λ (b : Shape). term.Binary op.Shr (tree d v.id.place) (cut_amount b.bits (tree d w.id.place))) (sym f.shape.shape ∙ ap (λ (u : Shapes). shape_of u (tree d v.id.place)) (same_shapes r.design d low.signals))
    ∙ ap (λ (t : Term). term.Binary op.Shr t (cut_amount (shape_of s t).bits (tree d w.id.place))) f.tree
    ∙ ap (λ (t : Term). term.Binary op.Shr x (cut_amount (shape_of s x).bits t)) g.tree
    ∙ ap (λ (u : Op). lower_binary s u x y) (sym q))

pub binary_put : (r : Read) (d e : Design) (o : Op) (left right : ExprId) (v w : Operand) (id : ℕ) → IsFor r d v left → IsFor r d w right → (o ≡ op.Shr → ⊥)
    → TermPut d e id (term.Binary o (tree d v.id.place) (tree d w.id.place)) → TermPut d e id (lower_term (shapes r.design) (term.Binary o (tree r.design left.place) (tree r.design right.place)))
binary_put r d e o left right v w id f g q p =
    let s = shapes r.design in
    let x = lower_term s (tree r.design left.place) in
    let y = lower_term s (tree r.design right.place) in
    put_is d e id (term.Binary o (tree d v.id.place) (tree d w.id.place)) (lower_binary s o x y) p
    (ap (λ (t : Term). term.Binary o t (tree d w.id.place)) f.tree ∙ ap (term.Binary o x) g.tree ∙ sym (other_binary s o x y q))

-- an operand that is shifted by an amount that was cut
pub shift_join : (d e : Design) (v : Operand) (amount cut : ExprId) (n : ℕ) → HasShape d v → IsAmount d amount.place → TermPut d e cut.place (cut_amount n (tree d amount.place)) → CanJoin e op.Shr v.id cut
shift_join d e v amount cut n h a p =
    let b = shape_of (shapes e) (tree e cut.place) in
    let plain : b.signed ≡ false =
    ap (λ (u : Shapes). (shape_of u (tree e cut.place)).signed) (same_shapes d e p.grows.signals)
    ∙ ap (λ (t : Term). (shape_of (shapes d) t).signed) p.tree
    ∙ ap (λ (c : Shape). c.signed) (cut_shape (shapes d) n (tree d amount.place))
    ∙ a.plain in
    record {
      binary = refl;
      left_there = omega (arith, h.there, p.grows.stays.exprs);
      right_there = p.within;
      sound = ap (λ (c : Bool). cond c (Some SignedShift) None) plain;
    }

-- ---- picks

pub items_pick : (r : Read) (d : Design) (items : List ExprId) (index : ExprId) (v : Operand) → IsRead r → IsLowered r d → IsNext r (Pick items index) → IsFor r d v index → CanPick d (map (moved_to r.places) items) v.shape
items_pick r d items index v read low n f =
    let s = shapes r.design in
    let h = are_moved r d read low in
    let olds = r.design.exprs in
    let below = and_parts (all_below (length r.places) items) (nat_lt index.place (length r.places)) (search n.below) in
    let keep = sound r.design (arenas r.design read.keeps) in
    let ts = terms_at (term_at olds) items in
    let i = term_at olds index.place in
    let moved = map (moved_to r.places) items in
    record {
      some = omega (arith, n.sound.parts, length-map items (moved_to r.places));
      there = search (moved_below s olds d.exprs r.places items h below.0);
      sound =
          ap (λ (u : Shapes). pick_fault (shapes_of u (terms_at (term_at d.exprs) moved)) v.shape) (same_shapes r.design d low.signals)
          ∙ ap (λ (as_ : List Shape). pick_fault as_ v.shape) (moved_shapes s (length r.design.signals) r.design.memories olds d.exprs r.places items keep h below.0)
          ∙ ap (pick_fault (shapes_of s ts)) (sym f.shape.shape ∙ shape_for r d v index read low (below_most r index read below.1) f)
          ∙ none_right (fault_of s i) (pick_fault (shapes_of s ts) (shape_of s i)) (none_right (faults_of s ts) (or_else (fault_of s i) (pick_fault (shapes_of s ts) (shape_of s i))) n.sound.shaped);
    }

pub pick_put : (r : Read) (d e : Design) (items : List ExprId) (index : ExprId) (v : Operand) (id : ℕ) → IsRead r → IsLowered r d → IsNext r (Pick items index) → IsFor r d v index
    → TermPut d e id (pick_from (shapes d) 0 (terms_at (tree d) (map (moved_to r.places) items)) (tree d v.id.place)) → TermPut d e id (lower_term (shapes r.design) (term.Pick (terms_at (tree r.design) items) (tree r.design index.place)))
pick_put r d e items index v id read low n f p =
    let s = shapes r.design in
    let h = are_moved r d read low in
    let olds = r.design.exprs in
    let below = and_parts (all_below (length r.places) items) (nat_lt index.place (length r.places)) (search n.below) in
    let moved = terms_at (tree d) (map (moved_to r.places) items) in
    put_is d e id (pick_from (shapes d) 0 moved (tree d v.id.place)) (pick_from s 0 (lower_terms s (terms_at (term_at olds) items)) (lower_term s (term_at olds index.place))) p
    (ap (λ (u : Shapes). pick_from u 0 moved (tree d v.id.place)) (same_shapes r.design d low.signals)
    ∙ ap (λ (ts : Terms). pick_from s 0 ts (tree d v.id.place)) (moved_terms s olds d.exprs r.places items h below.0)
    ∙ ap (pick_from s 0 (lower_terms s (terms_at (term_at olds) items))) f.tree)

-- ---- other nodes

abbrev pub NoBinary : Expr → Type 0
NoBinary x = (o : Op) (left right : ExprId) → x ≡ Binary o left right → ⊥

abbrev pub NoPick : Expr → Type 0
NoPick x = (items : List ExprId) (index : ExprId) → x ≡ Pick items index → ⊥

-- the tree of the moved node is the lowered tree
pub plain_term : (s : Shapes) (olds news : List Expr) (places : List ExprId) (x : Expr) → AreMoved s olds news places → expr_below x (length places) ≡ true → NoBinary x → NoPick x → node_term (term_at news) (moved_node places x) ≡ lower_term s (node_term (term_at olds) x)
plain_term s olds news places (Const value bits signed) h e b p = refl
plain_term s olds news places (Sig x) h e b p = refl
plain_term s olds news places (Unary o of) h e b p = ap (term.Unary o) (h.trees of.place (ltb-true of.place (length places) e))
plain_term s olds news places (Binary o left right) h e b p = absurd (b o left right refl)
plain_term s olds news places (Mux c then_ else_) h e b p =
    let n = length places in
    let q = and_parts (nat_lt c.place n) (nat_lt then_.place n && nat_lt else_.place n) e in
    let r = and_parts (nat_lt then_.place n) (nat_lt else_.place n) q.1 in
    ap (λ (t : Term). term.Mux t (term_at news (moved_to places then_).place) (term_at news (moved_to places else_).place)) (h.trees c.place (ltb-true c.place n q.0))
    ∙ ap (λ (t : Term). term.Mux (lower_term s (term_at olds c.place)) t (term_at news (moved_to places else_).place)) (h.trees then_.place (ltb-true then_.place n r.0))
    ∙ ap (term.Mux (lower_term s (term_at olds c.place)) (lower_term s (term_at olds then_.place))) (h.trees else_.place (ltb-true else_.place n r.1))
plain_term s olds news places (Cat parts) h e b p = ap term.Cat (moved_terms s olds news places parts h e)
plain_term s olds news places (Pick items index) h e b p = absurd (p items index refl)
plain_term s olds news places (Replicate of count) h e b p = ap (λ (t : Term). term.Replicate t count) (h.trees of.place (ltb-true of.place (length places) e))
plain_term s olds news places (Slice of low high) h e b p = ap (λ (t : Term). term.Slice t low high) (h.trees of.place (ltb-true of.place (length places) e))
plain_term s olds news places (Fetch memory width at) h e b p = ap (term.Fetch memory width) (h.trees at.place (ltb-true at.place (length places) e))

id_below : (s : Shapes) (olds news : List Expr) (places : List ExprId) (id : ExprId) → AreMoved s olds news places → nat_lt id.place (length places) ≡ true → nat_lt (moved_to places id).place (length news) ≡ true
id_below s olds news places id h e = lt-ltb (moved_to places id).place (length news) (h.within id.place (ltb-true id.place (length places) e))

node_below : (s : Shapes) (olds news : List Expr) (places : List ExprId) (x : Expr) → AreMoved s olds news places → expr_below x (length places) ≡ true → expr_below (moved_node places x) (length news) ≡ true
node_below s olds news places (Const value bits signed) h e = refl
node_below s olds news places (Sig x) h e = refl
node_below s olds news places (Unary o of) h e = id_below s olds news places of h e
node_below s olds news places (Binary o left right) h e =
    let q = and_parts (nat_lt left.place (length places)) (nat_lt right.place (length places)) e in
    and_from (nat_lt (moved_to places left).place (length news)) (nat_lt (moved_to places right).place (length news)) (id_below s olds news places left h q.0) (id_below s olds news places right h q.1)
node_below s olds news places (Mux c then_ else_) h e =
    let n = length places in
    let m = length news in
    let q = and_parts (nat_lt c.place n) (nat_lt then_.place n && nat_lt else_.place n) e in
    let r = and_parts (nat_lt then_.place n) (nat_lt else_.place n) q.1 in
    and_from (nat_lt (moved_to places c).place m) (nat_lt (moved_to places then_).place m && nat_lt (moved_to places else_).place m) (id_below s olds news places c h q.0)
    (and_from (nat_lt (moved_to places then_).place m) (nat_lt (moved_to places else_).place m) (id_below s olds news places then_ h r.0) (id_below s olds news places else_ h r.1))
node_below s olds news places (Cat parts) h e = moved_below s olds news places parts h e
node_below s olds news places (Pick items index) h e =
    let q = and_parts (all_below (length places) items) (nat_lt index.place (length places)) e in
    and_from (all_below (length news) (map (moved_to places) items)) (nat_lt (moved_to places index).place (length news)) (moved_below s olds news places items h q.0) (id_below s olds news places index h q.1)
node_below s olds news places (Replicate of count) h e = id_below s olds news places of h e
node_below s olds news places (Slice of low high) h e = id_below s olds news places of h e
node_below s olds news places (Fetch memory width at) h e = id_below s olds news places at h e

operands_kept : (places : List ExprId) (x : Expr) → TakesOperands x → TakesOperands (moved_node places x)
operands_kept places (Const value bits signed) h = h
operands_kept places (Sig x) h = h
operands_kept places (Unary o of) h = h
operands_kept places (Binary o left right) h = h
operands_kept places (Mux c then_ else_) h = h
operands_kept places (Cat parts) h = h
operands_kept places (Pick items index) h = h
operands_kept places (Replicate of count) h = h
operands_kept places (Slice of low high) h = h
operands_kept places (Fetch memory width at) h = h

parts_kept : (places : List ExprId) (x : Expr) → HasParts x → HasParts (moved_node places x)
parts_kept places (Const value bits signed) h = h
parts_kept places (Sig x) h = h
parts_kept places (Unary o of) h = h
parts_kept places (Binary o left right) h = h
parts_kept places (Mux c then_ else_) h = h
parts_kept places (Cat parts) h = omega (arith, h, length-map parts (moved_to places))
parts_kept places (Pick items index) h = omega (arith, h, length-map items (moved_to places))
parts_kept places (Replicate of count) h = h
parts_kept places (Slice of low high) h = h
parts_kept places (Fetch memory width at) h = h

names_kept : (n : ℕ) (ms : List Memory) (places : List ExprId) (x : Expr) → NamesThere n ms x → NamesThere n ms (moved_node places x)
names_kept n ms places (Const value bits signed) h = h
names_kept n ms places (Sig x) h = h
names_kept n ms places (Unary o of) h = h
names_kept n ms places (Binary o left right) h = h
names_kept n ms places (Mux c then_ else_) h = h
names_kept n ms places (Cat parts) h = h
names_kept n ms places (Pick items index) h = h
names_kept n ms places (Replicate of count) h = h
names_kept n ms places (Slice of low high) h = h
names_kept n ms places (Fetch memory width at) h = h

-- the index of a read of a word has the same shape
index_kept : (r : Read) (d : Design) (x : Expr) → IsRead r → IsLowered r d → expr_below x (length r.places) ≡ true → HasPlainIndex (shapes r.design) r.design.exprs x → HasPlainIndex (shapes d) d.exprs (moved_node r.places x)
index_kept r d (Const value bits signed) read low e h = tt
index_kept r d (Sig x) read low e h = tt
index_kept r d (Unary o of) read low e h = tt
index_kept r d (Binary o left right) read low e h = tt
index_kept r d (Mux c then_ else_) read low e h = tt
index_kept r d (Cat parts) read low e h = tt
index_kept r d (Pick items index) read low e h = tt
index_kept r d (Replicate of count) read low e h = tt
index_kept r d (Slice of low_ high) read low e h = tt
index_kept r d (Fetch memory width at) read low e h =
    let s = shapes r.design in
    let n = length r.design.signals in
    let here = at.place in
    ap (λ (u : Shapes). (shape_of u (tree d (moved_to r.places at).place)).signed) (same_shapes r.design d low.signals)
    ∙ ap (λ (t : Term). (shape_of s t).signed) ((are_moved r d read low).trees here (ltb-true here (length r.places) e))
    ∙ ap (λ (a : Shape). a.signed) (lower_shape s n (tree r.design here) (term_keeps s n r.design.memories r.design.exprs here (sound r.design (arenas r.design read.keeps)) (below_most r at read e)))
    ∙ h

pub plain_kept : (places : List ExprId) (x : Expr) → NoPick x → is_no_pick (moved_node places x) ≡ true
plain_kept places (Const value bits signed) p = refl
plain_kept places (Sig x) p = refl
plain_kept places (Unary o of) p = refl
plain_kept places (Binary o left right) p = refl
plain_kept places (Mux c then_ else_) p = refl
plain_kept places (Cat parts) p = refl
plain_kept places (Pick items index) p = absurd (p items index refl)
plain_kept places (Replicate of count) p = refl
plain_kept places (Slice of low high) p = refl
plain_kept places (Fetch memory width at) p = refl

-- the moved node can be added, and its tree is the lowered one
pub plain_added : (r : Read) (d : Design) (x : Expr) → IsRead r → IsLowered r d → IsNext r x → NoBinary x → NoPick x → CanAdd d (moved_node r.places x)
plain_added r d x read low n b p =
    let s = shapes r.design in
    let h = are_moved r d read low in
    let olds = r.design.exprs in
    let keep = sound r.design (arenas r.design read.keeps) in
    let count = length r.design.signals in
    let below : expr_below x (length r.places) ≡ true = search n.below in
    record {
      sound = record {
        below = search (node_below s olds d.exprs r.places x h below);
        shaped = ap (λ (u : Shapes). fault_of u (node_term (tree d) (moved_node r.places x))) (same_shapes r.design d low.signals)
            ∙ ap (fault_of s) (plain_term s olds d.exprs r.places x h below b p) ∙ (lower_keeps s count (node_term (term_at olds) x) keep.small (node_keeps s count r.design.memories olds x keep (sound_next r x n))).fault;
        operands = operands_kept r.places x n.sound.operands;
        parts = parts_kept r.places x n.sound.parts;
        named = subst (λ (ms : List Memory). NamesThere (length d.signals) ms (moved_node r.places x)) (sym low.memories)
            (subst (λ (ss : List Signal). NamesThere (length ss) r.design.memories (moved_node r.places x)) (sym low.signals) (names_kept count r.design.memories r.places x n.sound.named));
        index = index_kept r d x read low below n.sound.index;
      };
      plain = plain_kept r.places x p;
    }

pub plain_put : (r : Read) (d e : Design) (x : Expr) (id : ℕ) → IsRead r → IsLowered r d → IsNext r x → NoBinary x → NoPick x → ExprAdded d e (moved_node r.places x) id → TermPut d e id (lower_term (shapes r.design) (node_term (tree r.design) x))
plain_put r d e x id read low n b p q =
    put_is d e id (node_term (tree d) (moved_node r.places x)) (lower_term (shapes r.design) (node_term (tree r.design) x)) (term_put d e (moved_node r.places x) id q)
    (plain_term (shapes r.design) r.design.exprs d.exprs r.places x (are_moved r d read low) (search n.below) b p)

-- ---- one node more

-- the places so far, and one more
pub none_lowered : (d : Design) (hs : List Shape) (ss : List Signal) (ms : List Memory) → ss ≡ d.signals → ms ≡ d.memories → IsLowered (record { design = d; shapes = hs; places = [] }) (started ss ms)
none_lowered d hs ss ms e f = record { signals = e; memories = f; within = λ k l. absurd (omega arith); trees = λ k l. absurd (omega arith) }

pub more_lowered : (r : Read) (d e : Design) (x : Expr) (id : ExprId) → IsRead r → IsLowered r d → slice_get r.design.exprs (length r.places) ≡ Some x → TermPut d e id.place (lower_term (shapes r.design) (node_term (tree r.design) x))
    → IsLowered (record { design = r.design; shapes = r.shapes; places = r.places ++ id ∷ [] }) e
more_lowered r d e x id read h at p =
    let k = length r.places in
    let longer = length_push r.places id in
    let z = the_expr 0 in
    let here : place_at (r.places ++ id ∷ []) k ≡ id.place = ap (λ (i : ExprId). i.place) (at_last r.places id z) in
    let front = λ (j : ℕ) (l : j < k). let q : place_at (r.places ++ id ∷ []) j ≡ place_at r.places j = ap (λ (i : ExprId). i.place) (at_front r.places id j z l) in q in
    record {
      signals = p.grows.signals ∙ h.signals;
      memories = p.grows.memories ∙ h.memories;
      within = places_more (λ j. place_at (r.places ++ id ∷ []) j < length e.exprs) k (length (r.places ++ id ∷ [])) longer
          (λ j l. let w = h.within j l in omega (arith, front j l, w, p.grows.stays.exprs))
          (omega (arith, here, p.within));
      trees = places_more (λ j. tree e (place_at (r.places ++ id ∷ []) j) ≡ lower_term (shapes r.design) (tree r.design j)) k (length (r.places ++ id ∷ [])) longer
          (λ j l. ap (tree e) (front j l) ∙ p.grows.stays.terms (place_at r.places j) (h.within j l) ∙ h.trees j l)
          (ap (tree e) here ∙ p.tree ∙ sym (ap (lower_term (shapes r.design)) (term_at-is r.design.exprs read.keeps.arenas.exprs_lower k x at)));
    }

-- the next node of the design
pub next_node : (r : Read) (x : Expr) → IsRead r → slice_get r.design.exprs (length r.places) ≡ Some x → IsNext r x
next_node r x read at =
    let own = item_sound (shapes r.design) (length r.design.signals) r.design.memories r.design.exprs (length r.places) x (sound r.design (arenas r.design read.keeps)) at in
    record {
      below = search (lower_at expr_below r.design.exprs read.keeps.arenas.exprs_lower (length r.places) x at);
      sound = record { below = own.below; shaped = own.shaped; operands = own.operands; parts = own.parts; named = own.named; index = read.keeps.arenas.indices (length r.places) x at };
    }
