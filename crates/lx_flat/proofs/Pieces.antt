-- Assignments to the parts of targets that are put one after the other.
use Rattle.std.proofs.Common.{◌≡◌, ℕ, zero, suc, ◌+◌, ◌<◌, ◌≤◌, ◌≢◌, Bool, true, false, List, [], ◌∷◌, length, drop, get_or, nat_eq, nat_lt, refl, sym, ap, subst, ◌∙◌, arith, length-drop, eq-eqb, ne_eqb, eqb-true}
use Rattle.std.specs.Prelude.{cond, IsTrue}
use Rattle.std.proofs.lemmas.Bool.{and_parts, ltb-true}
use Rattle.std.proofs.lemmas.List.{append-nil, drop_all}
use Rattle.lx_fhdl.specs.declared.exprs.Expr.{Expr}
use Rattle.lx_num.specs.declared.Shape.{Shape}
use Rattle.lx_circuit.specs.Shapes.{Shapes, shape_of}
use Rattle.lx_circuit.specs.Statements as tree
use Rattle.lx_circuit.specs.Statements.{Block, sum_bits, target_bits}
use Rattle.lx_circuit.specs.Terms.{Term}
use Rattle.lx_fhdl.specs.Below.{ExprId, TargetId, all_targets_below, target_below}
use Rattle.lx_fhdl.specs.Designs as design
use Rattle.lx_fhdl.specs.Designs.{shapes, term}
use Rattle.lx_fhdl.specs.Keeping.{TargetStands}
use Rattle.lx_fhdl.specs.Stmts.{node_target, targets_at}
use Rattle.lx_fhdl.specs.declared.design.Design.{Design}
use Rattle.lx_fhdl.specs.declared.exprs.SigId.{SigId}
use Rattle.lx_fhdl.specs.declared.stmts.Target.{Target}
use Rattle.lx_fhdl.specs.declared.stmts.Target.TheVariants as target
use Rattle.lx_lowering.specs.Flat.{append, when, without_low, is_last, item_assigns, assigns, parts_assigns, items_assigns}
use Rattle.lx_plain.specs.Lines.{Assigned, both_lines, target_lines, targets_lines, under, under_each}
use Rattle.lx_plain.specs.Operands.{HasShape}
use Rattle.lx_plain.specs.Owned.{AreOwned, CanAssign, Put, PutSome, PutUnder}
use Rattle.lx_plain.specs.Plain.{Grows, TermPut}
use Rattle.lx_flat.specs.Ready.{IsReady, RestPut, choice}
use Rattle.lx_plain.specs.Sources.{IsLowered, Read, place_at}
use Rattle.lx_plain.specs.declared.operands.Operand.{Operand}
use Rattle.lx_plain.specs.declared.owned.Own.{Own}
use Rattle.lx_flat.specs.Puts.{items_lines}
use Rattle.lx_flat.proofs.Items.{next_item}
use Rattle.lx_plain.proofs.Lining.{under_append}
use Rattle.lx_plain.proofs.Puts.{holds_is, holds_kept, holds_new, some_is, some_lines, some_more, some_grown, some_all, when_under}
use Rattle.lx_plain.proofs.Sound.{grows_same, grows_then, same_shapes, term_kept}

-- ---- nodes of the design

-- the tree of a node that is known
pub node_as : (t : ℕ → Term) (g : ℕ → tree.Target) (u : tree.Target) (x y : Target) → u ≡ node_target t g x → x ≡ y → u ≡ node_target t g y
node_as t g u x y e f = e ∙ ap (node_target t g) f

pub stands_as : (s : Shapes) (n : ℕ) (xs : List Expr) (x y : Target) → TargetStands s n xs x → x ≡ y → TargetStands s n xs y
stands_as s n xs x y h e = subst (λ (z : Target). TargetStands s n xs z) e h

pub whole_stands : (s : Shapes) (n : ℕ) (xs : List Expr) (x : Target) (y : SigId) → TargetStands s n xs x → x ≡ target.Whole y → y.0 < n
whole_stands s n xs x y h e = stands_as s n xs x (target.Whole y) h e

pub most_as : (s : Shapes) (t : ℕ → Term) (g : ℕ → tree.Target) (x y : Target) → target_bits s (node_target t g x) ≤ 127 → x ≡ y → target_bits s (node_target t g y) ≤ 127
most_as s t g x y h e = subst (λ (z : Target). target_bits s (node_target t g z) ≤ 127) e h

pub cat_most : (s : Shapes) (t : ℕ → Term) (g : ℕ → tree.Target) (x : Target) {parts : List TargetId} → target_bits s (node_target t g x) ≤ 127 → x ≡ target.Cat parts → sum_bits s (targets_at g parts) ≤ 127
cat_most s t g x {parts} h e = most_as s t g x (target.Cat parts) h e

-- its parts are lower
pub parts_lower : (k : ℕ) (x : Target) (parts : List TargetId) → IsTrue (target_below x k) → x ≡ target.Cat parts → IsTrue (all_targets_below k parts)
parts_lower k x parts l e = subst (λ (y : Target). IsTrue (target_below y k)) e l

pub items_lower : (k : ℕ) (x : Target) (items : List TargetId) (index : ExprId) → IsTrue (target_below x k) → x ≡ target.Pick items index → IsTrue (all_targets_below k items)
items_lower k x items index l e = subst (λ (y : Target). IsTrue (target_below y k)) e l

pub target_below_at : (n : ℕ) (ids : List TargetId) (k : ℕ) (z : TargetId) → IsTrue (all_targets_below n ids) → k < length ids → (get_or ids k z).place < n
target_below_at n [] k z p h = absurd (omega arith)
target_below_at n (i ∷ is) zero z p h = ltb-true i.place n (and_parts (nat_lt i.place n) (all_targets_below n is) (search p)).0
target_below_at n (i ∷ is) (suc k) z p h = target_below_at n is k z (search ((and_parts (nat_lt i.place n) (all_targets_below n is) (search p)).1)) (omega arith)

-- ---- what stays

pub lowered_kept : {r : Read} {x y : Design} → Grows x y → IsLowered r x → IsLowered r y
lowered_kept {r} {x} {y} g h = record {
  signals = g.signals ∙ h.signals;
  memories = g.memories ∙ h.memories;
  within = λ k l. omega (arith, h.within k l, g.stays.exprs);
  trees = λ k l. g.stays.terms (place_at r.places k) (h.within k l) ∙ h.trees k l;
}

-- a draft that grew is ready, for statements at the end of another list
pub ready_for : {r : Read} {x y : Design} {a : List Own} (b : List Own) → IsReady r x a → Grows x y → AreOwned y b → IsReady r y b
ready_for b r g there = record { lowered = lowered_kept g r.lowered; all = r.all; owned = there }

-- the shapes of a draft that is ready are those of the design
pub ready_shapes : {r : Read} {x y : Design} {a : List Own} → IsReady r x a → Grows x y → shapes y ≡ shapes r.design
ready_shapes {r} {x} {y} h g = same_shapes r.design y (g.signals ∙ h.lowered.signals)

-- an operand has its shape by the design's signals too
pub own_shape_is : {r : Read} {d : Design} {a : List Own} {v : Operand} → IsReady r d a → HasShape d v → shape_of (shapes r.design) (term d v.id.place) ≡ v.shape
own_shape_is {r} {d} {v = v} h s = ap (λ (u : Shapes). shape_of u (term d v.id.place)) (sym (ready_shapes h (grows_same d))) ∙ s.shape

-- and an expression of the design, lowered, the shape that it has in the design
pub own_shape_as : {r : Read} {d : Design} {a : List Own} {v : Operand} {t : Term} {s : Shape} → IsReady r d a → HasShape d v → term d v.id.place ≡ t → v.shape ≡ s → shape_of (shapes r.design) t ≡ s
own_shape_as {r} h p e f = ap (shape_of (shapes r.design)) (sym e) ∙ own_shape_is h p ∙ f

-- ---- a signal, or some of its bits

pub whole_added : (r : Read) (d : Design) (a : List Own) (x : SigId) → IsReady r d a → TargetStands (shapes r.design) (length r.design.signals) r.design.exprs (target.Whole x)
    → target_bits (shapes r.design) (tree.Whole x.0) ≤ 127 → CanAssign d x.0 (target.Whole x)
whole_added r d a x h stands bits =
    let n : x.0 < length d.signals = omega (arith, stands, ap length h.lowered.signals) in
    record {
      signal = n;
      target = record { below = search; stands = n; bits = subst (λ (s : Shapes). target_bits s (tree.Whole x.0) ≤ 127) (sym (ready_shapes h (grows_same d))) bits };
      plain = eq-eqb x.0 x.0 refl;
    }

pub part_added : (r : Read) (d : Design) (a : List Own) (x : SigId) (low len : ℕ) → IsReady r d a → TargetStands (shapes r.design) (length r.design.signals) r.design.exprs (target.Part x low len)
    → target_bits (shapes r.design) (tree.Part x.0 low len) ≤ 127 → CanAssign d x.0 (target.Part x low len)
part_added r d a x low len h stands bits =
    let n : x.0 < length d.signals = omega (arith, stands.0, ap length h.lowered.signals) in
    let same = ready_shapes h (grows_same d) in
    record {
      signal = n;
      target = record {
        below = search;
        stands = (n, stands.1, subst (λ (s : Shapes). low + len ≤ (s x.0).bits) (sym same) stands.2);
        bits = subst (λ (s : Shapes). target_bits s (tree.Part x.0 low len) ≤ 127) (sym same) bits;
      };
      plain = eq-eqb x.0 x.0 refl;
    }

-- ---- parts side by side

pub rest_put : (r : Read) (x y : Design) (w v : Operand) (k low : ℕ) → HasShape x w → v.shape ≡ w.shape → low ≡ target_bits (shapes r.design) (design.target r.design k)
    → TermPut x y v.id.place (without_low (shapes x) low (term x w.id.place)) → RestPut r x y w v k false
rest_put r x y w v k low h e f p = record {
  grows = p.grows;
  shape = record { there = p.within; shape = ap (λ (s : Shapes). shape_of s (term y v.id.place)) (same_shapes x y p.grows.signals) ∙ ap (shape_of (shapes x)) p.tree ∙ h.shape ∙ sym e };
  tree = λ g. p.tree ∙ ap (λ (n : ℕ). without_low (shapes x) n (term x w.id.place)) f;
}

pub rest_none : (r : Read) (x : Design) (w : Operand) (k : ℕ) → HasShape x w → RestPut r x x w w k true
rest_none r x w k h = record { grows = grows_same x; shape = h; tree = λ e. absurd (cc) }

-- the parts after one of them, from the number without its bits
pub parts_next : (s : Shapes) (g : ℕ → tree.Target) (xs : List TargetId) (k : ℕ) (z : TargetId) (e f : Term) (last : Bool) → k < length xs → last ≡ nat_eq (k + 1) (length xs) → (last ≡ false → f ≡ without_low s (target_bits s (g (get_or xs k z).place)) e)
    → parts_assigns s (targets_at g (drop k xs)) e ≡ append (assigns s (g (get_or xs k z).place) e) (parts_assigns s (targets_at g (drop (k + 1) xs)) f)
parts_next s g xs k z e f last l h t =
    ap (λ (ys : List TargetId). parts_assigns s (targets_at g ys) e) (next_item xs k z l)
    ∙ ap (append (assigns s (g (get_or xs k z).place) e)) (by_last last h t)
  where
    by_last : (b : Bool) → b ≡ nat_eq (k + 1) (length xs) → (b ≡ false → f ≡ without_low s (target_bits s (g (get_or xs k z).place)) e)
        → parts_assigns s (targets_at g (drop (k + 1) xs)) (without_low s (target_bits s (g (get_or xs k z).place)) e) ≡ parts_assigns s (targets_at g (drop (k + 1) xs)) f
    by_last false h t = ap (parts_assigns s (targets_at g (drop (k + 1) xs))) (sym (t refl))
    by_last true h t =
        let none = drop_all (k + 1) xs (omega (arith, eqb-true (k + 1) (length xs) (sym h))) in
        ap (λ (ys : List TargetId). parts_assigns s (targets_at g ys) (without_low s (target_bits s (g (get_or xs k z).place)) e)) none
        ∙ sym (ap (λ (ys : List TargetId). parts_assigns s (targets_at g ys) f) none)

-- ---- items

-- an item under its condition, and the items after it
pub items_next : (s : Shapes) (g : ℕ → tree.Target) (xs : List TargetId) (k : ℕ) (z : TargetId) (i e : Term) (last : Bool) → k < length xs → length xs ≢ 1 → last ≡ nat_eq (k + 1) (length xs)
    → items_assigns s k (targets_at g (drop k xs)) i e ≡ append (when (choice s i k last) (assigns s (g (get_or xs k z).place) e)) (items_assigns s (k + 1) (targets_at g (drop (k + 1) xs)) i e)
items_next s g xs k z i e last l m h =
    ap (λ (ys : List TargetId). items_assigns s k (targets_at g ys) i e) (next_item xs k z l)
    ∙ by_more (drop (k + 1) xs) refl
  where
    own : Block
    own = assigns s (g (get_or xs k z).place) e

    by_more : (ys : List TargetId) → drop (k + 1) xs ≡ ys → item_assigns s k own (targets_at g ys) (items_assigns s (k + 1) (targets_at g ys) i e) i ≡ append (when (choice s i k last) own) (items_assigns s (k + 1) (targets_at g ys) i e)
    by_more [] f =
        let n : length xs ≡ k + 1 = omega (arith, length-drop (k + 1) xs, ap length f) in
        let most : last ≡ true = h ∙ eq-eqb (k + 1) (length xs) (sym n) in
        let some : k ≡ 0 → ⊥ = λ q. m (omega arith) in
        ap (λ (b : Bool). cond b own (when (is_last s i k) own)) (ne_eqb k 0 some)
        ∙ ap (λ (b : Bool). when (choice s i k b) own) (sym most)
    by_more (y ∷ ys) f =
        let n : k + 1 ≡ length xs → ⊥ = λ q. absurd (omega (arith, length-drop (k + 1) xs, ap length f)) in
        ap (λ (b : Bool). append (when (choice s i k b) own) (items_assigns s (k + 1) (targets_at g (y ∷ ys)) i e)) (sym (h ∙ ne_eqb (k + 1) (length xs) n))

-- the lines of a target and of those after it
next_lines : (g : ℕ → tree.Target) (xs : List TargetId) (k : ℕ) (d : TargetId) (line : ℕ) → k < length xs → (x : ℕ) → targets_lines (targets_at g (drop k xs)) line x ≡ both_lines (target_lines (g (get_or xs k d).place) line) (targets_lines (targets_at g (drop (k + 1) xs)) line) x
next_lines g xs k d line l x =
    ap (λ (ys : List TargetId). targets_lines (targets_at g ys) line x) (next_item xs k d l)

done_lines : (g : ℕ → tree.Target) (xs : List TargetId) (k line : ℕ) → length xs ≤ k → (x : ℕ) → targets_lines (targets_at g (drop k xs)) line x ≡ []
done_lines g xs k line l x = ap (λ (ys : List TargetId). targets_lines (targets_at g ys) line x) (drop_all k xs l)

-- several items stand each under a condition, and a lone one under none
pub several_items : (g : ℕ → tree.Target) (xs : List TargetId) (line : ℕ) → length xs ≢ 1 → (x : ℕ) → items_lines (targets_at g xs) line x ≡ under line (targets_lines (targets_at g xs) line x)
several_items g [] line l x = refl
several_items g (a ∷ []) line l x = absurd (l refl)
several_items g (a ∷ b ∷ more) line l x = refl

pub lone_item : (g : ℕ → tree.Target) (xs : List TargetId) (a : TargetId) (line : ℕ) → xs ≡ a ∷ [] → (x : ℕ) → target_lines (g a.place) line x ≡ items_lines (targets_at g xs) line x
lone_item g xs a line e x = sym (ap (λ (ys : List TargetId). items_lines (targets_at g ys) line x) e ∙ append-nil (target_lines (g a.place) line x))

-- one item more
pub items_more : (s : Shapes) (g : ℕ → tree.Target) (xs : List TargetId) (k line : ℕ) (d : TargetId) (i e f h : Term) (last : Bool) (test : ℕ) {u x y z w : Design} {then_ a b c : List Own} {whole : Block} {ls : ℕ → List Assigned} → k < length xs → length xs ≢ 1 → last ≡ nat_eq (k + 1) (length xs) → f ≡ e → h ≡ i
    → PutSome u x a b whole (items_assigns s k (targets_at g (drop k xs)) i e) ls (under_each line (targets_lines (targets_at g (drop k xs)) line))
    → Put x y [] then_ (assigns s (g (get_or xs k d).place) f) (target_lines (g (get_or xs k d).place) line) → shapes y ≡ s → TermPut y z test (choice (shapes y) h k last) → PutUnder z w b c (term z test) then_ [] line
    → PutSome u w a c whole (items_assigns s (k + 1) (targets_at g (drop (k + 1) xs)) i e) ls (under_each line (targets_lines (targets_at g (drop (k + 1) xs)) line))
items_more s g xs k line d i e f h last test {z = z} {then_ = then_} {b = b} l m n o q p own sy r when_ =
    let tree : term z test ≡ choice s i k last = r.tree ∙ ap (λ (v : Shapes). choice v h k last) sy ∙ ap (λ (j : Term). choice s j k last) q in
    let t = g (get_or xs k d).place in
    some_more
    (some_lines (λ j. ap (under line) (next_lines g xs k d line l j) ∙ under_append line (target_lines t line j) (targets_lines (targets_at g (drop (k + 1) xs)) line j)) (some_is (items_next s g xs k d i e last l m n) p))
    (when_under test (assigns s t e) (grows_then own.grows r.grows) p.owned (holds_is (ap (assigns s t) o) (holds_kept r.grows (holds_new own))) tree when_)

pub items_done : (s : Shapes) (g : ℕ → tree.Target) (xs : List TargetId) (k line : ℕ) (i e : Term) {u x : Design} {a b : List Own} {whole : Block} {ls : ℕ → List Assigned} → length xs ≤ k
    → PutSome u x a b whole (items_assigns s k (targets_at g (drop k xs)) i e) ls (under_each line (targets_lines (targets_at g (drop k xs)) line)) → Put u x a b whole ls
items_done s g xs k line i e l p = some_all (λ j. ap (under line) (done_lines g xs k line l j)) (some_is (ap (λ (ys : List TargetId). items_assigns s k (targets_at g ys) i e) (drop_all k xs l)) p)

-- one part more
pub parts_more : (s : Shapes) (g : ℕ → tree.Target) (xs : List TargetId) (k line : ℕ) (d : TargetId) (e f : Term) (last : Bool) {u x y z : Design} {a b c : List Own} {whole : Block} {ls : ℕ → List Assigned} → k < length xs → last ≡ nat_eq (k + 1) (length xs)
    → (last ≡ false → f ≡ without_low s (target_bits s (g (get_or xs k d).place)) e)
    → PutSome u x a b whole (parts_assigns s (targets_at g (drop k xs)) e) ls (targets_lines (targets_at g (drop k xs)) line)
    → Put x y b c (assigns s (g (get_or xs k d).place) e) (target_lines (g (get_or xs k d).place) line) → Grows y z
    → PutSome u z a c whole (parts_assigns s (targets_at g (drop (k + 1) xs)) f) ls (targets_lines (targets_at g (drop (k + 1) xs)) line)
parts_more s g xs k line d e f last l n o p q grows = some_grown (some_more (some_lines (next_lines g xs k d line l) (some_is (parts_next s g xs k d e f last l n o) p)) q) grows

pub parts_done : (s : Shapes) (g : ℕ → tree.Target) (xs : List TargetId) (k line : ℕ) (e : Term) {u x : Design} {a b : List Own} {whole : Block} {ls : ℕ → List Assigned} → length xs ≤ k
    → PutSome u x a b whole (parts_assigns s (targets_at g (drop k xs)) e) ls (targets_lines (targets_at g (drop k xs)) line) → Put u x a b whole ls
parts_done s g xs k line e l p = some_all (done_lines g xs k line l) (some_is (ap (λ (ys : List TargetId). parts_assigns s (targets_at g ys) e) (drop_all k xs l)) p)

-- the number of the parts after this one
pub rest_as : {r : Read} {x y z : Design} {v w : Operand} {k : ℕ} (last : Bool) (s : Shapes) → shapes y ≡ s → v.id.place < length x.exprs → Grows x y → RestPut r y z v w k last → last ≡ false
    → term z w.id.place ≡ without_low s (target_bits (shapes r.design) (design.target r.design k)) (term x v.id.place)
rest_as {r} {y = y} {v = v} {k = k} last s sy there g p e =
    let low = target_bits (shapes r.design) (design.target r.design k) in
    p.tree e ∙ ap (λ (u : Shapes). without_low u low (term y v.id.place)) sy ∙ ap (without_low s low) (term_kept v.id.place g there)

-- an assignment to a target, by its node
pub put_target : (s : Shapes) (line : ℕ) (e : Term) {x y : Design} {a b : List Own} {t u : tree.Target} → u ≡ t → Put x y a b (assigns s t e) (target_lines t line) → Put x y a b (assigns s u e) (target_lines u line)
put_target s line e {x} {y} {a} {b} same p = subst (λ (v : tree.Target). Put x y a b (assigns s v e) (target_lines v line)) (sym same) p
