-- The values of free expressions, from an arena in which the others are 0.
use Rattle.std.proofs.Common.{◌≡◌, ℕ, ◌+◌, ◌<◌, Bool, true, false, ◌&&◌, List, [], ◌∷◌, ◌++◌, length, take, drop, get_or, refl, sym, ap, ◌∙◌, subst, arith, inl, inr}
use Rattle.std.specs.Prelude.{ℤ, Some, slice_get, IsTrue}
use Rattle.std.proofs.lemmas.Bool.{and_parts, cases_lt}
use Rattle.std.proofs.lemmas.List.{get_or_default, take_at, length_push}
use Rattle.std.proofs.lemmas.Option.{slice_get_within}
use Rattle.std.proofs.Math.Path.{fun_ext}
use Rattle.lx_num.specs.declared.Shape.{Shape}
use Rattle.lx_arena.specs.Lower.{EachLower}
use Rattle.lx_arena.proofs.Places.{by_places, get_front, get_last, lower_at, node_there}
use Rattle.lx_circuit.specs.Places.{Place, Values, At, Word, Kept}
use Rattle.lx_circuit.specs.Shapes.{Shapes, shape_of}
use Rattle.lx_circuit.specs.Terms as term
use Rattle.lx_circuit.specs.Terms.{Term, Terms, MoreTerms}
use Rattle.lx_circuit.specs.Values.{value_of}
use Rattle.lx_fhdl.specs.Below.{ExprId, expr_below}
use Rattle.lx_fhdl.specs.Designs.{shapes}
use Rattle.lx_fhdl.specs.Drafts.{DraftKeeps}
use Rattle.lx_fhdl.specs.Laws.{GivesShapes, OfSignal}
use Rattle.lx_fhdl.specs.Nodes.{EachChild, EachPlace, FitsSignal, IsNode, IsShaped, IsSmall, is_fetch, listed, node_shape, shape_at}
use Rattle.lx_fhdl.specs.Trees.{node_term, term_at, terms_at}
use Rattle.lx_fhdl.specs.declared.design.Design.{Design}
use Rattle.lx_fhdl.specs.declared.exprs.Expr.{Expr}
use Rattle.lx_fhdl.specs.declared.exprs.Expr.TheVariants.{Const, Sig, Unary, Binary, Mux, Cat, Pick, Replicate, Slice, Fetch}
use Rattle.lx_fhdl.proofs.Arena.{each_child}
use Rattle.lx_fhdl.proofs.Meanings.{values_stand}
use Rattle.lx_fhdl.proofs.Trees.{term_at-is}
use Rattle.lx_lowering.specs.Constants.{names_none, zeros}
use Rattle.lx_lower.specs.Fixed.{AreFree, AreValued, IsFixed, IsMask, all_free, free_at, mask_node, node_free}
use Rattle.lx_lower.proofs.Freedom.{Tells, node_tells}
use Rattle.lx_width.specs.Shapes.{AreShapes}
use Rattle.lx_width.proofs.Shaped.{children, node_sound, shape_is}
use Rattle.lx_plain.proofs.Sound.{shape_small, sound}
use Rattle.lx_lowering.proofs.Picks.{small_constant}

-- ---- the arena that is filled

pub mask_none : (xs : List Expr) (free : List Bool) (hs : List Shape) (ys : List Expr) → ys ≡ [] → IsMask xs free hs 0 ys
mask_none xs free hs ys e = record { long = ap length e; each = λ k x l. absurd (omega arith) }

pub mask_below : (free : Bool) (a : Shape) (x node : Expr) (n : ℕ) → node ≡ mask_node free a x → IsTrue (expr_below x n) → IsTrue (expr_below node n)
mask_below true a x node n e h = subst (λ (y : Expr). IsTrue (expr_below y n)) (sym e) h
mask_below false a x node n e h = subst (λ (y : Expr). IsTrue (expr_below y n)) (sym e) (search)

pub mask_more : (xs : List Expr) (free : List Bool) (hs : List Shape) (n : ℕ) (ys : List Expr) (x : Expr) → IsMask xs free hs n ys → slice_get xs n ≡ Some x → IsMask xs free hs (n + 1) (ys ++ mask_node (free_at free n) (shape_at hs n) x ∷ [])
mask_more xs free hs n ys x h at =
    let node = mask_node (free_at free n) (shape_at hs n) x in
    record {
      long = omega (arith, length_push ys node, h.long);
      each = λ k z l e.
          elim (cases_lt k n) [
            | inl p ↦ get_front ys (node ∷ []) k (omega (arith, h.long)) ∙ h.each k z p e
            | inr p ↦
                let q : n ≡ k = omega arith in
                let r : length ys ≡ k = omega (arith, h.long) in
                let same : x ≡ z = cc in
                subst (λ (j : ℕ). slice_get (ys ++ node ∷ []) j ≡ Some (mask_node (free_at free k) (shape_at hs k) z)) r
                (get_last ys node ∙ ap (λ (j : ℕ). Some (mask_node (free_at free j) (shape_at hs j) x)) q ∙ ap (λ (w : Expr). Some (mask_node (free_at free k) (shape_at hs k) w)) same)
          ];
    }

-- by the node that was made
pub mask_next : (xs : List Expr) (free : List Bool) (hs : List Shape) (n : ℕ) (ys zs : List Expr) (x node : Expr) (own : Bool) (a : Shape) → IsMask xs free hs n ys → slice_get xs n ≡ Some x → own ≡ free_at free n → n < length hs
    → node ≡ mask_node own (get_or hs n a) x → zs ≡ ys ++ node ∷ [] → IsMask xs free hs (n + 1) zs
mask_next xs free hs n ys zs x node own a h at l m e f =
    let same : node ≡ mask_node (free_at free n) (shape_at hs n) x =
    e ∙ ap (λ (b : Bool). mask_node b (get_or hs n a) x) l ∙ ap (λ (c : Shape). mask_node (free_at free n) c x) (get_or_default hs n a _ m) in
    subst (IsMask xs free hs (n + 1)) (ap (λ (y : Expr). ys ++ y ∷ []) (sym same) ∙ sym f) (mask_more xs free hs n ys x h at)

-- ---- free nodes

-- they name nothing themselves
no_fetch : (free : List Bool) (x : Expr) → node_free free x ≡ true → is_fetch x ≡ false
no_fetch free (Fetch memory width at) h = absurd (cc)
no_fetch free _ h = refl

no_signal : (free : List Bool) (a : Shape) (x : Expr) → node_free free x ≡ true → FitsSignal [] a x
no_signal free a (Sig x) h = absurd (cc)
no_signal free a _ h = tt

of_signal : (free : List Bool) (s : Shapes) (a : Shape) (x : Expr) → node_free free x ≡ true → OfSignal s a x
of_signal free s a (Sig x) h = absurd (cc)
of_signal free s a _ h = tt

-- two families of trees agree where a child is free
abbrev Alike : List Bool → (ℕ → Term) → (ℕ → Term) → ℕ → Type 0
Alike free t u j = free_at free j ≡ true → t j ≡ u j

places_alike : (free : List Bool) (t u : ℕ → Term) (is : List ExprId) → all_free free is ≡ true → EachPlace (Alike free t u) is → terms_at t is ≡ terms_at u is
places_alike free t u [] f h = refl
places_alike free t u (i ∷ is) f h =
    let p = and_parts (free_at free i.place) (all_free free is) f in
    ap (λ (x : Term). MoreTerms x (terms_at t is)) (h.0 p.0) ∙ ap (MoreTerms (u i.place)) (places_alike free t u is p.1 h.1)

node_alike : (free : List Bool) (t u : ℕ → Term) (x : Expr) → node_free free x ≡ true → EachChild (Alike free t u) x → node_term t x ≡ node_term u x
node_alike free t u (Const value bits signed) f h = refl
node_alike free t u (Sig x) f h = refl
node_alike free t u (Unary o of) f h = ap (term.Unary o) (h f)
node_alike free t u (Binary o left right) f h =
    let p = and_parts (free_at free left.place) (free_at free right.place) f in
    ap (λ (a : Term). term.Binary o a (t right.place)) (h.0 p.0) ∙ ap (term.Binary o (u left.place)) (h.1 p.1)
node_alike free t u (Mux c then_ else_) f h =
    let p = and_parts (free_at free c.place) (free_at free then_.place && free_at free else_.place) f in
    let q = and_parts (free_at free then_.place) (free_at free else_.place) p.1 in
    ap (λ (a : Term). term.Mux a (t then_.place) (t else_.place)) (h.0 p.0)
    ∙ ap (λ (a : Term). term.Mux (u c.place) a (t else_.place)) (h.1.0 q.0)
    ∙ ap (term.Mux (u c.place) (u then_.place)) (h.1.1 q.1)
node_alike free t u (Cat parts) f h = ap term.Cat (places_alike free t u parts f h)
node_alike free t u (Pick items index) f h =
    let p = and_parts (all_free free items) (free_at free index.place) f in
    ap (λ (a : Terms). term.Pick a (t index.place)) (places_alike free t u items p.0 h.0) ∙ ap (term.Pick (terms_at u items)) (h.1 p.1)
node_alike free t u (Replicate of count) f h = ap (λ (a : Term). term.Replicate a count) (h f)
node_alike free t u (Slice of low high) f h = ap (λ (a : Term). term.Slice a low high) (h f)
node_alike free t u (Fetch memory width at) f h = absurd (cc)

-- ---- the masked arena

-- what was seen of a design's expressions
pub record Seen (d : Design) (free : List Bool) (hs : List Shape) (ys : List Expr) : Type 0 where
  pub keeps : DraftKeeps d
  pub shapes : AreShapes d hs
  pub are_free : AreFree d.exprs (length d.exprs) free
  pub lower : EachLower expr_below ys
  pub mask : IsMask d.exprs free hs (length d.exprs) ys

-- a node of the design, free where its tree is
free_is : (d : Design) (free : List Bool) (hs : List Shape) (ys : List Expr) (k : ℕ) (x : Expr) → Seen d free hs ys → slice_get d.exprs k ≡ Some x → free_at free k ≡ node_free free x
free_is d free hs ys k x h e =
    let low = h.keeps.arenas.exprs_lower in
    let l = slice_get_within d.exprs k x e in
    h.are_free.each k l
    ∙ ap names_none (term_at-is d.exprs low k x e)
    ∙ sym (node_tells free (term_at d.exprs) x (each_child (Tells free (term_at d.exprs)) k x (λ j i. h.are_free.each j (omega arith)) (lower_at expr_below d.exprs low k x e)))

-- free trees are the same
free_trees : (d : Design) (free : List Bool) (hs : List Shape) (ys : List Expr) → Seen d free hs ys → (k : ℕ) → k < length d.exprs → Alike free (term_at ys) (term_at d.exprs) k
free_trees d free hs ys h = by_places (Alike free (term_at ys) (term_at d.exprs)) d.exprs (λ k x found below f.
    let low = h.keeps.arenas.exprs_lower in
    let own = sym (free_is d free hs ys k x h found) ∙ f in
    let at : slice_get ys k ≡ Some x = h.mask.each k x (slice_get_within d.exprs k x found) found ∙ ap (λ (b : Bool). Some (mask_node b (shape_at hs k) x)) f in
    term_at-is ys h.lower k x at
    ∙ node_alike free (term_at ys) (term_at d.exprs) x own (each_child (Alike free (term_at ys) (term_at d.exprs)) k x below (lower_at expr_below d.exprs low k x found))
    ∙ sym (term_at-is d.exprs low k x found))

own_shape : (s : Shapes) (own : Shape) (hs : List Shape) (x : Expr) → own ≡ node_shape s hs x → own ≡ node_shape (λ _. own) hs x
own_shape s own hs (Sig x) e = refl
own_shape s own hs (Const value bits signed) e = e
own_shape s own hs (Unary o of) e = e
own_shape s own hs (Binary o left right) e = e
own_shape s own hs (Mux c then_ else_) e = e
own_shape s own hs (Cat parts) e = e
own_shape s own hs (Pick items index) e = e
own_shape s own hs (Replicate of count) e = e
own_shape s own hs (Slice of low high) e = e
own_shape s own hs (Fetch memory width at) e = e

-- the nodes of the mask
mask_at : (d : Design) (free : List Bool) (hs : List Shape) (ys : List Expr) (k : ℕ) (y : Expr) → Seen d free hs ys → slice_get ys k ≡ Some y → (x : Expr) × (slice_get d.exprs k ≡ Some x) × (mask_node (free_at free k) (shape_at hs k) x ≡ y)
mask_at d free hs ys k y h e =
    let l : k < length d.exprs = omega (arith, slice_get_within ys k y e, h.mask.long) in
    let (x, at) = node_there d.exprs k l in
    let same = h.mask.each k x l at in
    let is : mask_node (free_at free k) (shape_at hs k) x ≡ y = cc in
    (x, at, is)

pub mask_shaped : (d : Design) (free : List Bool) (hs : List Shape) (ys : List Expr) → Seen d free hs ys → IsShaped ys hs []
mask_shaped d free hs ys h = record {
  long = h.shapes.long ∙ sym h.mask.long;
  each = λ k y e.
      let (x, at, is) = mask_at d free hs ys k y h e in
      subst (λ (z : Expr). IsNode hs [] k z) is (by_free k x at (free_at free k) refl);
}
  where
    s : Shapes
    s = shapes d

    by_free : (k : ℕ) (x : Expr) → slice_get d.exprs k ≡ Some x → (b : Bool) → free_at free k ≡ b → IsNode hs [] k (mask_node b (shape_at hs k) x)
    by_free k x at true f =
        let low = h.keeps.arenas.exprs_lower in
        let l = slice_get_within d.exprs k x at in
        let own = sym (free_is d free hs ys k x h at) ∙ f in
        let known = children d k hs x h.keeps (λ j i. h.shapes.each j (omega arith)) at in
        record {
          shaped = own_shape s (shape_at hs k) hs x (h.shapes.each k l ∙ ap (shape_of s) (term_at-is d.exprs low k x at) ∙ shape_is s (term_at d.exprs) hs x known);
          sound = node_sound d k hs x h.keeps known at;
          parts = h.keeps.arenas.parts k x at;
          no_fetch = no_fetch free x own;
          signal = no_signal free (shape_at hs k) x own;
        }
    by_free k x at false f =
        let l = slice_get_within d.exprs k x at in
        let small : IsSmall (shape_at hs k) = subst IsSmall (sym (h.shapes.each k l)) (shape_small s (length d.signals) d.memories d.exprs k (sound d h.keeps) l) in
        record { shaped = refl; sound = small_constant (shape_at hs k) small; parts = tt; no_fetch = refl; signal = tt }

mask_gives : (d : Design) (free : List Bool) (hs : List Shape) (ys : List Expr) → Seen d free hs ys → GivesShapes (shapes d) ys hs
mask_gives d free hs ys h k y e =
    let (x, at, is) = mask_at d free hs ys k y h e in
    subst (λ (z : Expr). OfSignal (shapes d) (shape_at hs k) z) is (by_free k x at (free_at free k) refl)
  where
    by_free : (k : ℕ) (x : Expr) → slice_get d.exprs k ≡ Some x → (b : Bool) → free_at free k ≡ b → OfSignal (shapes d) (shape_at hs k) (mask_node b (shape_at hs k) x)
    by_free k x at true f = of_signal free (shapes d) (shape_at hs k) x (sym (free_is d free hs ys k x h at) ∙ f)
    by_free k x at false f = tt

none_listed : (p : Place) → listed [] p ≡ zeros p
none_listed (At x) = refl
none_listed (Word m k) = refl
none_listed (Kept j) = refl

-- what is evaluated in the mask are the values of the free trees
pub are_fixed : (d : Design) (free : List Bool) (hs : List Shape) (ys : List Expr) (known : List ℤ) → Seen d free hs ys → AreValued ys hs known → IsFixed d (record { free = free; values = known })
are_fixed d free hs ys known h v = record {
  free = h.are_free;
  long = v.long ∙ h.mask.long;
  values = λ k l f.
      let m : k < length ys = omega (arith, h.mask.long) in
      sym (values_stand (shapes d) ys hs [] known h.lower (mask_shaped d free hs ys h) (mask_gives d free hs ys h) v.each k m).value
      ∙ ap (value_of (shapes d) (listed [])) (free_trees d free hs ys h k l f)
      ∙ ap (λ (u : Values). value_of (shapes d) u (term_at d.exprs k)) (fun_ext none_listed);
}

-- a vector after its items are written through a slice
pub written : (n : ℕ) (xs ys zs : List ℤ) → zs ≡ take n (xs ++ drop (length xs) ys) → length xs ≡ n → xs ≡ zs
written n xs ys zs e l = sym (e ∙ take_at xs (drop (length xs) ys) n l)
