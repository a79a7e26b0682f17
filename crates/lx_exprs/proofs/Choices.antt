-- Choices of an item by an index: the chain from an item on, and that it has no fault.
use Rattle.std.proofs.Common.{◌≡◌, ℕ, zero, suc, ◌+◌, ◌<◌, ◌≤◌, List, [], ◌∷◌, length, get_or, drop, refl, sym, ap, subst, ◌∙◌, arith, nat_lt, ◌&&◌}
use Rattle.std.specs.Prelude.{None, IsTrue}
use Rattle.std.proofs.lemmas.List.{drop_all}
use Rattle.lx_num.specs.declared.Shape.{Shape}
use Rattle.lx_circuit.specs.Terms.{Term, Mux, MoreTerms}
use Rattle.std.proofs.lemmas.Bool.{lt-ltb, and_from}
use Rattle.lx_fhdl.specs.declared.exprs.Expr.TheVariants as expr
use Rattle.lx_circuit.specs.Shapes.{Shapes, fault_of, or_else, shape_of, shapes_of, joined, pick_shape, pick_fault, index_fault, too_wide}
use Rattle.lx_fhdl.specs.Below.{ExprId, all_below}
use Rattle.lx_fhdl.specs.Nodes.{EachPlace}
use Rattle.lx_fhdl.specs.Trees.{terms_at, term_at}
use Rattle.lx_fhdl.specs.declared.exprs.Expr.{Expr}
use Rattle.lx_fhdl.proofs.Arena.{each_place}
use Rattle.lx_fhdl.proofs.Operators.{none_right, not_wide}
use Rattle.lx_fhdl.proofs.Parts.{next_part}
use Rattle.lx_lowering.specs.Lowering.{TermKeeps}
use Rattle.lx_lowering.specs.Terms.{is_item, pick_from}
use Rattle.lx_lowering.proofs.Picks.{others_bits, pick_from_keeps}
use Rattle.lx_lowering.proofs.TermFacts.{TermsKeep, keeps_none, keeps_more, mux_own}
use Rattle.lx_fhdl.specs.Designs.{shapes, term}
use Rattle.lx_fhdl.specs.Drafts.{DraftKeeps}
use Rattle.lx_fhdl.specs.declared.design.Design.{Design}
use Rattle.lx_fhdl.specs.declared.design.Memory.{Memory}
use Rattle.lx_plain.specs.Plain.{CanAdd, TermPut}
use Rattle.lx_plain.specs.Sources.{CanChoose, CanPick}
use Rattle.lx_plain.proofs.Sound.{ExprsAreSound, grows_then, put_same, put_after, put_is, same_shapes, sound, term_keeps, term_kept}
use Rattle.lx_width.proofs.Widths.{part_there}

-- ---- the chain

more_items : (s : Shapes) (t : ℕ → Term) (k : ℕ) (a i : Term) (ys : List ExprId) → 0 < length ys → pick_from s k (MoreTerms a (terms_at t ys)) i ≡ Mux (is_item s i k) a (pick_from s (k + 1) (terms_at t ys) i)
more_items s t k a i [] h = absurd (omega arith)
more_items s t k a i (y ∷ ys) h = refl

some_left : {X : Type 0} (xs : List X) (k : ℕ) → k < length xs → 0 < length (drop k xs)
some_left [] k h = absurd (omega arith)
some_left (x ∷ xs) zero h = omega arith
some_left (x ∷ xs) (suc k) h = some_left xs k (omega arith)

-- the last item
pub choices_last : (s : Shapes) (t : ℕ → Term) (items : List ExprId) (k : ℕ) (d : ExprId) (i : Term) → k + 1 ≡ length items → pick_from s k (terms_at t (drop k items)) i ≡ t (get_or items k d).place
choices_last s t items k d i h =
    let l : k < length items = omega arith in
    ap (λ (ys : List ExprId). pick_from s k (terms_at t ys) i) (next_part items k d l)
    ∙ ap (λ (ys : List ExprId). pick_from s k (MoreTerms (t (get_or items k d).place) (terms_at t ys)) i) (drop_all (k + 1) items (omega arith))

-- one more item before the others
pub choices_step : (s : Shapes) (t : ℕ → Term) (items : List ExprId) (k : ℕ) (d : ExprId) (i : Term) → k + 1 < length items
    → pick_from s k (terms_at t (drop k items)) i ≡ Mux (is_item s i k) (t (get_or items k d).place) (pick_from s (k + 1) (terms_at t (drop (k + 1) items)) i)
choices_step s t items k d i h =
    let l : k < length items = omega arith in
    ap (λ (ys : List ExprId). pick_from s k (terms_at t ys) i) (next_part items k d l)
    ∙ more_items s t k (t (get_or items k d).place) i (drop (k + 1) items) (some_left items (k + 1) h)

-- ---- no fault

narrow_from : (s : Shapes) (t : ℕ → Term) (items : List ExprId) (k : ℕ) → k < length items → (pick_shape (shapes_of s (terms_at t (drop k items)))).bits ≤ (pick_shape (shapes_of s (terms_at t items))).bits
narrow_from s t [] k h = absurd (omega arith)
narrow_from s t (x ∷ xs) zero h = omega arith
narrow_from s t (x ∷ []) (suc k) h = absurd (omega arith)
narrow_from s t (x ∷ y ∷ ys) (suc k) h =
    let below = narrow_from s t (y ∷ ys) k (omega arith) in
    omega (arith, below, others_bits (shape_of s (t x.place)) (shape_of s (t y.place)) (shapes_of s (terms_at t ys)))

pub all_keep : (s : Shapes) (n : ℕ) (t : ℕ → Term) (is : List ExprId) → EachPlace (λ k. TermKeeps s n (t k)) is → TermsKeep s n (terms_at t is)
all_keep s n t [] h = keeps_none s n
all_keep s n t (i ∷ is) h = keeps_more s n (t i.place) (terms_at t is) h.0 (all_keep s n t is h.1)

each_left : (P : ℕ → Type 0) (is : List ExprId) (k : ℕ) → EachPlace P is → EachPlace P (drop k is)
each_left P [] zero h = tt
each_left P [] (suc k) h = tt
each_left P (i ∷ is) zero h = h
each_left P (i ∷ is) (suc k) h = each_left P is k h.1

pub items_keep : (s : Shapes) (n : ℕ) (ms : List Memory) (xs : List Expr) (items : List ExprId) → ExprsAreSound s n ms xs → IsTrue (all_below (length xs) items) → EachPlace (λ k. TermKeeps s n (term_at xs k)) items
items_keep s n ms xs items keep h = each_place (λ k. TermKeeps s n (term_at xs k)) (length xs) items (λ k l. term_keeps s n ms xs k keep l) (search h)

pub choices_keep : (s : Shapes) (n : ℕ) (ms : List Memory) (xs : List Expr) (items : List ExprId) (index k : ℕ) (a : Shape) (d : ExprId) → ExprsAreSound s n ms xs → IsTrue (all_below (length xs) items) → index < length xs → pick_fault (shapes_of s (terms_at (term_at xs) items)) a ≡ None → k < length items
    → TermKeeps s n (pick_from s k (terms_at (term_at xs) (drop k items)) (term_at xs index))
choices_keep s n ms xs items index k a d keep h l e g =
    let t = term_at xs in
    let x = get_or items k d in
    let ys = drop (k + 1) items in
    let all = pick_shape (shapes_of s (terms_at t items)) in
    let most : all.bits ≤ 127 = not_wide all.bits (none_right (index_fault a) (too_wide all.bits) e) in
    let part = next_part items k d g in
    let each : EachPlace (λ j. TermKeeps s n (t j)) (x ∷ ys) = subst (λ (is : List ExprId). EachPlace (λ j. TermKeeps s n (t j)) is) part (each_left (λ j. TermKeeps s n (t j)) items k (items_keep s n ms xs items keep h)) in
    let bits : (pick_shape (shapes_of s (terms_at t (drop k items)))).bits ≤ 127 = omega (arith, narrow_from s t items k g, most) in
    subst (λ (is : List ExprId). TermKeeps s n (pick_from s k (terms_at t is) (t index))) (sym part)
    (pick_from_keeps s n k (t x.place) (terms_at t ys) (t index) keep.small (term_keeps s n ms xs index keep l) (all_keep s n t (x ∷ ys) each)
    (subst (λ (is : List ExprId). (pick_shape (shapes_of s (terms_at t is))).bits ≤ 127) part bits))

-- ---- as the code builds the chain, from the last item on

-- the chain from an item on
abbrev pub chain : Design → List ExprId → ℕ → ℕ → Term
chain d items index k = pick_from (shapes d) k (terms_at (term d) (drop k items)) (term d index)

pub chain_last : (x : Design) (items : List ExprId) (index k : ℕ) (d : ExprId) → IsTrue (all_below (length x.exprs) items) → k + 1 ≡ length items → TermPut x x (get_or items k d).place (chain x items index k)
chain_last x items index k d h e = put_same x (get_or items k d).place (chain x items index k) (part_there (length x.exprs) items k d h (omega arith)) (sym (choices_last (shapes x) (term x) items k d (term x index) e))

pub chain_choose : (x y : Design) (items : List ExprId) (index k item : ℕ) (chosen : ExprId) (a : Shape) (d : ExprId) → DraftKeeps x → CanPick x items a → index < length x.exprs
    → k + 1 ≡ item → item < length items → TermPut x y chosen.place (chain x items index item) → CanChoose y (get_or items k d) chosen
chain_choose x y items index k item chosen a d keep can l q g p =
    let s = shapes x in
    let t = term x in
    let yes = (get_or items k d).place in
    let more : k + 1 < length items = omega arith in
    let own = part_there (length x.exprs) items k d can.there (omega arith) in
    let n = length x.signals in
    let whole = subst (λ (u : Term). TermKeeps s n u) (choices_step s t items k d (t index) more) (choices_keep s n x.memories x.exprs items index k a d (sound x keep) can.there l can.sound (omega arith)) in
    record {
      yes_there = omega (arith, own, p.grows.stays.exprs);
      no_there = p.within;
      sound =
          ap (λ (r : Shapes). too_wide (joined (shape_of r (term y yes)) (shape_of r (term y chosen.place))).bits) (same_shapes x y p.grows.signals)
          ∙ ap (λ (u : Term). too_wide (joined (shape_of s u) (shape_of s (term y chosen.place))).bits) (term_kept yes p.grows own)
          ∙ ap (λ (u : Term). too_wide (joined (shape_of s (t yes)) (shape_of s u)).bits) (p.tree ∙ sym (ap (chain x items index) q))
          ∙ mux_own s n (is_item s (t index) k) (t yes) (chain x items index (k + 1)) whole;
    }

pub chain_more : (x y z : Design) (items : List ExprId) (index k item chosen id : ℕ) (a : Shape) (d : ExprId) → CanPick x items a → index < length x.exprs → k + 1 ≡ item → item < length items → TermPut x y chosen (chain x items index item)
    → TermPut y z id (Mux (is_item (shapes y) (term y index) k) (term y (get_or items k d).place) (term y chosen)) → TermPut x z id (chain x items index k)
chain_more x y z items index k item chosen id a d can l q g p r =
    let s = shapes x in
    let t = term x in
    let u = term y in
    let yes = (get_or items k d).place in
    let more : k + 1 < length items = omega arith in
    put_after x y z id (chain x items index k) p.grows
    (put_is y z id (Mux (is_item (shapes y) (u index) k) (u yes) (u chosen)) (chain x items index k) r
    (ap (λ (v : Shapes). Mux (is_item v (u index) k) (u yes) (u chosen)) (same_shapes x y p.grows.signals)
    ∙ ap (λ (v : Term). Mux (is_item s v k) (u yes) (u chosen)) (term_kept index p.grows l)
    ∙ ap (λ (v : Term). Mux (is_item s (t index) k) v (u chosen)) (term_kept yes p.grows (part_there (length x.exprs) items k d can.there (omega arith)))
    ∙ ap (Mux (is_item s (t index) k) (t yes)) (p.tree ∙ sym (ap (chain x items index) q))
    ∙ sym (choices_step s t items k d (t index) more)))

-- ---- a choice by a condition

pub choice_added : (x y : Design) (yes no cond : ExprId) (t : Term) → DraftKeeps y → CanChoose x yes no → TermPut x y cond.place t → CanAdd y (expr.Mux cond yes no)
choice_added x y a b cond t keep can p =
    let n = length y.exprs in
    let yes_there : a.place < n = omega (arith, can.yes_there, p.grows.stays.exprs) in
    let no_there : b.place < n = omega (arith, can.no_there, p.grows.stays.exprs) in
    let s = shapes y in
    let own = too_wide (joined (shape_of s (term y a.place)) (shape_of s (term y b.place))).bits in
    let narrow : own ≡ None =
    ap (λ (r : Shapes). too_wide (joined (shape_of r (term y a.place)) (shape_of r (term y b.place))).bits) (same_shapes x y p.grows.signals)
    ∙ ap (λ (u : Term). too_wide (joined (shape_of (shapes x) u) (shape_of (shapes x) (term y b.place))).bits) (term_kept a.place p.grows can.yes_there)
    ∙ ap (λ (u : Term). too_wide (joined (shape_of (shapes x) (term x a.place)) (shape_of (shapes x) u)).bits) (term_kept b.place p.grows can.no_there)
    ∙ can.sound in
    record {
      sound = record {
        below = search (and_from (nat_lt cond.place n) (nat_lt a.place n && nat_lt b.place n) (lt-ltb cond.place n p.within) (and_from (nat_lt a.place n) (nat_lt b.place n) (lt-ltb a.place n yes_there) (lt-ltb b.place n no_there)));
        shaped =
            ap (λ o. or_else o (or_else (fault_of s (term y a.place)) (or_else (fault_of s (term y b.place)) own))) (keep.arenas.shaped cond.place p.within)
            ∙ ap (λ o. or_else o (or_else (fault_of s (term y b.place)) own)) (keep.arenas.shaped a.place yes_there)
            ∙ ap (λ o. or_else o own) (keep.arenas.shaped b.place no_there)
            ∙ narrow;
        operands = tt;
        parts = tt;
        named = tt;
        index = tt;
      };
      plain = refl;
    }

pub choice_put : (x y z : Design) (c : Term) (a b cond : ExprId) (id : ℕ) → CanChoose x a b → TermPut x y cond.place c → TermPut y z id (Mux (term y cond.place) (term y a.place) (term y b.place))
    → TermPut x z id (Mux c (term x a.place) (term x b.place))
choice_put x y z c a b cond id can p q = record {
  grows = grows_then p.grows q.grows;
  within = q.within;
  tree =
      q.tree
      ∙ ap (λ (u : Term). Mux u (term y a.place) (term y b.place)) p.tree
      ∙ ap (λ (u : Term). Mux c u (term y b.place)) (term_kept a.place p.grows can.yes_there)
      ∙ ap (Mux c (term x a.place)) (term_kept b.place p.grows can.no_there);
}
