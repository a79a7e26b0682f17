-- Nodes of an arena: their shapes are small, and their values fit.
use Rattle.std.proofs.Common.{◌≡◌, ℕ, ◌-◌, ◌*◌, ◌<◌, ◌≤◌, Bool, true, false, cond, ◌&&◌, List, [], ◌∷◌, length, refl, sym, ◌∙◌, subst, arith, nat_lt}
use Rattle.std.specs.Int.{w128}
use mir.Val.{to_z, of_z}
use Rattle.std.proofs.lemmas.Int.{to_z-of_z}
use Rattle.std.specs.Prelude.{FitsSigned, ℤ, pos, Option, Some, None, slice_get, nat_le, nat_eq}
use Rattle.std.proofs.lemmas.Bool.{ltb-true, leb-true, eqb-false, and_parts}
use Rattle.std.proofs.lemmas.Nat.{mul-le}
use Rattle.lx_num.specs.declared.Shape.{Shape}
use Rattle.lx_num.specs.Ints.{FitsBits, Fits, shape, unsigned}
use Rattle.lx_num.proofs.Ranges.{fits_pos, FitsBits-wrap_bits}
use Rattle.lx_arena.specs.Lower.{EachLower}
use Rattle.lx_arena.proofs.Places.{by_places, lower_at}
use Rattle.lx_circuit.specs.declared.WidthFault.{WidthFault}
use Rattle.lx_circuit.specs.declared.WidthFault.TheVariants.{BadSlice, BadWidth}
use Rattle.lx_circuit.specs.Shapes.{joined, bits_sum, some_signed, widest, pick_shape, unary_shape, too_wide, index_fault, constant_fault, replicate_fault, slice_fault}
use Rattle.lx_circuit.specs.Places.{Word}
use Rattle.lx_circuit.specs.Values.{cat_pattern, count_of}
use Rattle.lx_circuit.proofs.Values.{cat_below}
use Rattle.lx_fhdl.specs.Below.{ExprId, all_below, expr_below}
use Rattle.lx_fhdl.specs.Keeping.{EachOf}
use Rattle.lx_fhdl.specs.Nodes.{IsSmall, EachPlace, EachChild, HasParts, FitsSignal, IsNode, IsShaped, IsFit, IsKnown, shape_at, shapes_at, value_at, values_at, listed, node_shape, node_fault, node_value}
use Rattle.lx_fhdl.specs.declared.exprs.Expr.{Expr}
use Rattle.lx_fhdl.specs.declared.exprs.Expr.TheVariants.{Const, Sig, Unary, Binary, Mux, Cat, Pick, Replicate, Slice, Fetch}
use Rattle.lx_fhdl.proofs.Items.{EachFits, sum_some, widest_some, items_fit}
use Rattle.lx_fhdl.proofs.Fitting.{fits_copies, fits_field, fits_mux, fits_zero}
use Rattle.lx_fhdl.proofs.Operators.{binary_fits, binary_small, unary_fits, unary_some, joined_some, not_wide, none_right, by_none}

-- a fact of all lower places is one of each child
pub each_place : (P : ℕ → Type 0) (n : ℕ) (is : List ExprId) → ((k : ℕ) → k < n → P k) → all_below n is ≡ true → EachPlace P is
each_place P n [] h e = tt
each_place P n (i ∷ is) h e =
    let p = and_parts (nat_lt i.place n) (all_below n is) e in
    (h i.place (ltb-true i.place n p.0), each_place P n is h p.1)

pub each_child : (P : ℕ → Type 0) (n : ℕ) (x : Expr) → ((k : ℕ) → k < n → P k) → expr_below x n ≡ true → EachChild P x
each_child P n (Const value bits signed) h e = tt
each_child P n (Sig x) h e = tt
each_child P n (Unary op of) h e = h of.place (ltb-true of.place n e)
each_child P n (Binary op left right) h e =
    let p = and_parts (nat_lt left.place n) (nat_lt right.place n) e in
    (h left.place (ltb-true left.place n p.0), h right.place (ltb-true right.place n p.1))
each_child P n (Mux cond then_ else_) h e =
    let p = and_parts (nat_lt cond.place n) (nat_lt then_.place n && nat_lt else_.place n) e in
    let q = and_parts (nat_lt then_.place n) (nat_lt else_.place n) p.1 in
    (h cond.place (ltb-true cond.place n p.0), (h then_.place (ltb-true then_.place n q.0), h else_.place (ltb-true else_.place n q.1)))
each_child P n (Cat parts) h e = each_place P n parts h e
each_child P n (Pick items index) h e =
    let p = and_parts (all_below n items) (nat_lt index.place n) e in
    (each_place P n items h p.0, h index.place (ltb-true index.place n p.1))
each_child P n (Replicate of count) h e = h of.place (ltb-true of.place n e)
each_child P n (Slice of low high) h e = h of.place (ltb-true of.place n e)
each_child P n (Fetch memory width at) h e = h at.place (ltb-true at.place n e)

-- two facts of each child give a third
pub both_places : (P Q R : ℕ → Type 0) (is : List ExprId) → ((k : ℕ) → P k → Q k → R k) → EachPlace P is → EachPlace Q is → EachPlace R is
both_places P Q R [] f p q = tt
both_places P Q R (i ∷ is) f p q = (f i.place p.0 q.0, both_places P Q R is f p.1 q.1)

pub both_children : (P Q R : ℕ → Type 0) (x : Expr) → ((k : ℕ) → P k → Q k → R k) → EachChild P x → EachChild Q x → EachChild R x
both_children P Q R (Const value bits signed) f p q = tt
both_children P Q R (Sig x) f p q = tt
both_children P Q R (Unary op of) f p q = f of.place p q
both_children P Q R (Binary op left right) f p q = (f left.place p.0 q.0, f right.place p.1 q.1)
both_children P Q R (Mux cond then_ else_) f p q = (f cond.place p.0 q.0, (f then_.place p.1.0 q.1.0, f else_.place p.1.1 q.1.1))
both_children P Q R (Cat parts) f p q = both_places P Q R parts f p q
both_children P Q R (Pick items index) f p q = (both_places P Q R items f p.0 q.0, f index.place p.1 q.1)
both_children P Q R (Replicate of count) f p q = f of.place p q
both_children P Q R (Slice of low high) f p q = f of.place p q
both_children P Q R (Fetch memory width at) f p q = f at.place p q

-- faults that a shape without them rules out
pub by_test_none : (b : Bool) (w : WidthFault) (o : Option WidthFault) → cond b (Some w) o ≡ None → (b ≡ false) × (o ≡ None)
by_test_none true w o e = absurd (cc)
by_test_none false w o e = (refl, e)

pub constant_small : (a : Shape) → constant_fault a ≡ None → IsSmall a
constant_small a e =
    let p = by_test_none (nat_eq a.bits 0) BadWidth (too_wide a.bits) e in
    let q = eqb-false a.bits 0 p.0 in
    record { some = omega (arith, q); most = not_wide a.bits p.1 }

pub replicate_small : (a : Shape) (count : ℕ) → IsSmall a → replicate_fault a count ≡ None → (1 ≤ count * a.bits) × (count * a.bits ≤ 127)
replicate_small a count s e =
    let p = by_test_none (nat_eq count 0) BadWidth (too_wide (count * a.bits)) e in
    let q : 1 ≤ count = omega (arith, eqb-false count 0 p.0) in
    (omega (arith, mul-le 1 1 count a.bits q s.some), not_wide (count * a.bits) p.1)

pub slice_inside : (a : Shape) (low high : ℕ) → slice_fault a low high ≡ None → (low < high) × (high ≤ a.bits)
slice_inside a low high e =
    let p = and_parts (nat_lt low high) (nat_le high a.bits) (by_none (nat_lt low high && nat_le high a.bits) BadSlice e) in
    (ltb-true low high p.0, leb-true high a.bits p.1)

-- the shapes of parts
each_small : (hs : List Shape) (is : List ExprId) → EachPlace (λ k. IsSmall (shape_at hs k)) is → EachOf IsSmall (shapes_at hs is)
each_small hs [] h = tt
each_small hs (i ∷ is) h = (h.0, each_small hs is h.1)

some_shapes : (hs : List Shape) (is : List ExprId) → 0 < length is → 0 < length (shapes_at hs is)
some_shapes hs [] h = absurd (omega arith)
some_shapes hs (i ∷ is) h = omega arith

-- the shape that a node has from small ones is small
made_small : (own : Shape) (hs : List Shape) (vals : List ℤ) (x : Expr) → node_fault hs x ≡ None → HasParts x → FitsSignal vals own x → EachChild (λ k. IsSmall (shape_at hs k)) x → IsSmall (node_shape (λ _. own) hs x)
made_small own hs vals (Const value bits signed) e p f s = constant_small (shape bits signed) e
made_small own hs vals (Sig x) e p f s = record { some = f.0; most = omega (arith, f.1) }
made_small own hs vals (Unary op of) e p f s = record { some = unary_some op (shape_at hs of.place) s.some; most = not_wide (unary_shape op (shape_at hs of.place)).bits e }
made_small own hs vals (Binary op left right) e p f s = binary_small op (shape_at hs left.place) (shape_at hs right.place) s.0 s.1 e
made_small own hs vals (Mux cond then_ else_) e p f s =
    record { some = joined_some (shape_at hs then_.place) (shape_at hs else_.place) s.1.0; most = not_wide (joined (shape_at hs then_.place) (shape_at hs else_.place)).bits e }
made_small own hs vals (Cat parts) e p f s = record { some = sum_some (shapes_at hs parts) (some_shapes hs parts p) (each_small hs parts s); most = not_wide (bits_sum (shapes_at hs parts)) e }
made_small own hs vals (Pick items index) e p f s = record {
  some = widest_some (some_signed (shapes_at hs items)) (shapes_at hs items) (some_shapes hs items p) (each_small hs items s.0);
  most = not_wide (pick_shape (shapes_at hs items)).bits (none_right (index_fault (shape_at hs index.place)) (too_wide (pick_shape (shapes_at hs items)).bits) e);
}
made_small own hs vals (Replicate of count) e p f s =
    let q = replicate_small (shape_at hs of.place) count s e in
    record { some = q.0; most = q.1 }
made_small own hs vals (Slice of low high) e p f s =
    let q = slice_inside (shape_at hs of.place) low high e in
    record { some = omega arith; most = omega (arith, s.most) }
made_small own hs vals (Fetch memory width at) e p f s = constant_small (unsigned width) e

-- the shapes of all nodes are small
pub all_small : (xs : List Expr) (hs : List Shape) (vals : List ℤ) → EachLower expr_below xs → IsShaped xs hs vals → (k : ℕ) → k < length xs → IsSmall (shape_at hs k)
all_small xs hs vals low s = by_places (λ k. IsSmall (shape_at hs k)) xs (λ k x e h.
    let m = s.each k x e in
    subst (λ (a : Shape). IsSmall a) (sym m.shaped)
    (made_small (shape_at hs k) hs vals x m.sound m.parts m.signal (each_child (λ j. IsSmall (shape_at hs j)) k x h (lower_at expr_below xs low k x e))))

-- the children of a node are known, where their values fit
pub children_known : (xs : List Expr) (hs : List Shape) (vals known : List ℤ) → EachLower expr_below xs → IsShaped xs hs vals → length known ≡ length xs → (n : ℕ) (x : Expr) → n < length xs → slice_get xs n ≡ Some x → EachChild (IsFit hs known) x → EachChild (IsKnown hs known) x
children_known xs hs vals known l s long n x w e f =
    both_children (IsFit hs known) (λ k. k < n) (IsKnown hs known) x
    (λ k fit below. record { has_shape = omega (arith, s.long); has_value = omega arith; small = all_small xs hs vals l s k (omega arith); fit = fit })
    f
    (each_child (λ k. k < n) n x (λ k h. h) (lower_at expr_below xs l n x e))

-- the values of parts fit
each_fits : (hs : List Shape) (known : List ℤ) (is : List ExprId) → EachPlace (IsKnown hs known) is → EachFits (shapes_at hs is) (values_at known is)
each_fits hs known [] h = tt
each_fits hs known (i ∷ is) h = (h.0.fit, each_fits hs known is h.1)

-- the value of a node fits the shape that it has from its children
made_fits : (own : Shape) (hs : List Shape) (vals known : List ℤ) (x : Expr) → node_fault hs x ≡ None → FitsSignal vals own x → EachChild (IsKnown hs known) x → Fits (node_shape (λ _. own) hs x) (node_value hs (listed vals) known x)
made_fits own hs vals known (Const value bits signed) e f k = FitsBits-wrap_bits bits signed value (constant_small (shape bits signed) e).some
made_fits own hs vals known (Sig x) e f k = f.3
made_fits own hs vals known (Unary op of) e f k = unary_fits op (shape_at hs of.place) (value_at known of.place) k.small.some k.fit
made_fits own hs vals known (Binary op left right) e f k =
    binary_fits op (shape_at hs left.place) (shape_at hs right.place) (value_at known left.place) (value_at known right.place) k.0.small k.1.small e k.0.fit k.1.fit
made_fits own hs vals known (Mux cond then_ else_) e f k =
    fits_mux (shape_at hs then_.place) (shape_at hs else_.place) (value_at known cond.place) (value_at known then_.place) (value_at known else_.place) k.1.0.fit k.1.1.fit
made_fits own hs vals known (Cat parts) e f k = fits_pos (bits_sum (shapes_at hs parts)) (cat_pattern (shapes_at hs parts) (values_at known parts)) (cat_below (shapes_at hs parts) (values_at known parts))
made_fits own hs vals known (Pick items index) e f k =
    let some = some_signed (shapes_at hs items) in
    items_fit some (widest some (shapes_at hs items)) (shapes_at hs items) (values_at known items) (pos 0) (count_of (value_at known index.place)) (fits_zero (widest some (shapes_at hs items)) some) (omega arith) (λ g. g) (each_fits hs known items k.0)
made_fits own hs vals known (Replicate of count) e f k = fits_copies (shape_at hs of.place) count (value_at known of.place)
made_fits own hs vals known (Slice of low high) e f k = fits_field (value_at known of.place) low (high - low)
made_fits own hs vals known (Fetch memory width at) e f k = FitsBits-wrap_bits width false (listed vals (Word memory (count_of (value_at known at.place)))) (constant_small (unsigned width) e).some

pub node_fits : (hs : List Shape) (vals known : List ℤ) (n : ℕ) (x : Expr) → IsNode hs vals n x → EachChild (IsKnown hs known) x → Fits (shape_at hs n) (node_value hs (listed vals) known x)
node_fits hs vals known n x m k =
    let P : Shape → Type 0 = λ a. Fits a (node_value hs (listed vals) known x) in
    subst P (sym m.shaped) (made_fits (shape_at hs n) hs vals known x m.sound m.signal k)

-- an operand as the code hands it on
pub operand_fits : (hs : List Shape) (known : List ℤ) (k : ℕ) (a : Shape) (v : ℤ) → a ≡ shape_at hs k → v ≡ value_at known k → FitsSigned w128 v → IsKnown hs known k → FitsBits a.bits a.signed (to_z w128 (of_z w128 v))
operand_fits hs known k a v e f g h =
    let P : Shape → Type 0 = λ s. FitsBits s.bits s.signed (to_z w128 (of_z w128 v)) in
    let Q : ℤ → Type 0 = λ z. Fits (shape_at hs k) z in
    subst P (sym e) (subst Q (sym (to_z-of_z w128 v g ∙ f)) h.fit)

pub places_within : (hs : List Shape) (known : List ℤ) (is : List ExprId) → EachPlace (IsKnown hs known) is → EachPlace (λ k. k < length known) is
places_within hs known [] h = tt
places_within hs known (i ∷ is) h = (h.0.has_value, places_within hs known is h.1)

-- the number that the code gives back for a node
pub given_fits : (hs : List Shape) (vals known : List ℤ) (n : ℕ) (x : Expr) (r : ℤ) → IsNode hs vals n x → EachChild (IsKnown hs known) x → FitsSigned w128 r → r ≡ node_value hs (listed vals) known x → Fits (shape_at hs n) (to_z w128 (of_z w128 r))
given_fits hs vals known n x r m k f e =
    let P : ℤ → Type 0 = λ z. Fits (shape_at hs n) z in
    subst P (sym (to_z-of_z w128 r f ∙ e)) (node_fits hs vals known n x m k)
